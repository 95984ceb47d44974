-- How many bytes decide a part at most. A part that was read has no more bytes, and if that many
-- are there, no field is missing. More bytes after those do not change what was read.
use Rattle.std.proofs.Common.{◌≡◌, ℕ, zero, suc, ◌+◌, ◌-◌, ◌<◌, ◌≤◌, ◌⊎◌, inl, inr, Bool, true, false, eqb, List, [], ◌++◌, length, drop, take, slice_index, Result, Ok, Err, nat_lt, if◌then◌else◌, arith, refl, ap, sym, ◌∙◌, length-append, length-take, append-nil, ⊎_elim}
use Rattle.std.proofs.lemmas.{Bool.{cases_lt, ltb-false}, List.{take-append-le, drop-append-le}}
use Rattle.byteorder.specs.Endian.{big_number}
use Rattle.link_wire.specs.{Codes.is_start, Getting.{AreNeeded, IsPart}}
use Rattle.link_wire.specs.Limits.{longest_node, longest_list, most_items, longest_head}
use Rattle.link_wire.specs.Part.{Part, ◌>>=◌, bytes_at, number_at}
use Rattle.link_wire.specs.Message.{contact_at, skipped_at, is_total_length, total_at, item_head_at, items_at, items_of, list_at, node_bytes_at, node_at, segment_items_at, segment_at, ack_at, refuse_at, sess_term_at, msg_reject_at, sess_init_at, fields_at, message_at}
use Rattle.link_wire.proofs.FieldReads.{bytes_at-short, bytes_at-enough, bytes_gone, both_read, same_part}
use Rattle.link_wire.proofs.Sound.{has_total_size}
use Rattle.link_wire.specs.declared.fault.WireFault.{WireFault}
use Rattle.link_wire.specs.declared.fault.WireFault.TheVariants.{Truncated, ItemsOverrun}
use Rattle.link_wire.specs.declared.{list.ItemHead.ItemHead, message.ListOf.ListOf}
use Rattle.link_wire.specs.declared.message.ListOf.TheVariants.{Session, Transfer}

-- the reading does not change when more bytes follow, unless a field is missing
pub record Steady {A : Type 0} (part : List ℕ → Part A) : Type 0 where
  pub read : (bytes more : List ℕ) (value : A) (rest : List ℕ) → part bytes ≡ Ok (value, rest)
      → part (bytes ++ more) ≡ Ok (value, rest ++ more)
  pub faulty : (bytes more : List ℕ) (fault : WireFault) → (fault ≡ Truncated → ⊥)
      → part bytes ≡ Err fault → part (bytes ++ more) ≡ Err fault

pub record IsBounded {A : Type 0} (most : ℕ) (part : List ℕ → Part A) : Type 0 where
  pub read : (bytes : List ℕ) (value : A) (rest : List ℕ) → part bytes ≡ Ok (value, rest)
      → (length bytes ≤ length rest + most) × (length rest ≤ length bytes)
  pub cut : (bytes : List ℕ) → part bytes ≡ Err Truncated → length bytes < most
  pub steady : Steady part

-- a fault of two steps is one of the first step, or one of the second
both_cut : {A B : Type 0} (read : Result A WireFault) (next : A → Result B WireFault)
    (fault : WireFault) → read >>= next ≡ Err fault
    → (read ≡ Err fault) ⊎ ((first : A) × (read ≡ Ok first) × (next first ≡ Err fault))
both_cut (Ok first) next fault is = inr (first, refl, is)
both_cut {A} (Err other) next fault is =
    inl (let same : other ≡ fault = cc in ap (λ f. let r : Result A WireFault = Err f in r) same)

module _ {A : Type 0} {most : ℕ} where
  within_pure : (value : A) → IsBounded most (λ bytes. Ok (value, bytes))
  within_pure value = record {
    read = λ bytes other rest is.
        let same : bytes ≡ rest = (same_part is).1 in
        (omega (arith, ap length same), omega (arith, ap length same));
    cut = λ bytes is. absurd (cc);
    steady = record {
      read = λ bytes more other rest is.
          let same = same_part is in
          let P : A → List ℕ → Part A = λ v xs. Ok (v, xs ++ more) in
          ap (λ xs. P value xs) same.1 ∙ ap (λ v. P v rest) same.0;
      faulty = λ bytes more fault lasting is. absurd (cc);
    };
  }

  within_err : (fault : WireFault) → (fault ≡ Truncated → ⊥)
      → IsBounded most (λ bytes. let part : Part A = Err fault in part)
  within_err fault other = record {
    read = λ bytes value rest is. absurd (cc);
    cut = λ bytes is. absurd (other (cc));
    steady = record {
      read = λ bytes more value rest is. absurd (cc);
      faulty = λ bytes more other lasting is. is;
    };
  }

  within_if : (test : Bool) (part other : List ℕ → Part A)
      → (test ≡ true → IsBounded most part) → (test ≡ false → IsBounded most other)
      → IsBounded most (λ bytes. if test then part bytes else other bytes)
  within_if true part other p q = p refl
  within_if false part other p q = q refl

module _ {A B : Type 0} {most : ℕ} (first : ℕ) (part : List ℕ → Part A)
    (next : A × List ℕ → Part B) (fits : first ≤ most) (one : IsBounded first part) where
  within_such : ((value : A) (bytes rest : List ℕ) → part bytes ≡ Ok (value, rest)
      → IsBounded (most - first) (λ bytes. next (value, bytes)))
      → IsBounded most (λ bytes. part bytes >>= next)
  within_such two = record {
    read = λ bytes value rest is.
        let both = both_read (part bytes) next (value, rest) is in
        let before = one.read bytes both.0.0 both.0.1 both.1 in
        let after = (two both.0.0 bytes both.0.1 both.1).read both.0.1 value rest both.2 in
        (omega (arith, fits, before.0, after.0), omega (arith, before.1, after.1));
    cut = λ bytes is.
        ⊎_elim
        (λ early. let h = one.cut bytes early in omega (arith, fits, h))
        (λ late.
        let before = (one.read bytes late.0.0 late.0.1 late.1).0 in
        let after = (two late.0.0 bytes late.0.1 late.1).cut late.0.1 late.2 in
        omega (arith, fits, before, after))
        (both_cut (part bytes) next Truncated is);
    steady = record {
      read = λ bytes more value rest is.
          let both = both_read (part bytes) next (value, rest) is in
          ap (λ read. read >>= next) (one.steady.read bytes more both.0.0 both.0.1 both.1)
          ∙ (two both.0.0 bytes both.0.1 both.1).steady.read both.0.1 more value rest both.2;
      faulty = λ bytes more fault lasting is.
          ⊎_elim
          (λ early. ap (λ read. read >>= next) (one.steady.faulty bytes more fault lasting early))
          (λ late. ap (λ read. read >>= next) (one.steady.read bytes more late.0.0 late.0.1 late.1)
          ∙ (two late.0.0 bytes late.0.1 late.1).steady.faulty late.0.1 more fault lasting late.2)
          (both_cut (part bytes) next fault is);
    };
  }

  within_then : ((value : A) → IsBounded (most - first) (λ bytes. next (value, bytes)))
      → IsBounded most (λ bytes. part bytes >>= next)
  within_then two = within_such (λ value bytes rest is. two value)

within_bytes : (n : ℕ) → IsBounded n (bytes_at n)
within_bytes n = record {
  read = λ bytes value rest is.
      let gone = (bytes_gone n bytes value rest is).0 in (omega (arith, gone), omega (arith, gone));
  cut = λ bytes is. ⊎_elim
      (λ short. short)
      (λ enough. let never = sym (bytes_at-enough n bytes enough) ∙ is in absurd (cc))
      (cases_lt (length bytes) n);
  steady = record {
    read = λ bytes more value rest is.
        let gone = bytes_gone n bytes value rest is in
        let P : List ℕ → List ℕ → Part (List ℕ) = λ xs ys. Ok (xs, ys) in
        bytes_at-enough n (bytes ++ more) (omega (arith, gone.1, length-append bytes more))
        ∙ ap (λ xs. P xs (drop n (bytes ++ more))) (take-append-le n bytes more gone.1 ∙ gone.2)
        ∙ ap (λ ys. P value ys)
        (drop-append-le n bytes more gone.1 ∙ ap (λ ys. ys ++ more) gone.3);
    faulty = λ bytes more fault lasting is. ⊎_elim
        (λ short.
        let cut = sym (bytes_at-short n bytes short) ∙ is in
        let same : Truncated ≡ fault = cc in
        absurd (lasting (sym same)))
        (λ enough. let never = sym (bytes_at-enough n bytes enough) ∙ is in absurd (cc))
        (cases_lt (length bytes) n);
  };
}

within_number : (n : ℕ) → IsBounded n (number_at n)
unfolding number_at
within_number n = within_then n _ _ (omega arith) (within_bytes n) (λ field. within_pure _)

pub number_gone : (n : ℕ) (bytes : List ℕ) (value : ℕ) (rest : List ℕ)
    → number_at n bytes ≡ Ok (value, rest) → length bytes ≡ length rest + n
unfolding number_at
number_gone n bytes value rest is =
    let read = both_read (bytes_at n bytes) _ (value, rest) is in
    let gone = (bytes_gone n bytes read.0.0 read.0.1 read.1).0 in
    omega (arith, gone, ap length (same_part read.2).1)

-- a number of `k` bytes, and then what depends on it
module _ {B : Type 0} {most : ℕ} (k : ℕ) (next : ℕ × List ℕ → Part B) (fits : k ≤ most) where
  within_field : ((n : ℕ) → IsBounded (most - k) (λ bytes. next (n, bytes)))
      → IsBounded most (λ bytes. number_at k bytes >>= next)
  within_field two = within_then k _ next fits (within_number k) two

within_skipped : (n : ℕ) → IsBounded n (skipped_at n)
unfolding skipped_at
within_skipped n = within_then n _ _ (omega arith) (within_bytes n) (λ skipped. within_pure _)

pub within_contact : IsBounded 6 contact_at
unfolding contact_at
within_contact =
    within_then 6 _ _ (omega arith) (within_bytes 6) (λ header.
    within_if (eqb (big_number 4 header) 0x64746e21) _ _
    (λ is. within_if (eqb (slice_index header 4) 4) _ _ (λ is. within_pure _)
    (λ is. within_err _ (λ e. cc)))
    (λ is. within_err _ (λ e. cc)))

within_total : (owner : ListOf) (kind size : ℕ) → IsBounded size (total_at owner kind size)
unfolding total_at
within_total owner kind size =
    within_if (is_total_length owner kind size) _ _
    (λ is. let eight : size ≡ 8 = has_total_size owner kind size is in
    within_field 8 _ (omega arith) (λ total. within_pure _))
    (λ is. within_then size _ _ (omega arith) (within_skipped size) (λ value. within_pure _))

within_item_head : (left : ℕ) → 5 ≤ left → IsBounded 5 (item_head_at left)
unfolding item_head_at
within_item_head left enough =
    within_if (nat_lt left 5) _ _ (λ is. within_err _ (λ e. cc)) (λ is.
    within_field 1 _ (omega arith) (λ flags.
    within_field 2 _ (omega arith) (λ kind.
    within_field 2 _ (omega arith) (λ size.
    within_if (nat_lt (left - 5) size) _ _ (λ is. within_err _ (λ e. cc)) (λ is. within_pure _)))))

-- a value was read, so a test on the way to it was passed
pub taken_else : {A : Type 0} (test : Bool) (read : Result A WireFault) (value : A) (fault : WireFault)
    → (if test then Err fault else read) ≡ Ok value → (test ≡ false) × (read ≡ Ok value)
taken_else true read value fault is = absurd (cc)
taken_else false read value fault is = (refl, is)

-- an item that was read ends within its list
pub item_fits : (left : ℕ) (bytes : List ℕ) (head : ItemHead) (rest : List ℕ)
    → item_head_at left bytes ≡ Ok (head, rest) → 5 + head.length ≤ left
unfolding item_head_at
item_fits left bytes head rest is =
    let some = taken_else (nat_lt left 5) _ (head, rest) ItemsOverrun is in
    let flags = both_read (number_at 1 bytes) _ (head, rest) some.1 in
    let kind = both_read (number_at 2 flags.0.1) _ (head, rest) flags.2 in
    let size = both_read (number_at 2 kind.0.1) _ (head, rest) kind.2 in
    let fits = taken_else (nat_lt (left - 5) size.0.0) _ (head, rest) ItemsOverrun size.2 in
    let same = (same_part fits.1).0 in
    let length_is = ap (λ (h : ItemHead). h.length) same in
    omega (arith, ltb-false left 5 some.0, ltb-false (left - 5) size.0.0 fits.0, length_is)

-- the head of an item, if the list has no room for one
within_no_head : (left : ℕ) → left < 5 → IsBounded 0 (item_head_at left)
unfolding item_head_at
within_no_head left short =
    within_if (nat_lt left 5) _ _ (λ is. within_err _ (λ e. cc))
    (λ is. absurd (omega (arith, short, ltb-false left 5 is)))

-- the head of an item, and then what depends on it within the list
module _ {B : Type 0} (left : ℕ) (next : ItemHead × List ℕ → Part B) where
  within_headed : ((head : ItemHead) → 5 + head.length ≤ left
      → IsBounded (left - 5) (λ bytes. next (head, bytes)))
      → IsBounded left (λ bytes. item_head_at left bytes >>= next)
  within_headed two =
      ⊎_elim
      (λ short. within_such 0 _ next (omega arith) (within_no_head left short)
      (λ head bytes rest is. absurd (omega (arith, short, item_fits left bytes head rest is))))
      (λ enough. within_such 5 _ next enough (within_item_head left enough)
      (λ head bytes rest is. two head (item_fits left bytes head rest is)))
      (cases_lt left 5)

within_items : (owner : ListOf) (room left : ℕ) → IsBounded left (items_at owner room left)
unfolding items_at
within_items owner zero left =
    within_if (eqb left 0) _ _ (λ is. within_pure _)
    (λ is. within_headed left _ (λ head fits. within_err _ (λ e. cc)))
within_items owner (suc room) left =
    within_if (eqb left 0) _ _ (λ is. within_pure _)
    (λ is. within_headed left _ (λ head fits.
    within_then head.length _ _ (omega arith) (within_total owner head.kind head.length) (λ total.
    within_then (left - (5 + head.length)) _ _ (omega arith) (within_items owner room _) (λ others.
    within_pure _))))

pub within_items_of : (owner : ListOf) (size most : ℕ) → size ≤ most → IsBounded most (items_of owner size)
unfolding items_of
within_items_of owner size most fits =
    within_then size _ _ fits (within_items owner most_items size) (λ items. within_pure _)

within_list : (owner : ListOf) → IsBounded 65540 (list_at owner)
unfolding list_at
within_list owner =
    within_field 4 _ (omega arith) (λ size.
    within_if (nat_lt longest_list size) _ _ (λ long. within_err _ (λ e. cc))
    (λ short. within_items_of owner size longest_list (ltb-false longest_list size short)))

within_node : IsBounded 1026 node_at
unfolding node_at node_bytes_at
within_node =
    within_field 2 _ (omega arith) (λ size.
    within_if (nat_lt longest_node size) _ _ (λ long. within_err _ (λ e. cc))
    (λ short. within_then size _ _ (ltb-false longest_node size short) (within_bytes size)
    (λ node. within_pure _)))

within_segment_items : (flags : ℕ) → IsBounded 65540 (segment_items_at flags)
unfolding segment_items_at
within_segment_items flags =
    within_if (is_start flags) _ _ (λ is. within_list Transfer) (λ is. within_pure _)

pub within_fields : (kind : ℕ) → IsBounded 66584 (fields_at kind)
unfolding fields_at segment_at ack_at refuse_at sess_term_at msg_reject_at sess_init_at
within_fields kind =
    within_if (eqb kind 1) _ _ (λ is.
    within_field 1 _ (omega arith) (λ flags.
    within_field 8 _ (omega arith) (λ id.
    within_then 65540 _ _ (omega arith) (within_segment_items flags) (λ items.
    within_field 8 _ (omega arith) (λ size. within_pure _))))) (λ is.
    within_if (eqb kind 2) _ _ (λ is.
    within_field 1 _ (omega arith) (λ flags.
    within_field 8 _ (omega arith) (λ id.
    within_field 8 _ (omega arith) (λ size. within_pure _)))) (λ is.
    within_if (eqb kind 3) _ _ (λ is.
    within_field 1 _ (omega arith) (λ reason.
    within_field 8 _ (omega arith) (λ id. within_pure _))) (λ is.
    within_if (eqb kind 4) _ _ (λ is. within_pure _) (λ is.
    within_if (eqb kind 5) _ _ (λ is.
    within_field 1 _ (omega arith) (λ flags.
    within_field 1 _ (omega arith) (λ reason. within_pure _))) (λ is.
    within_if (eqb kind 6) _ _ (λ is.
    within_field 1 _ (omega arith) (λ reason.
    within_field 1 _ (omega arith) (λ header. within_pure _))) (λ is.
    within_if (eqb kind 7) _ _ (λ is.
    within_field 2 _ (omega arith) (λ interval.
    within_field 8 _ (omega arith) (λ segment_mru.
    within_field 8 _ (omega arith) (λ transfer_mru.
    within_then 1026 _ _ (omega arith) within_node (λ node.
    within_then 65540 _ _ (omega arith) (within_list Session) (λ items. within_pure _))))))
    (λ is. within_err _ (λ e. cc))))))))

pub within_message : IsBounded longest_head message_at
unfolding message_at
within_message = within_field 1 _ (omega arith) (λ kind. within_fields kind)

-- the bytes of a part, and those that show a fault, are at most `most`; cut bytes are fewer
module _ {A : Type 0} {most : ℕ} {part : List ℕ → Part A}
    (within : IsBounded most part) (bytes : List ℕ) where
  pub part_size : (value : A) → IsPart part bytes value → length bytes ≤ most
  part_size value is =
      let few = (within.read (bytes ++ []) value [] (is.is_part [])).0 in
      omega (arith, few, ap length (append-nil bytes))

  pub needed_size : AreNeeded part bytes → length bytes ≤ most
  needed_size needs =
      ⊎_elim
      (λ over.
      let short = within.cut (take most bytes) (needs most over) in
      absurd (omega (arith, short, length-take most bytes)))
      (λ fits. fits)
      (cases_lt most (length bytes))
