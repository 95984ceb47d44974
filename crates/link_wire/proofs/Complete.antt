-- Whatever is read from bytes is spelled in them.
use Rattle.std.proofs.Common.{◌≡◌, ℕ, zero, suc, ◌+◌, ◌-◌, ◌*◌, ◌%◌, ◌^◌, ◌<◌, ◌≤◌, Bool, true, false, eqb, List, [], ◌∷◌, ◌++◌, slice_index, length, take, Some, None, Ok, Err, nat_lt, if◌then◌else◌, arith, refl, ap, sym, ◌∙◌, subst, append_assoc, append-nil, length-append, ⊎_elim}
use Rattle.std.proofs.{Math.Nat.{add-mul, mul_assoc, pow-succ'}, lemmas.Nat.div-mul-add}
use Rattle.std.proofs.Math.Seq.{drop-append_seam, take-append_seam}
use Rattle.std.proofs.lemmas.List.{get_or_past, take-append-drop, length-take-le}
use Rattle.std.proofs.lemmas.List.Elements.{All-drop, All-get_or, All-head, All-tail, All-take}
use Rattle.std.proofs.lemmas.Bool.{cases_lt, ltb-false, eqb-true}
use Rattle.std.specs.Int.{byte_at, bytes_high_first}
use Rattle.byteorder.specs.{Endian.{big_number, big_from}, Numbers.{big_from-cons, big_from-lt}}
use Rattle.link_io.specs.Bytes.{IsByte, AreBytes}
use Rattle.link_wire.specs.Part.{Part, ◌>>=◌, bytes_at, number_at}
use Rattle.link_wire.proofs.FieldReads.{bytes_gone, same_part, both_read}
use Rattle.link_wire.specs.Spelled.{BytesProperty, U8, U16, U64, These, ContactSpelled, NodeSpelled, ItemHeadSpelled, ValueSpelled, ItemSpelled, ItemsSpelled, ListSpelled, SegmentItemsSpelled, HeadSpelled}
use Rattle.link_wire.proofs.Sound.{both, last, ItemsFilling, has_total_size, length_item_head}
use Rattle.link_wire.specs.declared.message.{ListOf.ListOf, ListOf.TheVariants.{Session, Transfer}}
use Rattle.link_wire.specs.{Codes.is_start, Limits.{longest_node, longest_list, most_items}}
use Rattle.link_wire.specs.Message.{contact_at, skipped_at, total_at, item_head_at, items_at, items_of, list_at, node_bytes_at, node_at, segment_items_at, segment_at, ack_at, refuse_at, sess_term_at, msg_reject_at, sess_init_at, fields_at, message_at, is_total_length}
use Rattle.link_wire.specs.declared.fault.WireFault.{WireFault}
use Rattle.link_wire.specs.declared.fault.WireFault.TheVariants.{BadMagic, BadVersion, UnknownType, NodeIdTooLong, ListTooLong, TooManyItems, ItemsOverrun}
use Rattle.link_wire.specs.declared.{message.Item.Item, list.ItemHead.ItemHead}
use Rattle.link_wire.specs.declared.message.Message.TheVariants.{SessInit, Segment, Ack, Refuse, Keepalive, SessTerm, MsgReject}
use Rattle.link_writing.specs.Numbers.{be}

AreBytes-before : (xs ys : List ℕ) → AreBytes (xs ++ ys) → AreBytes xs
AreBytes-before xs ys are = subst AreBytes (take-append_seam xs ys) (All-take IsByte (length xs) (xs ++ ys) are)

pub AreBytes-after : (xs ys : List ℕ) → AreBytes (xs ++ ys) → AreBytes ys
AreBytes-after xs ys are = subst AreBytes (drop-append_seam xs ys) (All-drop IsByte (length xs) (xs ++ ys) are)

AreBytes-index : (xs : List ℕ) → AreBytes xs → (k : ℕ) → slice_index xs k < 256
AreBytes-index xs are k =
    ⊎_elim (λ within. All-get_or IsByte xs k 0 within are) (λ past. rw (get_or_past xs k 0 past) (omega arith)) (cases_lt k (length xs))

-- a byte of a number, by its index
byte_at-pow : (k top low : ℕ) → low < 256 ^ k → byte_at k (top * 256 ^ k + low) ≡ top % 256
byte_at-pow zero top low fits = let none : top * 1 + low ≡ top = omega arith in rw none refl
byte_at-pow (suc k) top low fits = ap (λ (n : ℕ). n % 256) (div-mul-add top (256 ^ suc k) low fits)

-- the bytes of a number are those that it was read from, whatever is above them
bytes_of_number : (xs : List ℕ) (top : ℕ) → AreBytes xs
    → bytes_high_first (length xs) (top * 256 ^ length xs + big_from 0 (length xs) xs) ≡ xs
bytes_of_number [] top are = refl
bytes_of_number (x ∷ xs) top are =
    let k = length xs in
    let low = big_from-lt 0 k xs (AreBytes-index xs (All-tail IsByte x xs are)) in
    let moved = big_from-cons 0 k x xs in
    let split : top * 256 ^ suc k + (x * 256 ^ k + big_from 1 k (x ∷ xs)) ≡ (top * 256 + x) * 256 ^ k + big_from 0 k xs =
    rw (moved, pow-succ' 256 k, add-mul (top * 256) x (256 ^ k), mul_assoc top 256 (256 ^ k)) (omega arith) in
    let byte : byte_at k ((top * 256 + x) * 256 ^ k + big_from 0 k xs) ≡ x =
    byte_at-pow k (top * 256 + x) (big_from 0 k xs) low ∙ omega (arith, All-head IsByte x xs are) in
    ap (λ n. byte_at k n ∷ bytes_high_first k n) split ∙ ap (λ b. b ∷ bytes_high_first k ((top * 256 + x) * 256 ^ k + big_from 0 k xs)) byte ∙ ap (λ bytes. x ∷ bytes) (bytes_of_number xs (top * 256 + x) (All-tail IsByte x xs are))

-- `k` bytes are the bytes of the number that is read from them
pub be-number : (k : ℕ) (xs : List ℕ) → AreBytes xs → length xs ≡ k → xs ≡ be k (big_number k xs)
be-number k xs are size =
    let bare : 0 * 256 ^ length xs + big_from 0 (length xs) xs ≡ big_from 0 (length xs) xs = omega arith in
    sym (ap (λ n. be n (big_number n xs)) (sym size) ∙ ap (bytes_high_first (length xs)) (sym bare) ∙ bytes_of_number xs 0 are)

-- the bytes begin with this spelling, and the rest follows it
pub record BeginsWithSpelling (spelled : BytesProperty) (bytes rest : List ℕ) : Type 0 where
  pub before : List ℕ
  pub is : spelled before
  pub parts : bytes ≡ before ++ rest

-- what was read is spelled in a prefix of the bytes, and the rest follows this prefix
pub record Found {A : Type 0} (part : List ℕ → Part A) (spelled : A → BytesProperty) : Type 0 where
  pub by : (bytes : List ℕ) (value : A) (rest : List ℕ) → AreBytes bytes
      → part bytes ≡ Ok (value, rest) → BeginsWithSpelling (spelled value) bytes rest

pub found_pure : {A : Type 0} (value : A) {spelled : A → BytesProperty} → spelled value []
    → Found (λ bytes. Ok (value, bytes)) spelled
found_pure {A} value {spelled} is = record {
  by = λ bytes other rest are read.
      let same = same_part read in
      record { before = []; is = rw (← same.0) is; parts = same.1 };
}

pub found_err : {A : Type 0} (fault : WireFault) {spelled : A → BytesProperty}
    → Found (λ bytes. let part : Part A = Err fault in part) spelled
found_err fault = record { by = λ bytes other rest are read. absurd (cc) }

module _ {A B : Type 0} (part : List ℕ → Part A) (next : A × List ℕ → Part B) {first : A → BytesProperty}
    {spelled : B → BytesProperty} where
  pub found_then : Found part first
      → ((value : A) (before : List ℕ) → first value before
      → Found (λ bytes. next (value, bytes)) (λ given after. spelled given (before ++ after)))
      → Found (λ bytes. part bytes >>= next) spelled
  found_then found more = record {
    by = λ bytes given rest are is.
        let read = both_read (part bytes) next (given, rest) is in
        let one = found.by bytes read.0.0 read.0.1 are read.1 in
        let after = AreBytes-after one.before read.0.1 (subst AreBytes one.parts are) in
        let later = (more read.0.0 one.before one.is).by read.0.1 given rest after read.2 in
        record {
          before = one.before ++ later.before;
          is = later.is;
          parts = rw (append_assoc one.before later.before rest, ← later.parts) one.parts;
        };
  }

module _ {A : Type 0} (part other : List ℕ → Part A) {spelled : A → BytesProperty} where
  pub found_if : (test : Bool) → (test ≡ true → Found part spelled)
      → (test ≡ false → Found other spelled)
      → Found (λ bytes. if test then part bytes else other bytes) spelled
  found_if true first second = first refl
  found_if false first second = second refl

-- these `n` bytes
abbrev pub ManyBytes : ℕ → List ℕ → BytesProperty
ManyBytes n content bytes = AreBytes content × (bytes ≡ content) × (length content ≡ n)

pub found_bytes : (n : ℕ) → Found (bytes_at n) (ManyBytes n)
found_bytes n = record {
  by = λ bytes value rest are is.
      let gone = bytes_gone n bytes value rest is in
      let size = ap length (sym gone.2) ∙ length-take-le n bytes gone.1 in
      record {
        before = take n bytes;
        is = (subst AreBytes gone.2 (All-take IsByte n bytes are), gone.2, size);
        parts = rw (← gone.3) (sym (take-append-drop n bytes));
      };
}

pub found_number : (k : ℕ) → Found (number_at k) (λ n bytes. (n < 256 ^ k) × (bytes ≡ be k n))
unfolding number_at
found_number k = found_then _ _ (found_bytes k) (λ field before is. found_pure (big_number k field)
    (big_from-lt 0 k field (AreBytes-index field is.0), append-nil before ∙ is.1 ∙ be-number k field is.0 is.2))

found_node : Found node_at NodeSpelled
unfolding node_at node_bytes_at
found_node =
    found_then _ _ (found_number 2) (λ size first one.
    found_if _ _ (nat_lt longest_node size) (λ long. found_err (NodeIdTooLong size)) (λ fits.
    found_then _ _ (found_bytes size) (λ content second two.
    found_pure (record { items = content }) (
      omega (arith, two.2, ltb-false longest_node size fits),
      both first _ (rw two.2 one) (last (These content) second (two.0, two.1)),
    ))))

abbrev HeadWithin : ℕ → ItemHead → BytesProperty
HeadWithin left head bytes = ItemHeadSpelled head.flags head.kind head.length bytes × (5 + head.length ≤ left)

found_item_head : (left : ℕ) → Found (item_head_at left) (HeadWithin left)
unfolding item_head_at
found_item_head left =
    found_if _ _ (nat_lt left 5) (λ short. found_err ItemsOverrun) (λ room.
    found_then _ _ (found_number 1) (λ flags first one.
    found_then _ _ (found_number 2) (λ kind second two.
    found_then _ _ (found_number 2) (λ size third three.
    found_if _ _ (nat_lt (left - 5) size) (λ over. found_err ItemsOverrun) (λ fits.
    found_pure (record { flags = flags; kind = kind; length = size })
    (both first _ one (both second _ two (last (U16 size) third three)), omega (arith, ltb-false left 5 room, ltb-false (left - 5) size fits)))))))

-- `n` bytes that this value is made of
abbrev MadeOf : {A : Type 0} → ℕ → (List ℕ → A) → A → BytesProperty
MadeOf n make value bytes = AreBytes bytes × (length bytes ≡ n) × (value ≡ make bytes)

found_made : {A : Type 0} (n : ℕ) (make : List ℕ → A)
    → Found (λ bytes. bytes_at n bytes >>= λ v. Ok (make v.0, v.1)) (MadeOf n make)
found_made n make =
    found_then _ _ (found_bytes n) (λ content before is.
    let same : before ++ [] ≡ content = append-nil before ∙ is.1 in
    found_pure _ (subst AreBytes (sym same) is.0, ap length same ∙ is.2, ap make (sym same)))

module _ (owner : ListOf) (kind size : ℕ) where
  found_value : Found (total_at owner kind size) (ValueSpelled owner kind size)
  unfolding total_at number_at skipped_at
  found_value =
      found_if _ _ (is_total_length owner kind size)
      (λ known. found_then _ _ (found_made 8 (big_number 8)) (λ n before is.
      found_pure (Some n) (last (ValueSpelled owner kind size (Some n)) before
      (is.0, is.1 ∙ sym (has_total_size owner kind size known), rw known (ap Some is.2)))))
      (λ known. found_then _ _ (found_made size (λ skipped. tt)) (λ nothing before is.
      found_pure None (last (ValueSpelled owner kind size None) before
      (is.0, is.1, rw known refl))))

-- the items of `left` bytes of a list, at most `room` of them
abbrev ItemsWithin : ListOf → ℕ → ℕ → List Item → BytesProperty
ItemsWithin owner room left items bytes = ItemsFilling owner items left bytes × (length items ≤ room)

module _ (owner : ListOf) where
  found_none : (room left : ℕ) → eqb left 0 ≡ true
      → Found (λ bytes. Ok ([], bytes)) (ItemsWithin owner room left)
  found_none room left none = found_pure [] ((refl, sym (eqb-true left 0 none)), omega arith)

  found_items : (room left : ℕ) → Found (items_at owner room left) (ItemsWithin owner room left)
  unfolding items_at
  found_items zero left =
      found_if _ _ (eqb left 0) (λ none. found_none zero left none) (λ some.
      found_then _ _ (found_item_head left) (λ head first one. found_err TooManyItems))
  found_items (suc room) left =
      found_if _ _ (eqb left 0) (λ none. found_none (suc room) left none) (λ some.
      found_then _ _ (found_item_head left) (λ head first one.
      found_then _ _ (found_value owner head.kind head.length) (λ total second two.
      found_then _ _ (found_items room (left - (5 + head.length))) (λ items third three.
      let item : Item = record { flags = head.flags; kind = head.kind; length = head.length; total = total } in
      let item_is : ItemSpelled owner item (first ++ second) = both first second one.0 two in
      let all_is : ItemsSpelled owner (item ∷ items) ((first ++ second) ++ third) = both (first ++ second) third item_is three.0.0 in
      let all : first ++ (second ++ (third ++ [])) ≡ (first ++ second) ++ third = ap (λ bytes. first ++ (second ++ bytes)) (append-nil third) ∙ sym (append_assoc first second third) in
      let five = length_item_head head.flags head.kind head.length first one.0 in
      let size : length ((first ++ second) ++ third) ≡ left = omega (arith, one.1, two.1, three.0.1, length-append (first ++ second) third, length-append first second) in
      found_pure (item ∷ items) (subst (ItemsFilling owner (item ∷ items) left) (sym all) (all_is, size), omega (arith, three.1))))))

  found_items_of : (size : ℕ)
      → Found (items_of owner size) (λ items. ItemsWithin owner most_items size items.items)
  unfolding items_of
  found_items_of size =
      found_then _ _ (found_items most_items size) (λ items before is.
      found_pure (record { items = items }) (last (ItemsWithin owner most_items size items) before is))

  found_list : Found (list_at owner) (ListSpelled owner)
  unfolding list_at items_of
  found_list =
      found_then _ _ (found_number 4) (λ size first one.
      found_if _ _ (nat_lt longest_list size) (λ long. found_err (ListTooLong size)) (λ short. record {
        by = λ bytes items rest are is.
            let found = (found_items_of size).by bytes items rest are is in
            let body = AreBytes-before found.before rest (subst AreBytes found.parts are) in
            record {
              before = found.before;
              is = record {
                body = found.before;
                is_body = found.is.0.0;
                few = found.is.1;
                short = omega (arith, found.is.0.1, ltb-false longest_list size short);
                is_list = both first found.before (rw found.is.0.1 one) (body, refl);
              };
              parts = found.parts;
            };
      }))

found_segment_items : (flags : ℕ)
    → Found (segment_items_at flags) (SegmentItemsSpelled (is_start flags))
unfolding segment_items_at
found_segment_items flags =
    found_if _ _ (is_start flags)
    (λ known. rw known (found_list Transfer))
    (λ known. found_pure (record { items = [] }) (rw known (refl, refl)))

-- the fields of a message after its type byte, which is all of `before`
module _ (before : List ℕ) where
  -- the type byte is this number
  is_kind : (kind n : ℕ) → eqb kind n ≡ true → U8 kind before → U8 n before
  is_kind kind n known is = rw (eqb-true kind n known) at is

  found_fields : (kind : ℕ) → U8 kind before
      → Found (fields_at kind) (λ message after. HeadSpelled message (before ++ after))
  unfolding fields_at segment_at ack_at refuse_at sess_term_at msg_reject_at sess_init_at
  found_fields kind is =
      found_if _ _ (eqb kind 1) (λ known.
      found_then _ _ (found_number 1) (λ flags first one.
      found_then _ _ (found_number 8) (λ id second two.
      found_then _ _ (found_segment_items flags) (λ items third three.
      found_then _ _ (found_number 8) (λ size fourth four.
      found_pure (Segment (record { flags = flags; id = id; items = items; length = size }))
      (both before _ (is_kind kind 1 known is) (both first _ one (both second _ two
      (both third _ three (last (U64 size) fourth four)))))))))) (λ _.
      found_if _ _ (eqb kind 2) (λ known.
      found_then _ _ (found_number 1) (λ flags first one.
      found_then _ _ (found_number 8) (λ id second two.
      found_then _ _ (found_number 8) (λ size third three.
      found_pure (Ack flags id size)
      (both before _ (is_kind kind 2 known is) (both first _ one (both second _ two
      (last (U64 size) third three)))))))) (λ _.
      found_if _ _ (eqb kind 3) (λ known.
      found_then _ _ (found_number 1) (λ reason first one.
      found_then _ _ (found_number 8) (λ id second two.
      found_pure (Refuse reason id)
      (both before _ (is_kind kind 3 known is)
      (both first _ one (last (U64 id) second two)))))) (λ _.
      found_if _ _ (eqb kind 4) (λ known.
      found_pure Keepalive (last (U8 4) before (is_kind kind 4 known is))) (λ _.
      found_if _ _ (eqb kind 5) (λ known.
      found_then _ _ (found_number 1) (λ flags first one.
      found_then _ _ (found_number 1) (λ reason second two.
      found_pure (SessTerm flags reason)
      (both before _ (is_kind kind 5 known is)
      (both first _ one (last (U8 reason) second two)))))) (λ _.
      found_if _ _ (eqb kind 6) (λ known.
      found_then _ _ (found_number 1) (λ reason first one.
      found_then _ _ (found_number 1) (λ header second two.
      found_pure (MsgReject reason header)
      (both before _ (is_kind kind 6 known is)
      (both first _ one (last (U8 header) second two)))))) (λ _.
      found_if _ _ (eqb kind 7) (λ known.
      found_then _ _ (found_number 2) (λ keepalive first one.
      found_then _ _ (found_number 8) (λ segment_mru second two.
      found_then _ _ (found_number 8) (λ transfer_mru third three.
      found_then _ _ found_node (λ node fourth four.
      found_then _ _ (found_list Session) (λ items fifth five.
      found_pure (SessInit keepalive segment_mru transfer_mru node items)
      (both before _ (is_kind kind 7 known is) (both first _ one (both second _ two
      (both third _ three
      (both fourth _ four (last (ListSpelled Session items) fifth five))))))))))))
      (λ _. found_err (UnknownType kind))))))))

-- the head of a message that was read is spelled in a prefix of the bytes
pub found_message : Found message_at HeadSpelled
unfolding message_at
found_message = found_then _ _ (found_number 1) (λ kind before is. found_fields before kind is)

-- the six bytes of a contact header
six_bytes : (header : List ℕ) → AreBytes header → length header ≡ 6
    → big_number 4 header ≡ 0x64746e21 → slice_index header 4 ≡ 4
    → (slice_index header 5 < 256)
    × (header ≡ 0x64 ∷ 0x74 ∷ 0x6e ∷ 0x21 ∷ 4 ∷ slice_index header 5 ∷ [])
six_bytes [] are size magic version = absurd (omega arith)
six_bytes (a ∷ []) are size magic version = absurd (omega arith)
six_bytes (a ∷ b ∷ []) are size magic version = absurd (omega arith)
six_bytes (a ∷ b ∷ c ∷ []) are size magic version = absurd (omega arith)
six_bytes (a ∷ b ∷ c ∷ d ∷ []) are size magic version = absurd (omega arith)
six_bytes (a ∷ b ∷ c ∷ d ∷ e ∷ []) are size magic version = absurd (omega arith)
six_bytes (a ∷ b ∷ c ∷ d ∷ e ∷ f ∷ []) are size magic version =
    let four : a ∷ b ∷ c ∷ d ∷ [] ≡ be 4 0x64746e21 = be-number 4 (a ∷ b ∷ c ∷ d ∷ []) (All-take IsByte 4 (a ∷ b ∷ c ∷ d ∷ e ∷ f ∷ []) are) refl ∙ ap (be 4) magic in
    (are 5 0 (omega arith), ap (λ (xs : List ℕ). xs ++ (e ∷ f ∷ [])) four ∙ ap (λ (v : ℕ). 0x64 ∷ 0x74 ∷ 0x6e ∷ 0x21 ∷ v ∷ f ∷ []) version)
six_bytes (a ∷ b ∷ c ∷ d ∷ e ∷ f ∷ g ∷ more) are size magic version = absurd (omega arith)

-- the contact header that was read is spelled in a prefix of the bytes
pub found_contact : Found contact_at ContactSpelled
unfolding contact_at
found_contact =
    found_then _ _ (found_bytes 6) (λ header before is.
    found_if _ _ (eqb (big_number 4 header) 0x64746e21) (λ magic.
    found_if _ _ (eqb (slice_index header 4) 4) (λ version.
    let six = six_bytes header is.0 is.2 (eqb-true (big_number 4 header) 0x64746e21 magic) (eqb-true (slice_index header 4) 4 version) in
    found_pure (record { flags = slice_index header 5 }) (six.0, append-nil before ∙ is.1 ∙ six.1))
    (λ _. found_err (BadVersion (slice_index header 4)))) (λ _. found_err BadMagic))
