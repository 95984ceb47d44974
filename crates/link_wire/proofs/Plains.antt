-- Heads that are read in place: the fields at their indices in a window are the parts of a message.
use Rattle.std.proofs.Common.{◌≡◌, ◌≢◌, bit_and, ℕ, zero, suc, ◌+◌, ◌*◌, ◌<◌, ◌≤◌, true, false, List, [], ◌∷◌, length, take, drop, slice_index, slice_range, Ok, Err, nat_lt, if◌then◌else◌, arith, refl, sym, subst, append-nil, length-take, length-drop}
use Rattle.std.proofs.{lemmas.List.drop-drop, lemmas.Bool.ne_eqb, Math.Seq.take-add}
use Rattle.arrayvec.specs.ArrayVec.{ArrayVec}
use Rattle.byteorder.specs.Endian.{big_number}
use Rattle.link_wire.specs.{Codes.is_start, Getting.IsPart}
use Rattle.link_wire.specs.Message.{list_at, items_of, items_at, segment_items_at, segment_at, ack_at, refuse_at, sess_term_at, msg_reject_at, fields_at, message_at}
use Rattle.link_wire.specs.{MessageBuffer.segment_items, Part.{Part, ◌>>=◌, number_at}}
use Rattle.link_wire.proofs.{FieldReads.{bytes_at-there, bytes_at-short}, Gettings.IsPart-then}
use Rattle.link_wire.specs.declared.{fault.WireFault.TheVariants.ListTooLong, message.Item.Item}
use Rattle.link_wire.specs.declared.message.{ListOf.TheVariants.Transfer, Message.Message}
use Rattle.link_wire.specs.declared.message.Message.TheVariants.{Segment, Ack, Refuse, Keepalive, SessTerm, MsgReject}

-- a value that needs no byte
pure_is : {A : Type 0} (value : A) → IsPart (λ bytes. Ok (value, bytes)) [] value
pure_is value = record { is_part = λ more. refl; needs = λ count fewer. absurd (omega arith) }

-- a field of `k` bytes is a number
field_is : (k : ℕ) (field : List ℕ) → length field ≡ k
    → IsPart (number_at k) field (big_number k field)
unfolding number_at
field_is k field size = record {
  is_part = λ more. rw (← size, bytes_at-there) refl;
  needs = λ count fewer.
      rw (bytes_at-short k (take count field) (omega (arith, length-take count field))) refl;
}

-- a byte is a number of one byte
pub IsPart-byte : (b : ℕ) → IsPart (number_at 1) (b ∷ []) b
IsPart-byte b =
    let one : big_number 1 (b ∷ []) ≡ b = omega arith in
    subst (IsPart (number_at 1) (b ∷ [])) one (field_is 1 (b ∷ []) refl)

-- a field of one byte, as the byte of the window
byte_of : (window : List ℕ) (at : ℕ) → at < length window
    → big_number 1 (take 1 (drop at window)) ≡ slice_index window at
byte_of [] at within = absurd (omega arith)
byte_of (b ∷ window) zero within = let one : b * 1 + 0 ≡ b = omega arith in one
byte_of (b ∷ window) (suc at) within = byte_of window at (omega arith)

module _ {A B : Type 0} (window : List ℕ) (at k m : ℕ) where
  -- a part at an index, and then what depends on its value
  part_then : (part : List ℕ → Part A) (value : A) (next : A × List ℕ → Part B) (other : B)
      → IsPart part (take k (drop at window)) value
      → IsPart (λ bytes. next (value, bytes)) (take m (drop (at + k) window)) other
      → IsPart (λ bytes. part bytes >>= next) (take (k + m) (drop at window)) other
  part_then part value next other is more =
      rw (take-add k m (drop at window), drop-drop k at window)
      (IsPart-then part next value _ _ is other more)

module _ {B : Type 0} (window : List ℕ) (at k m : ℕ) where
  -- a number at an index, and then what depends on it
  field_then : (next : ℕ × List ℕ → Part B) (other : B) → at + k ≤ length window
      → IsPart (λ bytes. next (big_number k (take k (drop at window)), bytes))
      (take m (drop (at + k) window)) other
      → IsPart (λ bytes. number_at k bytes >>= next) (take (k + m) (drop at window)) other
  field_then next other within more =
      let field = take k (drop at window) in
      let size : length field ≡ k =
      omega (arith, length-take k (drop at window), length-drop at window) in
      part_then window at k m (number_at k) (big_number k field) next other
      (field_is k field size) more

module _ {B : Type 0} (window : List ℕ) (at m : ℕ) where
  -- a byte at an index, and then what depends on it
  byte_then : (next : ℕ × List ℕ → Part B) (other : B) → at < length window
      → IsPart (λ bytes. next (slice_index window at, bytes)) (take m (drop (at + 1) window)) other
      → IsPart (λ bytes. number_at 1 bytes >>= next) (take (1 + m) (drop at window)) other
  byte_then next other within more =
      field_then window at 1 m next other (omega arith) (rw (byte_of window at within) more)

-- the type byte, and then the fields after it
module _ (window : List ℕ) (kind m : ℕ) (message : Message) where
  typed : 0 < length window → slice_index window 0 ≡ kind
      → IsPart (fields_at kind) (take m (drop 1 window)) message
      → IsPart message_at (take (1 + m) window) message
  unfolding message_at
  typed some is rest =
      byte_then window 0 m (λ v. fields_at v.0 v.1) message some (rw is rest)

-- ---- messages without a list

module _ (window : List ℕ) (some : 0 < length window) where
  pub keepalive_head : slice_index window 0 ≡ 4 → IsPart message_at (take 1 window) Keepalive
  unfolding fields_at
  keepalive_head is = typed window 4 0 Keepalive some is (pure_is Keepalive)

module _ (window : List ℕ) (enough : 3 ≤ length window) where
  pub sess_term_head : slice_index window 0 ≡ 5
      → IsPart message_at (take 3 window) (SessTerm (slice_index window 1) (slice_index window 2))
  unfolding fields_at sess_term_at
  sess_term_head is = typed window 5 2 _ (omega arith) is
      (byte_then window 1 1 _ _ (omega arith)
      (byte_then window 2 0 _ _ (omega arith) (pure_is _)))

  pub msg_reject_head : slice_index window 0 ≡ 6
      → IsPart message_at (take 3 window) (MsgReject (slice_index window 1) (slice_index window 2))
  unfolding fields_at msg_reject_at
  msg_reject_head is = typed window 6 2 _ (omega arith) is
      (byte_then window 1 1 _ _ (omega arith)
      (byte_then window 2 0 _ _ (omega arith) (pure_is _)))

pub refuse_head : (window : List ℕ) → 10 ≤ length window → slice_index window 0 ≡ 3
    → IsPart message_at (take 10 window)
    (Refuse (slice_index window 1) (big_number 8 (slice_range window 2 10)))
unfolding fields_at refuse_at
refuse_head window enough is = typed window 3 9 _ (omega arith) is
    (byte_then window 1 8 _ _ (omega arith)
    (field_then window 2 8 0 _ _ (omega arith) (pure_is _)))

pub ack_head : (window : List ℕ) → 18 ≤ length window → slice_index window 0 ≡ 2
    → IsPart message_at (take 18 window)
    (Ack (slice_index window 1) (big_number 8 (slice_range window 2 10))
    (big_number 8 (slice_range window 10 18)))
unfolding fields_at ack_at
ack_head window enough is = typed window 2 17 _ (omega arith) is
    (byte_then window 1 16 _ _ (omega arith)
    (field_then window 2 8 8 _ _ (omega arith)
    (field_then window 10 8 0 _ _ (omega arith) (pure_is _))))

-- ---- segments

-- no items
abbrev none : ArrayVec Item
none = record { items = [] }

without_items : (flags : ℕ) → is_start flags ≡ false → IsPart (segment_items_at flags) [] none
unfolding segment_items_at
without_items flags is = rw (is, segment_items_at) (pure_is none)

no_items : (bytes : List ℕ) → items_of Transfer 0 bytes ≡ Ok (none, bytes)
unfolding items_of items_at
no_items bytes = refl

empty_list : (field : List ℕ) → length field ≡ 4 → big_number 4 field ≡ 0
    → IsPart (list_at Transfer) field none
unfolding list_at
empty_list field size is =
    let items : ℕ → List ℕ → Part (ArrayVec Item) = λ n bytes.
    if nat_lt 65536 n then Err (ListTooLong n) else items_of Transfer n bytes in
    let P : ℕ → Type 0 = λ n. IsPart (items n) [] none in
    let Q : List ℕ → Type 0 = λ bytes. IsPart (list_at Transfer) bytes none in
    let rest : P 0 = record { is_part = no_items; needs = λ count fewer. absurd (omega arith) } in
    let number = big_number 4 field in
    subst Q (append-nil field) (IsPart-then (number_at 4) _ number field []
    (field_is 4 field size) none (subst P (sym is) rest))

with_empty_list : (flags : ℕ) (field : List ℕ) → is_start flags ≡ true → length field ≡ 4
    → big_number 4 field ≡ 0 → IsPart (segment_items_at flags) field none
unfolding segment_items_at
with_empty_list flags field start size is =
    rw (start, segment_items_at) (empty_list field size is)

module _ (window : List ℕ) (k : ℕ) (enough : 10 + k + 8 ≤ length window)
    (is : slice_index window 0 ≡ 1) where
  -- a segment whose list has `k` bytes and no items
  segment_head : IsPart (segment_items_at (slice_index window 1)) (take k (drop 10 window)) none
      → IsPart message_at (take (1 + (1 + (8 + (k + 8)))) window)
      (Segment (record {
        flags = slice_index window 1;
        id = big_number 8 (take 8 (drop 2 window));
        items = none;
        length = big_number 8 (take 8 (drop (10 + k) window));
      }))
  unfolding fields_at segment_at
  segment_head list = typed window 1 (1 + (8 + (k + 8))) _ (omega arith) is
      (byte_then window 1 _ _ _ (omega arith) (field_then window 2 8 _ _ _ (omega arith)
      (part_then window 10 k 8 _ none _ _ list
      (field_then window (10 + k) 8 0 _ _ (omega arith) (pure_is _)))))

pub later_head : (window : List ℕ) → 18 ≤ length window → slice_index window 0 ≡ 1
    → bit_and (slice_index window 1) 2 ≢ 2
    → IsPart message_at (take 18 window)
    (Segment (record {
      flags = slice_index window 1;
      id = big_number 8 (slice_range window 2 10);
      items = segment_items (slice_index window 1) none;
      length = big_number 8 (slice_range window 10 18);
    }))
later_head window enough is other =
    let start : is_start (slice_index window 1) ≡ false =
    ne_eqb (bit_and (slice_index window 1) 2) 2 other in
    rw start (segment_head window 0 enough is (without_items _ start))

pub first_head : (window : List ℕ) → 22 ≤ length window → slice_index window 0 ≡ 1
    → is_start (slice_index window 1) ≡ true → big_number 4 (slice_range window 10 14) ≡ 0
    → IsPart message_at (take 22 window)
    (Segment (record {
      flags = slice_index window 1;
      id = big_number 8 (slice_range window 2 10);
      items = segment_items (slice_index window 1) none;
      length = big_number 8 (slice_range window 14 22);
    }))
first_head window enough is start empty =
    let field = take 4 (drop 10 window) in
    let size : length field ≡ 4 =
    omega (arith, length-take 4 (drop 10 window), length-drop 10 window) in
    rw start (segment_head window 4 enough is (with_empty_list _ field start size empty))
