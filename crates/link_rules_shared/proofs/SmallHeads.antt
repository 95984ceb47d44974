-- The heads that are one byte, and that no string follows.

use Rattle.std.proofs.Common.{◌≡◌, ℕ, ◌+◌, ◌/◌, ◌%◌, ◌^◌, ◌<◌, Bool, true, false, List, [], ◌∷◌, ◌++◌, length, get_or, take, drop, Some, refl, sym, ap, subst, length-drop, get_or-drop, arith}
use Rattle.std.specs.Prelude.{not, ◌&&◌, ◌||◌, ◌==◌, nat_lt, bit_and}
use Rattle.std.proofs.lemmas.Bool.{agree_below_at, false≢true, not-true}
use Rattle.link_cbor.specs.declared.head.Head.{Head as HeadItem}
use Rattle.link_cbor.specs.Head.{Whole, front_by, head_front, whole_of}
use Rattle.link_rules_shared.specs.declared.heads.{Found.Found, WalkStage.TheVariants.Inside}
use Rattle.link_rules_shared.specs.Heads.{content_size}
use Rattle.link_rules_shared.specs.HeadWalk.{AreFirstSoughtHeads, NotesCborHead}
use Rattle.link_rules_shared.proofs.Walks.{found_head, or_none}

abbrev pub is_small : ℕ → Bool
is_small byte = nat_lt (byte % 32) 24 && not ((byte / 32 == 2) || (byte / 32 == 3))

-- the bits of the code
pub by_bits : (byte : ℕ) → byte < 256
    → (bit_and (0x77770077 / 2 ^ (byte / 8)) 1 == 1) ≡ is_small byte
by_bits byte small =
    agree_below_at (λ byte. bit_and (0x77770077 / 2 ^ (byte / 8)) 1 == 1) is_small 256 byte refl
    small

both : (first second : Bool) → (first && second) ≡ true → (first ≡ true) × (second ≡ true)
both true true holds = (refl, refl)
both true false holds = absurd (false≢true holds)
both false second holds = absurd (false≢true holds)

and_false : (first : Bool) → (first && false) ≡ false
and_false true = refl
and_false false = refl

-- the head of a small byte
abbrev head_of : ℕ → HeadItem
head_of byte = record { major = byte / 32; value = Some (byte % 32) }

head_front-one_byte : (bytes : List ℕ) → 0 < length bytes → nat_lt (get_or bytes 0 0 % 32) 24 ≡ true
    → head_front bytes ≡ Whole (head_of (get_or bytes 0 0)) 1
unfolding head_front front_by
head_front-one_byte [] some small = absurd (omega arith)
head_front-one_byte (byte ∷ rest) some small = rw small refl

noted : (found : Found) (offset byte : ℕ) → nat_lt (byte % 32) 24 ≡ true
    → NotesCborHead found found offset (head_of byte) 1
noted found offset byte small = record {
  long = rw small (sym (or_none found.long));
  string = sym (or_none found.string);
  item = sym (or_none found.item);
  encoded = rw (and_false (byte / 32 == 6)) (sym (or_none found.encoded));
}

no_content : (byte : ℕ) → ((byte / 32 == 2) || (byte / 32 == 3)) ≡ false
    → content_size (head_of byte) ≡ 0
no_content byte no_string = rw no_string refl

-- a small head in a piece: nothing is found in it, and a head begins after it
pub found_small : (found : Found) (offset taken : ℕ) (seen piece : List ℕ) → offset ≡ length seen
    → taken < length piece → is_small (get_or piece taken 0) ≡ true
    → AreFirstSoughtHeads found (Inside 0) (seen ++ take taken piece)
    → length (seen ++ take (taken + 1) piece) < 2 ^ 63
    → AreFirstSoughtHeads found (Inside 0) (seen ++ take (taken + 1) piece)
found_small found offset taken seen piece here within is come small =
    let byte = get_or piece taken 0 in
    let parts = both (nat_lt (byte % 32) 24) _ is in
    let rest = drop taken piece in
    let some : 0 < length (drop taken piece) = omega (arith, length-drop taken piece) in
    let first : get_or (drop taken piece) 0 0 ≡ get_or piece taken 0 = grind (arith, get_or-drop) in
    let begins : head_front (drop taken piece) ≡ Whole (head_of (get_or piece taken 0)) 1 =
    rw first at (head_front-one_byte rest some (rw first parts.0)) in
    subst (λ (left : ℕ). AreFirstSoughtHeads found (Inside left) (seen ++ take (taken + 1) piece))
    (no_content byte (not-true _ parts.1))
    (found_head found found offset taken 1 seen piece (head_of byte) here (omega arith)
    (ap whole_of begins) (omega arith) come
    (noted found ((offset + taken) % 2 ^ 64) byte parts.0) small)
