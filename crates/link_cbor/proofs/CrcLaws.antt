-- Consequences of the definition of a check value, for lists of bytes in a row and for zero bits
-- and bytes.

use Rattle.std.proofs.Common.{◌≡◌, ℕ, zero, suc, ◌+◌, ◌*◌, ◌/◌, ◌%◌, ◌^◌, ◌<◌, List, [], ◌∷◌, ◌++◌, replicate, refl, sym, ap, ◌∙◌, ⊎_elim, arith}
use Rattle.std.specs.Prelude.{fold, bit_xor}
use Rattle.std.specs.Int.Bits.{xor_assoc, xor_zero_l, xor_zero_r, xor_self, xor_mod, xor_shr, xor_add_and}
use Rattle.std.proofs.lemmas.{Nat.{xor_comm, and_le_l, and_le_r}, List.Concat.flat_map-append, List.Sums.fold-append}
use Rattle.std.proofs.lemmas.List.{append-nil, replicate-append-replicate}
use Rattle.std.proofs.{lemmas.Bool.{cases_eq, eq-eqb, ne_eqb}, Math.Nat.pow-suc}
use Rattle.link_cbor.specs.declared.check.CheckKind.{CheckKind}
use Rattle.link_cbor.specs.Crc.{polynomial, low_bits, all_bits, turn, register_after}

pub register_after-nil : (kind : CheckKind) (register : ℕ)
    → register_after kind register [] ≡ register
unfolding register_after all_bits
register_after-nil kind register = refl

-- the bytes of the second list are taken into the register after the first
pub register_after-append : (kind : CheckKind) (register : ℕ) (first second : List ℕ)
    → register_after kind register (first ++ second)
    ≡ register_after kind (register_after kind register first) second
unfolding register_after all_bits
register_after-append kind register first second = rw (flat_map-append, fold-append)

-- the turns of this many zero bits
unfoldable pub zero_turns : CheckKind → ℕ → ℕ → ℕ
zero_turns kind count register = fold (turn kind) register (replicate count 0)

pub zero_turns-none : (kind : CheckKind) (register : ℕ) → zero_turns kind 0 register ≡ register
unfolding zero_turns
zero_turns-none kind register = refl

pub zero_turns-add : (kind : CheckKind) (count more register : ℕ)
    → zero_turns kind (count + more) register
    ≡ zero_turns kind more (zero_turns kind count register)
unfolding zero_turns
zero_turns-add kind count more register =
    rw (← replicate-append-replicate {A = ℕ} count more 0, fold-append)

pub turn-same : (kind : CheckKind) (register bit : ℕ) → register % 2 ≡ bit
    → turn kind register bit ≡ register / 2
unfolding turn
turn-same kind register bit same = rw (eq-eqb (register % 2) bit same) refl

pub turn-other : (kind : CheckKind) (register bit : ℕ) → (register % 2 ≡ bit → ⊥)
    → turn kind register bit ≡ bit_xor (register / 2) (polynomial kind)
unfolding turn
turn-other kind register bit other = rw (ne_eqb (register % 2) bit other) refl

xor_none : (x y : ℕ) → bit_xor x y ≡ 0 → x ≡ y
xor_none x y none = omega (arith, xor_add_and x y, and_le_l x y, and_le_r x y)

-- a bit of the message may be exclusive-ored into the register before the turn of a zero bit
pub turn_first : (kind : CheckKind) (register number : ℕ)
    → bit_xor (turn kind register (number % 2)) (number / 2) ≡ turn kind (bit_xor register number) 0
turn_first kind register number =
    let low : bit_xor register number % 2 ≡ bit_xor (register % 2) (number % 2) =
    xor_mod register number 1 in
    let half : bit_xor register number / 2 ≡ bit_xor (register / 2) (number / 2) =
    xor_shr register number 1 in
    ⊎_elim
    (λ same. rw (
      turn-same kind register (number % 2) same,
      turn-same kind (bit_xor register number) 0 (rw (low, same) (xor_self (number % 2))),
      half,
    ))
    (λ other. rw (
      turn-other kind register (number % 2) other,
      turn-other kind (bit_xor register number) 0 (λ none. other (xor_none _ _ (sym low ∙ none))),
      half,
      xor_assoc (register / 2) (polynomial kind) (number / 2),
      xor_comm (polynomial kind) (number / 2),
      xor_assoc (register / 2) (number / 2) (polynomial kind),
    ))
    (cases_eq (register % 2) (number % 2))

turns_first : (kind : CheckKind) (count register number : ℕ) → number < 2 ^ count
    → fold (turn kind) register (low_bits count number)
    ≡ zero_turns kind count (bit_xor register number)
unfolding low_bits zero_turns
turns_first kind zero register number below =
    let none : number ≡ 0 = omega arith in rw (none, xor_zero_r register) refl
turns_first kind (suc count) register number below =
    turns_first kind count (turn kind register (number % 2)) (number / 2)
    (omega (arith, pow-suc 2 count))
    ∙ ap (λ r. fold (turn kind) r (replicate count 0)) (turn_first kind register number)

-- a byte may be exclusive-ored into the register before the turns of eight zero bits
pub register_after-byte : (kind : CheckKind) (register byte : ℕ) → byte < 256
    → register_after kind register (byte ∷ []) ≡ zero_turns kind 8 (bit_xor register byte)
unfolding register_after all_bits
register_after-byte kind register byte below =
    ap (λ bits. fold (turn kind) register bits) (append-nil (low_bits 8 byte))
    ∙ turns_first kind 8 register byte below

pub register_after-cons : (kind : CheckKind) (register byte : ℕ) (bytes : List ℕ) → byte < 256
    → register_after kind register (byte ∷ bytes)
    ≡ register_after kind (zero_turns kind 8 (bit_xor register byte)) bytes
register_after-cons kind register byte bytes below =
    register_after-append kind register (byte ∷ []) bytes
    ∙ ap (λ r. register_after kind r bytes) (register_after-byte kind register byte below)

-- zero bytes of the message are the turns of their zero bits
register_after-zeros : (kind : CheckKind) (register count : ℕ)
    → register_after kind register (replicate count 0) ≡ zero_turns kind (8 * count) register
register_after-zeros kind register zero =
    register_after-nil kind register ∙ sym (zero_turns-none kind register)
register_after-zeros kind register (suc count) =
    let eights : 8 + 8 * count ≡ 8 * suc count = omega arith in
    register_after-cons kind register 0 (replicate count 0) (omega arith)
    ∙ register_after-zeros kind (zero_turns kind 8 (bit_xor register 0)) count
    ∙ ap (λ r. zero_turns kind (8 * count) (zero_turns kind 8 r)) (xor_zero_r register)
    ∙ sym (zero_turns-add kind 8 (8 * count) register)
    ∙ ap (λ turns. zero_turns kind turns register) eights

-- a byte and zero bytes after it, from a register of zero
pub register_after-byte_zeros : (kind : CheckKind) (byte count : ℕ) → byte < 256
    → register_after kind 0 (byte ∷ replicate count 0) ≡ zero_turns kind (8 * (count + 1)) byte
register_after-byte_zeros kind byte count below =
    let eights : 8 + 8 * count ≡ 8 * (count + 1) = omega arith in
    register_after-cons kind 0 byte (replicate count 0) below
    ∙ register_after-zeros kind (zero_turns kind 8 (bit_xor 0 byte)) count
    ∙ ap (λ r. zero_turns kind (8 * count) (zero_turns kind 8 r)) (xor_zero_l byte)
    ∙ sym (zero_turns-add kind 8 (8 * count) byte)
    ∙ ap (λ turns. zero_turns kind turns byte) eights
