-- The register is linear: it is the exclusive or of the registers that each byte leads to alone.

use Rattle.std.proofs.Common.{◌≡◌, ℕ, zero, suc, ◌+◌, ◌*◌, ◌/◌, ◌%◌, ◌^◌, ◌<◌, List, [], ◌∷◌, length, replicate, refl, sym, ap, ap₂, ◌∙◌, ⊎_elim, arith}
use Rattle.std.specs.Prelude.{fold}
use Rattle.std.specs.Int.Bits.{bit_xor, xor_assoc, xor_zero_r, xor_self, xor_shifted}
use Rattle.std.proofs.{Math.Nat.pow-suc, lemmas.Nat.xor_comm}
use Rattle.std.proofs.lemmas.{List.Elements.{All-head, All-tail}, Bool.cases_eq}
use Rattle.link_cbor.specs.declared.check.CheckKind.{CheckKind}
use Rattle.link_cbor.specs.{Crc.{polynomial, turn, register_after}, Head.AreBytes}
use Rattle.link_cbor.proofs.CrcLaws.{register_after-nil, register_after-cons, zero_turns, zero_turns-none, zero_turns-add, turn-same, turn-other, turn_first}

-- zeros in the lowest bits of a number are shifted out, one in each turn
zero_turns-shift : (kind : CheckKind) (count number : ℕ)
    → zero_turns kind count (number * 2 ^ count) ≡ number
unfolding zero_turns
zero_turns-shift kind zero number = omega arith
zero_turns-shift kind (suc count) number =
    let even : number * 2 ^ suc count ≡ 2 * (number * 2 ^ count) =
    omega (arith, ap (λ power. number * power) (pow-suc 2 count)) in
    let none : number * 2 ^ suc count % 2 ≡ 0 = omega arith in
    let half : number * 2 ^ suc count / 2 ≡ number * 2 ^ count = omega arith in
    ap (λ r. fold (turn kind) r (replicate count 0))
    (turn-same kind (number * 2 ^ suc count) 0 none ∙ half)
    ∙ zero_turns-shift kind count number

-- the two bits of a message lead to registers that differ by the polynomial
turn-one : (kind : CheckKind) (register : ℕ)
    → turn kind register 1 ≡ bit_xor (turn kind register 0) (polynomial kind)
turn-one kind register =
    ⊎_elim
    (λ even. rw (
      turn-other kind register 1 (λ odd. absurd (omega arith)),
      turn-same kind register 0 even,
    ))
    (λ odd. rw (
      turn-same kind register 1 (omega arith),
      turn-other kind register 0 odd,
      xor_assoc,
      xor_self (polynomial kind),
      xor_zero_r,
    ))
    (cases_eq (register % 2) 0)

turn-xor : (kind : CheckKind) (first second : ℕ)
    → turn kind (bit_xor first second) 0 ≡ bit_xor (turn kind first 0) (turn kind second 0)
turn-xor kind first second =
    rw (← turn_first kind first second) (⊎_elim
    (λ even. rw even (rw (turn-same kind second 0 even)))
    (λ odd.
    let one : second % 2 ≡ 1 = omega arith in
    rw (one, turn-one kind first, turn-other kind second 0 odd, xor_assoc)
    (rw (xor_comm (polynomial kind) (second / 2))))
    (cases_eq (second % 2) 0))

-- after zero bits, the exclusive or of two registers is the exclusive or of the registers after
-- them
zero_turns-xor : (kind : CheckKind) (count first second : ℕ)
    → zero_turns kind count (bit_xor first second)
    ≡ bit_xor (zero_turns kind count first) (zero_turns kind count second)
unfolding zero_turns
zero_turns-xor kind zero first second = refl
zero_turns-xor kind (suc count) first second =
    ap (λ r. fold (turn kind) r (replicate count 0)) (turn-xor kind first second)
    ∙ zero_turns-xor kind count (turn kind first 0) (turn kind second 0)

-- A number is exclusive-ored into the register before some bytes. It has the same effect after them
-- as after that many zero bytes.
register_after-xor : (kind : CheckKind) (register number : ℕ) (bytes : List ℕ) → AreBytes bytes
    → register_after kind (bit_xor register number) bytes
    ≡ bit_xor (register_after kind register bytes) (zero_turns kind (8 * length bytes) number)
register_after-xor kind register number [] all =
    register_after-nil kind (bit_xor register number)
    ∙ sym (ap₂ bit_xor (register_after-nil kind register) (zero_turns-none kind number))
register_after-xor kind register number (byte ∷ bytes) all =
    let below : byte < 256 = All-head (λ b. b < 256) byte bytes all in
    let swapped : bit_xor (bit_xor register number) byte ≡ bit_xor (bit_xor register byte) number =
    rw (xor_assoc register number byte, xor_comm number byte, xor_assoc register byte number) in
    let eights : 8 + 8 * length bytes ≡ 8 * length (byte ∷ bytes) = omega arith in
    register_after-cons kind (bit_xor register number) byte bytes below
    ∙ ap (λ r. register_after kind r bytes)
    (ap (zero_turns kind 8) swapped ∙ zero_turns-xor kind 8 (bit_xor register byte) number)
    ∙ register_after-xor kind (zero_turns kind 8 (bit_xor register byte))
    (zero_turns kind 8 number) bytes
    (All-tail (λ b. b < 256) byte bytes all)
    ∙ ap₂ bit_xor (sym (register_after-cons kind register byte bytes below))
    (sym (zero_turns-add kind 8 (8 * length bytes) number)
    ∙ ap (λ count. zero_turns kind count number) eights)

-- The first byte of a message and the lowest byte of the register are exclusive-ored, and one zero
-- byte follows for each other byte. The other bytes are taken into the rest of the register.
pub register_after-split : (kind : CheckKind) (register byte : ℕ) (bytes : List ℕ)
    → byte < 256 → AreBytes bytes
    → register_after kind register (byte ∷ bytes)
    ≡ bit_xor (zero_turns kind (8 * (length bytes + 1)) (bit_xor (register % 256) byte))
    (register_after kind (register / 256) bytes)
register_after-split kind register byte bytes below all =
    let high : ℕ = register / 256 * 2 ^ 8 in
    let low : ℕ = bit_xor (register % 256) byte in
    let whole : high + register % 256 ≡ register = omega arith in
    let parts : bit_xor register byte ≡ bit_xor high low =
    rw (
      ← xor_assoc high (register % 256) byte,
      xor_shifted (register / 256) 8 (register % 256) (omega arith),
      whole,
    ) in
    let eights : 8 + 8 * length bytes ≡ 8 * (length bytes + 1) = omega arith in
    rw (
      register_after-cons kind register byte bytes below,
      parts,
      zero_turns-xor kind 8 high low,
      zero_turns-shift kind 8 (register / 256),
      register_after-xor kind (register / 256) (zero_turns kind 8 low) bytes all,
      ← zero_turns-add kind 8 (8 * length bytes) low,
      eights,
    )
    (xor_comm (register_after kind (register / 256) bytes) _)
