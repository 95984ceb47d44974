-- A message by look-ups in tables.

use Rattle.std.proofs.Common.{◌≡◌, ℕ, ◌+◌, ◌-◌, ◌*◌, ◌/◌, ◌%◌, ◌^◌, ◌<◌, List, [], ◌∷◌, length, get_or, drop, sym, ap, ap₂, ◌∙◌, arith, length-drop}
use Rattle.std.specs.Int.Bits.{bit_xor}
use Rattle.std.proofs.lemmas.{Nat.{shr-shr, xor_comm, xor_lt}, List.drop_more}
use Rattle.std.proofs.lemmas.List.Elements.{All-drop}
use Rattle.link_cbor.specs.{declared.check.CheckKind.CheckKind, Crc.register_after}
use Rattle.link_cbor.specs.{CrcTables.AreCrcTables, Head.AreBytes}
use Rattle.link_cbor.proofs.{CrcLaws.register_after-byte_zeros, Linear.register_after-split}

-- the first byte of a message is looked up in the table whose number is that of the bytes after it
pub looked_up : (kind : CheckKind) (tables : List (List ℕ)) (register byte : ℕ) (bytes : List ℕ)
    → AreCrcTables kind tables → byte < 256 → AreBytes bytes → length bytes < 16
    → register_after kind register (byte ∷ bytes)
    ≡ bit_xor (get_or (get_or tables (length bytes) []) (bit_xor (register % 256) byte) 0)
    (register_after kind (register / 256) bytes)
looked_up kind tables register byte bytes rule below all few =
    let index : bit_xor (register % 256) byte < 2 ^ 8 =
    xor_lt 8 (register % 256) byte (omega arith) below in
    register_after-split kind register byte bytes below all
    ∙ ap (λ entry. bit_xor entry (register_after kind (register / 256) bytes))
    (sym (rule (length bytes) (bit_xor (register % 256) byte) few index
    ∙ register_after-byte_zeros kind (bit_xor (register % 256) byte) (length bytes) index))

-- The same for a message of sixteen bytes, from its end. `sum` is the register after the last
-- `zeros` bytes, from the rest of the register before them.
pub looked_up-before : (kind : CheckKind) (tables : List (List ℕ)) (register : ℕ)
    (bytes : List ℕ) (sum zeros : ℕ)
    → AreCrcTables kind tables → AreBytes bytes → length bytes ≡ 16 → zeros < 16
    → register_after kind (register / 2 ^ (8 * (16 - zeros))) (drop (16 - zeros) bytes) ≡ sum
    → register_after kind (register / 2 ^ (8 * (15 - zeros))) (drop (15 - zeros) bytes)
    ≡ bit_xor sum
    (get_or (get_or tables zeros [])
    (bit_xor (register / 2 ^ (8 * (15 - zeros)) % 256) (get_or bytes (15 - zeros) 0)) 0)
looked_up-before kind tables register bytes sum zeros rule all sixteen few was =
    let position : ℕ = 15 - zeros in
    let left : ℕ = register / 2 ^ (8 * position) in
    let byte : ℕ = get_or bytes position 0 in
    let next : position + 1 ≡ 16 - zeros = omega arith in
    let eights : 8 * position + 8 ≡ 8 * (position + 1) = omega arith in
    let within : position < length bytes = omega arith in
    let rest : List ℕ = drop (position + 1) bytes in
    let size : length rest ≡ zeros = omega (arith, length-drop (position + 1) bytes) in
    let entry : ℕ = get_or (get_or tables zeros []) (bit_xor (left % 256) byte) 0 in
    ap (register_after kind left) (drop_more bytes position 0 within)
    ∙ looked_up kind tables left byte rest rule (all position 0 within)
    (All-drop (λ b. b < 256) (position + 1) bytes all) (omega arith)
    ∙ ap₂ (λ k r. bit_xor (get_or (get_or tables k []) (bit_xor (left % 256) byte) 0)
    (register_after kind r rest))
    size
    (shr-shr register (8 * position) 8 ∙ ap (λ bits. register / 2 ^ bits) eights)
    ∙ ap (λ n. bit_xor entry (register_after kind (register / 2 ^ (8 * n)) (drop n bytes))) next
    ∙ ap (bit_xor entry) was
    ∙ xor_comm entry sum
