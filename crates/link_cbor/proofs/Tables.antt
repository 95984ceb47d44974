-- The tables compared with their definition: one test of all entries is computed, and the facts
-- about each entry follow from it.

use Rattle.std.proofs.Common.{◌≡◌, ℕ, zero, suc, ◌+◌, ◌*◌, ◌<◌, Bool, true, false, ◌&&◌, ◌==◌, List, [], ◌∷◌, length, get_or, refl, sym, ap, ◌∙◌, zero-add, arith}
use Rattle.std.specs.List.{range_with_len}
use Rattle.std.proofs.lemmas.List.FromFn.{get_or-range_with_len, length-range_with_len}
use Rattle.std.proofs.lemmas.Bool.{eqb-true, and_parts, false≢true}
use Rattle.link_cbor.specs.declared.check.CheckKind.{CheckKind}
use Rattle.link_cbor.specs.declared.check.CheckKind.TheVariants.{Crc16, Crc32}
use Rattle.link_cbor.specs.declared.check.crc16.TheConstants.{TABLES as CRC16_TABLES}
use Rattle.link_cbor.specs.{declared.check.crc32.TheConstants.TABLES as CRC32_TABLES, Crc.turn}
use Rattle.link_cbor.specs.CrcTables.{AreCrcTables}
use Rattle.link_cbor.proofs.CrcLaws.{zero_turns, zero_turns-add, register_after-byte_zeros}

-- each entry is the register in the same position of the first list, after one zero byte
unfoldable pub is_next : CheckKind → List ℕ → List ℕ → Bool
is_next kind [] [] = true
is_next kind [] (entry ∷ entries) = false
is_next kind (register ∷ registers) [] = false
is_next kind (register ∷ registers) (entry ∷ entries) =
    entry == zero_turns kind 8 register && is_next kind registers entries

-- the first table follows from these registers, and each later table from the one before it
unfoldable pub are_next : CheckKind → List ℕ → List (List ℕ) → Bool
are_next kind registers [] = true
are_next kind registers (table ∷ tables) =
    is_next kind registers table && are_next kind table tables

is_next-length : (kind : CheckKind) (registers table : List ℕ) → is_next kind registers table ≡ true
    → length table ≡ length registers
unfolding is_next
is_next-length kind [] table next = grind arith
is_next-length kind (register ∷ registers) [] next = absurd (false≢true next)
is_next-length kind (register ∷ registers) (entry ∷ entries) next =
    ap suc (is_next-length kind registers entries (and_parts _ _ next).1)

is_next-at : (kind : CheckKind) (registers table : List ℕ) (index : ℕ)
    → is_next kind registers table ≡ true → index < length registers
    → get_or table index 0 ≡ zero_turns kind 8 (get_or registers index 0)
unfolding is_next
is_next-at kind [] table index next within = absurd (omega arith)
is_next-at kind (register ∷ registers) [] index next within = absurd (false≢true next)
is_next-at kind (register ∷ registers) (entry ∷ entries) zero next within =
    eqb-true _ _ (and_parts _ _ next).0
is_next-at kind (register ∷ registers) (entry ∷ entries) (suc index) next within =
    is_next-at kind registers entries index (and_parts _ _ next).1 (omega arith)

are_next-at : (kind : CheckKind) (registers : List ℕ) (tables : List (List ℕ)) (k index : ℕ)
    → are_next kind registers tables ≡ true → k < length tables → index < length registers
    → get_or (get_or tables k []) index 0 ≡ zero_turns kind (8 * (k + 1)) (get_or registers index 0)
unfolding are_next
are_next-at kind registers [] k index next there within = absurd (omega arith)
are_next-at kind registers (table ∷ tables) zero index next there within =
    is_next-at kind registers table index (and_parts _ _ next).0 within
are_next-at kind registers (table ∷ tables) (suc k) index next there within =
    let first : is_next kind registers table ≡ true = (and_parts _ _ next).0 in
    let bits : 8 + 8 * (k + 1) ≡ 8 * (suc k + 1) = omega arith in
    are_next-at kind table tables k index (and_parts _ _ next).1 (omega arith)
    (omega (arith, is_next-length kind registers table first))
    ∙ ap (zero_turns kind (8 * (k + 1))) (is_next-at kind registers table index first within)
    ∙ sym (zero_turns-add kind 8 (8 * (k + 1)) (get_or registers index 0))
    ∙ ap (λ count. zero_turns kind count (get_or registers index 0)) bits

are_tables : (kind : CheckKind) (tables : List (List ℕ)) → length tables ≡ 16
    → are_next kind (range_with_len 0 256) tables ≡ true → AreCrcTables kind tables
are_tables kind tables sixteen next k byte there below =
    are_next-at kind (range_with_len 0 256) tables k byte next (omega arith)
    (omega (arith, length-range_with_len 0 256))
    ∙ ap (zero_turns kind (8 * (k + 1))) (get_or-range_with_len 0 256 byte 0 below ∙ zero-add byte)
    ∙ sym (register_after-byte_zeros kind byte k below)

pub crc16_tables : AreCrcTables Crc16 CRC16_TABLES
unfolding is_next are_next zero_turns turn
crc16_tables = are_tables Crc16 CRC16_TABLES refl refl

pub crc32_tables : AreCrcTables Crc32 CRC32_TABLES
unfolding is_next are_next zero_turns turn
crc32_tables = are_tables Crc32 CRC32_TABLES refl refl
