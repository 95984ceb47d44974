-- The heads of blocks, and the break, are read as they were written.
use Rattle.std.proofs.Common.{◌≡◌, ℕ, ◌+◌, ◌^◌, ◌<◌, ◌≤◌, ◌==◌, true, false, List, [], ◌∷◌, Option, None, arith, refl}
use Rattle.std.specs.List.{list_any}
use Rattle.std.proofs.lemmas.Bool.{Decides.nat_tests}
use Rattle.link_cbor.specs.declared.check.{CheckKind.CheckKind, CheckKind.TheVariants.{Crc16, Crc32}}
use Rattle.link_cbor.specs.Head.{front_by, no_argument, head_front}
use Rattle.link_bundle_heads.specs.Rows.{array, unsigned, is_break, primary_block, version, check_type, primary_check_type, is_fragment, check_elements, check_width, check_field, block, block_number, block_check_type, block_data, fits_type, closing}
use Rattle.link_bundle_blocks.specs.Reading.{head_at, row_at}
use Rattle.link_bundle_blocks.proofs.Heads.{row_at-accepted}
use Rattle.link_bundle_writer.proofs.There.{ReadsThere, there_row}
use Rattle.link_bundle_writer.specs.Heads.{head_bytes}
use Rattle.link_bundle_writer.specs.NewBlocks.{check_type as type_of, fragment_elements, says_fragment}

-- ---- the primary block

pub there_version : ReadsThere (row_at version) 7 (head_bytes 0 7)
unfolding version unsigned
there_version = there_row version 7 0 7 (omega arith) (omega arith) refl

pub there_primary : (count : ℕ) → 8 ≤ count → count ≤ 11
    → ReadsThere (row_at primary_block) count (head_bytes 4 count)
unfolding primary_block array
there_primary count least most =
    there_row primary_block count 4 count (omega arith) (omega (arith, most)) (grind (arith, nat_tests))

-- the number of elements is the one that the flags and the check type ask for
pub there_primary_check : (flags : ℕ) (fragment : Option (ℕ × ℕ)) (check : Option CheckKind)
    → says_fragment (is_fragment flags) fragment ≡ true
    → ReadsThere
    (row_at (primary_check_type (8 + fragment_elements fragment + check_elements check) flags))
    check (head_bytes 0 (type_of check))
unfolding primary_check_type check_type unsigned
there_primary_check flags fragment check says =
    there_row _ check 0 (type_of check) (omega arith) (grind arith) (grind (arith, nat_tests))

-- ---- canonical blocks

pub there_block : (count : ℕ) → 5 ≤ count → count ≤ 6
    → ReadsThere (row_at block) count (head_bytes 4 count)
unfolding block array is_break
there_block count least most =
    there_row block count 4 count (omega arith) (omega (arith, most)) (grind (arith, nat_tests))

-- a number that no block before has
pub there_number : (type number : ℕ) (numbers : List ℕ) → number < 2 ^ 64
    → fits_type type number ≡ true → list_any (λ earlier. earlier == number) numbers ≡ false
    → ReadsThere (row_at (block_number type numbers)) number (head_bytes 0 number)
unfolding block_number unsigned
there_number type number numbers below fits new =
    there_row _ number 0 number (omega arith) below (rw (fits, new) refl)

pub there_check : (check : Option CheckKind)
    → ReadsThere (row_at (block_check_type (5 + check_elements check))) check
    (head_bytes 0 (type_of check))
unfolding block_check_type check_type unsigned
there_check check = there_row _ check 0 (type_of check) (omega arith) (grind arith) (grind arith)

pub there_data : (size : ℕ) → size < 2 ^ 64
    → ReadsThere (row_at block_data) size (head_bytes 2 size)
unfolding block_data
there_data size fits = there_row block_data size 2 size (omega arith) fits refl

pub there_field : (kind : CheckKind)
    → ReadsThere (row_at (check_field kind)) (check_width kind) (head_bytes 2 (check_width kind))
unfolding check_field
there_field Crc16 = there_row (check_field Crc16) 2 2 2 (omega arith) (omega arith) refl
there_field Crc32 = there_row (check_field Crc32) 4 2 4 (omega arith) (omega arith) refl

-- ---- the break

pub there_closing : ReadsThere (row_at closing) true (0xff ∷ [])
unfolding closing is_break head_at head_front front_by no_argument
there_closing = record {
  by = λ bytes offset more within here.
      row_at-accepted closing bytes offset (offset + 1) (record { major = 7; value = None }) true
      (rw here refl) refl;
}
