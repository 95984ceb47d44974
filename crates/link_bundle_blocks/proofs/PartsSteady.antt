-- The parts of a bundle that a scan holds: so many bytes are enough to read each of them.

use Rattle.std.proofs.Common.{◌≡◌, ℕ, ◌<◌, ◌≤◌, ◌⊎◌, inl, inr, List, ◌++◌, length, Ok, refl, arith}
use Rattle.std.specs.Prelude.{IfOk}
use Rattle.link_cbor.specs.declared.check.CheckKind.{CheckKind}
use Rattle.link_bundle_heads.specs.Rows.{closing}
use Rattle.link_bundle_blocks.specs.Reading.{ReadAt, cut_short, row_at}
use Rattle.link_bundle_blocks.specs.Whole.{whole_primary}
use Rattle.link_bundle_blocks.specs.Parts.{next_block_at, field_from, any_field}
use Rattle.link_bundle_blocks.proofs.Steady.{Reads, is_read, has_fault, is_cut, goes_on, stops, row_at-reads, next_block_at-reads, field_from-reads, any_field-reads, lasting}
use Rattle.link_bundle_blocks.proofs.Elements.{whole_primary-reads}

-- The reading of a part that some bytes begin with. The part has at most `limit` bytes, and bytes
-- after it make no difference.
pub record IsBoundedPart {A : Type 0} (limit : ℕ) (part : List ℕ → ReadAt A) : Type 0 where
  pub reads : (bytes more : List ℕ) → Reads limit bytes 0 (part bytes) (part (bytes ++ more))

pub primary-part : IsBoundedPart 3257 whole_primary
primary-part = record { reads = whole_primary-reads }

pub heads-part : (numbers : List ℕ) → IsBoundedPart 54 (λ bytes. next_block_at numbers bytes 0)
heads-part numbers = record { reads = λ bytes more. next_block_at-reads bytes more numbers 0 }

pub field-part : (kind : CheckKind) (before : List ℕ) → IsBoundedPart 13 (field_from kind before)
field-part kind before = record { reads = λ bytes more. field_from-reads bytes more kind before }

pub any_field-part : (kind : CheckKind) → IsBoundedPart 13 (any_field kind)
any_field-part kind = record { reads = λ bytes more. any_field-reads bytes more kind }

pub break-part : IsBoundedPart 9 (λ bytes. row_at closing bytes 0)
break-part =
    record { reads = λ bytes more. row_at-reads bytes more closing 0 lasting.of_closing }

-- the first bytes end inside the part, which ends after them, or more bytes do not change it
abbrev pub CutOrSame : {A : Type 0} → List ℕ → ReadAt A → ReadAt A → Type 0
CutOrSame front now later =
    ((now ≡ cut_short front) × IfOk later (λ read. length front < read.1))
    ⊎ ((later ≡ now) × IfOk now (λ read. read.1 ≤ length front))

cut_or_same : {A : Type 0} {limit : ℕ} {front : List ℕ} {now later : ReadAt A}
    → Reads limit front 0 now later → CutOrSame front now later
cut_or_same (is_read onward below within) = inr (refl, within (omega arith))
cut_or_same (has_fault fault here stays) = inr (refl, tt)
cut_or_same (is_cut short (goes_on onward past)) = inl (refl, past)
cut_or_same (is_cut short (stops fault)) = inl (refl, tt)

module _ {A : Type 0} {limit : ℕ} {part : List ℕ → ReadAt A} (is_part : IsBoundedPart limit part) where
  pub part-more : (front more : List ℕ) → CutOrSame front (part front) (part (front ++ more))
  part-more front more = cut_or_same (is_part.reads front more)

  -- more bytes do not change a part that is read
  pub keeps : (front more : List ℕ) (value : A) (next : ℕ) → part front ≡ Ok (value, next)
      → (part (front ++ more) ≡ Ok (value, next)) × (next ≤ length front)
  keeps front more value next is = grind (arith, part-more front more)
