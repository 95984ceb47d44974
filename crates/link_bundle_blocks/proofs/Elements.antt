-- The elements of a primary block, and the fields before a stop in them.

use Rattle.std.proofs.Common.{◌≡◌, ℕ, ◌+◌, ◌⊎◌, inl, inr, Bool, true, false, List, ◌++◌, Option, Some, Result, Ok, Err, refl, ap, ◌∙◌, arith}
use Rattle.link_cbor.specs.declared.{head.Head.Head}
use Rattle.link_bundle_types.specs.declared.{eid.Eid.Eid, fault.BundleFault.BundleFault}
use Rattle.link_bundle_heads.specs.Rows.{◌>>=◌, unsigned, pair, primary_block, version, is_fragment, primary_check_type}
use Rattle.link_bundle_blocks.specs.Reading.{ReadAt, row_at}
use Rattle.link_bundle_blocks.specs.Blocks.{Primary}
use Rattle.link_bundle_blocks.specs.EndpointId.{eid_at}
use Rattle.link_bundle_blocks.specs.Primary.{AcceptedPrimaryFields, ElementsOrStop, first_elements, after, without_fields, fragment_elements, primary_elements, fragment_at, primary_at}
use Rattle.link_bundle_blocks.specs.{PrimaryFields.whole_elements, Whole.whole_primary}
use Rattle.link_bundle_blocks.proofs.Steady.{IsCut, Reads, is_read, has_fault, is_cut, Lasting, reads-then, row_at-reads, eid_at-reads, field_at-reads, opening_at-reads, ended, lasting}

-- ---- without the fields before a stop

-- a part that comes after these fields
abbrev part_after : {A : Type 0} → AcceptedPrimaryFields → ReadAt A → ElementsOrStop A
part_after fields (Ok read) = Ok read
part_after fields (Err stop) = Err (fields, stop)

without-part : {A : Type 0} (fields : AcceptedPrimaryFields) (reading : ReadAt A)
    → without_fields (part_after fields reading) ≡ reading
without-part fields (Ok read) = refl
without-part fields (Err stop) = refl

without-after : {A : Type 0} (count : ℕ) (block : Primary) (reading : ReadAt A)
    → without_fields (after count block reading) ≡ reading
without-after count block = without-part (first_elements count block)

without-then : {A B : Type 0} (elements : ElementsOrStop A) (next : A × ℕ → ElementsOrStop B)
    → without_fields (elements >>= next)
    ≡ (without_fields elements >>= λ value. without_fields (next value))
without-then (Ok read) next = refl
without-then (Err stop) next = refl

pub elements_read : {A : Type 0} {read : A × ℕ} (elements : ElementsOrStop A)
    → without_fields elements ≡ Ok read → elements ≡ Ok read
elements_read {read = read} (Ok value) is = let same : value ≡ read = cc in ap Ok same
elements_read (Err stop) is = cc

-- the two numbers of a fragment
pub fragment_at-true : (bytes : List ℕ) (offset : ℕ) → fragment_at true bytes offset ≡ (do
  (first, offset) ← row_at unsigned bytes offset
  (total, offset) ← row_at unsigned bytes offset
  Ok (Some (first, total), offset))
unfolding fragment_at fragment_elements
fragment_at-true bytes offset = simp (without-then, without-after)

fragment_elements-at : (is : Bool) (block : Primary) (bytes : List ℕ) (offset : ℕ)
    → without_fields (fragment_elements is block bytes offset) ≡ fragment_at is bytes offset
unfolding fragment_at fragment_elements
fragment_elements-at false block bytes offset = refl
fragment_elements-at true block bytes offset = simp (without-then, without-after)

-- the fields of a fragment, in any block
pub fragment_read : (is : Bool) (block : Primary) (bytes : List ℕ) (offset : ℕ)
    (read : Option (ℕ × ℕ) × ℕ) → fragment_at is bytes offset ≡ Ok read
    → fragment_elements is block bytes offset ≡ Ok read
fragment_read is block bytes offset read at_is =
    elements_read (fragment_elements is block bytes offset)
    (fragment_elements-at is block bytes offset ∙ at_is)

pub whole_primary-elements : (bytes : List ℕ)
    → whole_primary bytes ≡ without_fields (whole_elements bytes)
unfolding whole_primary whole_elements primary_at
whole_primary-elements bytes = simp (without-then, without-after)

pub ruleset whole_block = (whole_primary-elements)

-- ---- elements of some bytes, and of those bytes with more after them

-- Elements that have at most `limit` bytes. If the bytes do not end inside them, more bytes change
-- neither the elements nor the fields before a stop.
pub record AreElements {A : Type 0} (limit : ℕ) (bytes : List ℕ) (offset : ℕ)
    (now later : ElementsOrStop A) : Type 0 where
  pub reads : Reads limit bytes offset (without_fields now) (without_fields later)
  pub same : IsCut bytes (without_fields now) ⊎ (later ≡ now)

elements-then : {A B : Type 0} {limit rest : ℕ} {bytes : List ℕ} {offset : ℕ}
    {now later : ElementsOrStop A} {next next_later : A × ℕ → ElementsOrStop B}
    → AreElements limit bytes offset now later
    → ((value : A × ℕ) → AreElements rest bytes value.1 (next value) (next_later value))
    → AreElements (limit + rest) bytes offset (now >>= next) (later >>= next_later)
elements-then {A = A} {B = B} {bytes = bytes} {now = now} {later = later} {next = next}
    {next_later = next_later} are each =
    record {
      reads = rw (without-then now next, without-then later next_later)
          (reads-then are.reads (λ value onward read. (each value).reads));
      same = same_then now are.same;
    }
  where
    same_then : (now : ElementsOrStop A) → IsCut bytes (without_fields now) ⊎ (later ≡ now)
        → IsCut bytes (without_fields (now >>= next)) ⊎ ((later >>= next_later) ≡ (now >>= next))
    same_then (Ok value) (inl cut) = absurd cut
    same_then (Ok value) (inr is) = rw is (each value).same
    same_then (Err stop) (inl cut) = inl cut
    same_then (Err stop) (inr is) = inr (rw is refl)

after_are : {A : Type 0} {limit : ℕ} {bytes : List ℕ} {offset : ℕ} (fields : AcceptedPrimaryFields)
    {now later : ReadAt A} → Reads limit bytes offset now later
    → AreElements limit bytes offset (part_after fields now) (part_after fields later)
after_are fields (is_read onward below within) =
    record { reads = is_read onward below within; same = inr refl }
after_are fields (has_fault fault here stays) =
    record { reads = has_fault fault here stays; same = inr refl }
after_are fields {later = later} (is_cut short goes) =
    record { reads = rw (without-part fields later) (is_cut short goes); same = inl refl }

all_read : {A : Type 0} {bytes : List ℕ} (value : A) (offset : ℕ)
    → AreElements 0 bytes offset (Ok (value, offset)) (Ok (value, offset))
all_read value offset = record { reads = ended value offset; same = inr refl }

module _ (bytes more : List ℕ) where
  row_then : {A B : Type 0} (row : Head → Result A BundleFault) {rest offset : ℕ}
      (fields : AcceptedPrimaryFields) {next next_later : A × ℕ → ElementsOrStop B}
      → Lasting row
      → ((value : A × ℕ) → AreElements rest bytes value.1 (next value) (next_later value))
      → AreElements (9 + rest) bytes offset (part_after fields (row_at row bytes offset) >>= next)
      (part_after fields (row_at row (bytes ++ more) offset) >>= next_later)
  row_then row {offset = offset} fields lasting each =
      elements-then (after_are fields (row_at-reads bytes more row offset lasting)) each

  eid_then : {B : Type 0} {rest offset : ℕ} (fields : AcceptedPrimaryFields)
      {next next_later : Eid × ℕ → ElementsOrStop B}
      → ((value : Eid × ℕ) → AreElements rest bytes value.1 (next value) (next_later value))
      → AreElements (1051 + rest) bytes offset (part_after fields (eid_at bytes offset) >>= next)
      (part_after fields (eid_at (bytes ++ more) offset) >>= next_later)
  eid_then {offset = offset} fields each =
      elements-then (after_are fields (eid_at-reads bytes more offset)) each

  fragment_are : (is : Bool) (block : Primary) (offset : ℕ)
      → AreElements 18 bytes offset (fragment_elements is block bytes offset)
      (fragment_elements is block (bytes ++ more) offset)
  unfolding fragment_elements
  fragment_are false block offset = record {
    reads = is_read (omega arith) (λ at. omega arith) (λ at. at);
    same = inr refl;
  }
  fragment_are true block offset =
      row_then unsigned _ lasting.of_unsigned
      (λ (_, offset). row_then unsigned _ lasting.of_unsigned (λ (_, offset). all_read _ offset))

  primary_are : (offset : ℕ)
      → AreElements 3243 bytes offset (primary_elements bytes offset)
      (primary_elements (bytes ++ more) offset)
  unfolding primary_elements
  primary_are offset =
      row_then primary_block _ lasting.of_primary_block
      (λ (count, offset). row_then version _ lasting.of_version
      (λ (_, offset). row_then unsigned _ lasting.of_unsigned
      (λ (flags, offset). row_then (primary_check_type count flags) _
      (lasting.of_primary_check_type count flags)
      (λ (check, offset). eid_then _
      (λ (destination, offset). eid_then _
      (λ (source, offset). eid_then _
      (λ (report_to, offset). row_then pair _ lasting.of_pair
      (λ (_, offset). row_then unsigned _ lasting.of_unsigned
      (λ (time, offset). row_then unsigned _ lasting.of_unsigned
      (λ (sequence, offset). row_then unsigned _ lasting.of_unsigned
      (λ (lifetime, offset). elements-then (fragment_are (is_fragment flags) _ offset)
      (λ (fragment, offset). all_read _ offset))))))))))))

  pub whole_are : AreElements 3257 bytes 0 (whole_elements bytes) (whole_elements (bytes ++ more))
  unfolding whole_elements
  whole_are =
      elements-then (after_are _ (opening_at-reads bytes more))
      (λ (_, start). elements-then (primary_are start)
      (λ ((block, check), offset).
      elements-then (after_are _ (field_at-reads bytes more check start offset))
      (λ (_, next). all_read _ next)))

  -- the first byte of a bundle and its primary block
  pub whole_primary-reads : Reads 3257 bytes 0 (whole_primary bytes) (whole_primary (bytes ++ more))
  whole_primary-reads =
      rw (whole_primary-elements bytes, whole_primary-elements (bytes ++ more)) (whole_are).reads
