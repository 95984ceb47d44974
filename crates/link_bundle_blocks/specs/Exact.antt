-- Relations: what the exact readers return.

use Rattle.std.specs.Prelude.{ℕ, Bool, true, Option, Result, Ok, Err}
use Rattle.link_cbor.specs.declared.check.CheckKind.{CheckKind}
use Rattle.link_bundle_blocks.specs.declared.block.PrimaryBlock.{PrimaryBlock}
use Rattle.link_bundle_blocks.specs.declared.exact.PartFault.{PartFault}
use Rattle.link_bundle_blocks.specs.declared.primary_view.PrimaryView.{PrimaryView}
use Rattle.link_bundle_blocks.specs.Blocks.{Primary, viewed_primary}
use Rattle.link_bundle_blocks.specs.Reading.{ReadAt, stopped}
use Rattle.link_bundle_blocks.specs.Primary.{AcceptedPrimaryFields, all_fields, ElementsOrStop}
use Rattle.link_bundle_blocks.specs.PrimaryView.{viewed_fields}

-- the result of an exact reader as the definitions have it: `view` maps the value of the part
abbrev pub reading_by : {A B : Type 0} → (A → B) → Result (A × ℕ) PartFault → ReadAt B
reading_by view (Ok (value, next)) = Ok (view value, next)
reading_by view (Err stop) = Err (stopped stop.fault stop.offset)

-- the result of an exact reader as the definitions have it, if both return the same value
abbrev pub reading_of : {A : Type 0} → Result (A × ℕ) PartFault → ReadAt A
reading_of (Ok read) = Ok read
reading_of (Err stop) = Err (stopped stop.fault stop.offset)

-- The result of an exact reader as the definitions have it. The reader returns only the offset
-- after its part. The definitions also return a value, which is always `true`.
abbrev pub passed_of : Result ℕ PartFault → ReadAt Bool
passed_of (Ok next) = Ok (true, next)
passed_of (Err stop) = Err (stopped stop.fault stop.offset)

-- ---- the primary block, with the fields before its first fault

-- the primary block that was read, its check type and the offset after it, or the stop
abbrev pub primary_reading : Result PrimaryBlock (PrimaryView × PartFault)
    → ReadAt (Primary × Option CheckKind)
primary_reading (Ok block) = Ok ((viewed_primary block, block.check), block.end)
primary_reading (Err (view, stop)) = Err (stopped stop.fault stop.offset)

-- the fields that were read, also if the block has a fault
abbrev pub known_fields : Result PrimaryBlock (PrimaryView × PartFault) → AcceptedPrimaryFields
known_fields (Ok block) = all_fields (viewed_primary block)
known_fields (Err (view, stop)) = viewed_fields view

-- the result of a reader of elements: `view` maps their value, and a stop has the fields before it
abbrev pub elements_by : {A B : Type 0} → (A → B) → Result (A × ℕ) (PrimaryView × PartFault)
    → ElementsOrStop B
elements_by view (Ok (value, next)) = Ok (view value, next)
elements_by view (Err (fields, stop)) =
    Err (viewed_fields fields, stopped stop.fault stop.offset)
