-- The fields of the primary block of a bundle, also if the block has a fault.

use Rattle.std.specs.Prelude.{List, ℕ, Option, Ok, Err}
use Rattle.link_cbor.specs.declared.check.CheckKind.{CheckKind}
use Rattle.link_bundle_heads.specs.Rows.{◌>>=◌}
use Rattle.link_bundle_blocks.specs.Blocks.{Primary}
use Rattle.link_bundle_blocks.specs.CheckField.{field_at}
use Rattle.link_bundle_blocks.specs.Primary.{AcceptedPrimaryFields, ElementsOrStop, element_count, all_fields, no_primary, after, primary_elements}
use Rattle.link_bundle_blocks.specs.Bundle.{opening_at}

-- the first byte of a bundle and its primary block, with the check field of the block
unfoldable pub whole_elements : List ℕ → ElementsOrStop (Primary × Option CheckKind)
whole_elements bytes = do
  (_, start) ← after 0 no_primary (opening_at bytes)
  ((block, check), offset) ← primary_elements bytes start
  (_, end) ← after (element_count block.fragment) block (field_at check start bytes offset)
  Ok ((block, check), end)

-- all fields of the block, or those before its first fault
abbrev pub fields_of : ElementsOrStop (Primary × Option CheckKind) → AcceptedPrimaryFields
fields_of (Ok ((block, check), end)) = all_fields block
fields_of (Err (fields, stop)) = fields

-- the fields of the primary block of the bundle that the bytes begin with
unfoldable pub primary_fields : List ℕ → AcceptedPrimaryFields
primary_fields bytes = fields_of (whole_elements bytes)
