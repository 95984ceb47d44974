-- Check fields (RFC 9171 sections 4.2.2, 4.3.1 and 4.3.2).

use Rattle.std.specs.Prelude.{ℕ, ◌+◌, ◌*◌, ◌==◌, Bool, true, List, ◌++◌, Option, Some, None, Ok, Err, fold, replicate, slice_range, if◌then◌else◌}
use Rattle.link_cbor.specs.declared.check.CheckKind.{CheckKind}
use Rattle.link_cbor.specs.Crc.{crc}
use Rattle.link_bundle_types.specs.declared.fault.BundleFault.TheVariants.{CheckDiffers}
use Rattle.link_bundle_heads.specs.Rows.{◌>>=◌, check_width, check_field}
use Rattle.link_bundle_blocks.specs.Reading.{ReadAt, stopped, row_at, bytes_at}

-- The number that these bytes spell after earlier bytes, which spell `high`. The most significant
-- byte comes first.
abbrev pub number_from : ℕ → List ℕ → ℕ
number_from high bytes = fold (λ number byte. number * 256 + byte) high bytes

-- The check value of a block that begins at `start`. The content of its check field begins at
-- `content` and counts as zeros.
unfoldable pub check_of : CheckKind → ℕ → ℕ → List ℕ → ℕ
check_of kind start content bytes =
    crc kind (slice_range bytes start content ++ replicate (check_width kind) 0)

-- The check field at an offset, in a block that begins at `start` (section 4.2.2). A block without
-- a check has none. Only the offset after the field is of use: the value is always `true`, since a
-- wrong check is a fault.
unfoldable pub field_at : Option CheckKind → ℕ → List ℕ → ℕ → ReadAt Bool
field_at None start bytes offset = Ok (true, offset)
field_at (Some kind) start bytes offset = do
  (_, content) ← row_at (check_field kind) bytes offset
  (stored, next) ← bytes_at (check_width kind) bytes content
  if number_from 0 stored == check_of kind start content bytes then Ok (true, next)
      else Err (stopped CheckDiffers offset)
