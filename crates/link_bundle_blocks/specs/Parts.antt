-- Relations: the parts of a bundle that a scan holds. The promises need none of these definitions.

use Rattle.std.specs.Prelude.{ℕ, ◌==◌, nat_le, Bool, true, List, ◌++◌, length, take, Ok, Err, replicate, if◌then◌else◌}
use Rattle.link_cbor.specs.declared.check.CheckKind.{CheckKind}
use Rattle.link_cbor.specs.Crc.{crc}
use Rattle.link_bundle_types.specs.declared.fault.BundleFault.TheVariants.{CheckDiffers}
use Rattle.link_bundle_heads.specs.Rows.{◌>>=◌, block_too_many, check_width, check_field}
use Rattle.link_bundle_blocks.specs.declared.block.CanonicalBlock.{CanonicalBlock}
use Rattle.link_bundle_blocks.specs.Reading.{ReadAt, stopped, cut_short, row_at, bytes_at}
use Rattle.link_bundle_blocks.specs.CheckField.{number_from}
use Rattle.link_bundle_blocks.specs.Canonical.{heads_at}

-- The heads of the next canonical block. `numbers` are the numbers of the blocks before. After 64
-- blocks the result is always a fault, so `cut_short bytes` is only there for its type.
unfoldable pub next_block_at : List ℕ → List ℕ → ℕ → ReadAt CanonicalBlock
next_block_at numbers bytes start =
    if nat_le 64 (length numbers) then (do
      (_, offset) ← row_at block_too_many bytes start
      cut_short bytes)
    else heads_at numbers bytes start

-- The check field at the start of `bytes`. `before` are the bytes of its block before the field.
-- The value is always `true`.
unfoldable pub field_from : CheckKind → List ℕ → List ℕ → ReadAt Bool
field_from kind before bytes = do
  (_, content) ← row_at (check_field kind) bytes 0
  (stored, next) ← bytes_at (check_width kind) bytes content
  if number_from 0 stored
      == crc kind (before ++ take content bytes ++ replicate (check_width kind) 0)
      then Ok (true, next) else Err (stopped CheckDiffers 0)

-- The check field at the start of `bytes`, whatever check value it has.
unfoldable pub any_field : CheckKind → List ℕ → ReadAt Bool
any_field kind bytes = do
  (_, content) ← row_at (check_field kind) bytes 0
  (_, next) ← bytes_at (check_width kind) bytes content
  Ok (true, next)
