-- Canonical blocks (RFC 9171 section 4.3.2).

use Rattle.std.specs.Prelude.{ℕ, Bool, List, Option, None, Ok}
use Rattle.link_cbor.specs.declared.check.CheckKind.{CheckKind}
use Rattle.link_bundle_heads.specs.Rows.{◌>>=◌, unsigned, block_data, block, block_number, block_check_type}
use Rattle.link_bundle_blocks.specs.declared.block.CanonicalBlock.{CanonicalBlock}
use Rattle.link_bundle_blocks.specs.Reading.{ReadAt, row_at, bytes_at}
use Rattle.link_bundle_blocks.specs.CheckField.{field_at}

-- A canonical block up to its data. `numbers` are the numbers of the blocks before. The array of a
-- block has its type code, block number (section 4.1), block processing control flags (section
-- 4.2.4) and check type (section 4.2.1). Its data and its check field follow.
unfoldable pub heads_at : List ℕ → List ℕ → ℕ → ReadAt CanonicalBlock
heads_at numbers bytes start = do
  (count, offset) ← row_at block bytes start
  (type, offset) ← row_at unsigned bytes offset
  (number, offset) ← row_at (block_number type numbers) bytes offset
  (flags, offset) ← row_at unsigned bytes offset
  (check, offset) ← row_at (block_check_type count) bytes offset
  (size, offset) ← row_at block_data bytes offset
  Ok (
    record {
      start = start;
      block_type = type;
      number = number;
      flags = flags;
      check = check;
      data_start = offset;
      data_length = size;
      end = None;
    },
    offset,
  )

-- The data of a canonical block, `size` bytes from `offset` on, and its check field. The block
-- begins at `start`. Only the offset after the two is of use: the value is always `true`.
unfoldable pub content_at : ℕ → Option CheckKind → ℕ → List ℕ → ℕ → ReadAt Bool
content_at size check start bytes offset = do
  (_, offset) ← bytes_at size bytes offset
  field_at check start bytes offset
