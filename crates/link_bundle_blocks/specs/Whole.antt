-- Relations: a bundle that is read at once. The promises need none of these definitions.

use Rattle.std.specs.Prelude.{ℕ, ◌+◌, List, Option, Ok}
use Rattle.link_cbor.specs.declared.check.CheckKind.{CheckKind}
use Rattle.link_bundle_heads.specs.Rows.{◌>>=◌}
use Rattle.link_bundle_blocks.specs.declared.block.CanonicalBlock.{CanonicalBlock}
use Rattle.link_bundle_blocks.specs.Reading.{ReadAt}
use Rattle.link_bundle_blocks.specs.CheckField.{field_at}
use Rattle.link_bundle_blocks.specs.Primary.{primary_at}
use Rattle.link_bundle_blocks.specs.Canonical.{heads_at, content_at}
use Rattle.link_bundle_blocks.specs.Blocks.{Primary, Block}
use Rattle.link_bundle_blocks.specs.Bundle.{Bundle, info_of, opening_at}

-- the first byte of a bundle and its primary block, with the check field of the block
unfoldable pub whole_primary : List ℕ → ReadAt (Primary × Option CheckKind)
whole_primary bytes = do
  (_, start) ← opening_at bytes
  ((primary, check), offset) ← primary_at bytes start
  (_, next) ← field_at check start bytes offset
  Ok ((primary, check), next)

-- a canonical block with its data and its check field
unfoldable pub whole_canonical : List ℕ → List ℕ → ℕ → ReadAt CanonicalBlock
whole_canonical numbers bytes start = do
  (block, _) ← heads_at numbers bytes start
  (_, next) ← content_at block.data_length block.check block.start bytes block.data_start
  Ok (block, next)

-- A block whose `start` and `data_start` are counted from `count` bytes earlier. Its `end` stays as
-- it is.
abbrev pub moved : ℕ → CanonicalBlock → CanonicalBlock
moved count block =
    record block { start = count + block.start; data_start = count + block.data_start }

-- A bundle of `count` canonical blocks that ends before `end`. `span` is the offset and the length
-- of its payload.
abbrev pub bundle_with : Primary → ℕ → ℕ × ℕ → ℕ → List Block → Bundle
bundle_with primary count span end blocks =
    record {
      info = info_of primary count span.1;
      length = end;
      payload_span = span;
      blocks = blocks;
    }
