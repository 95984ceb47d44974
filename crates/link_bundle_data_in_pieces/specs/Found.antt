-- What the data of the blocks of a bundle says.
use Rattle.std.specs.Prelude.{ℕ, List, take, drop, Option, option_map, Result}
use Rattle.std.specs.Option.{option_and_then}
use Rattle.link_bundle_blocks.specs.Blocks.{Block, PrimaryOf, CanonicalOf}
use Rattle.link_bundle_blocks.specs.declared.block.CanonicalBlock.{CanonicalBlock}
use Rattle.link_bundle_data.specs.BlockData.{BlockData, data_of}
use Rattle.link_bundle_data.specs.LongHeads.{long_head}
use Rattle.link_bundle_data.specs.declared.values.DataFault.{DataFault}
use Rattle.link_report_blocks.specs.Kinds.{kind_of}

-- the bytes of a block's data that are in `content`, the bytes of its bundle so far
abbrev pub data_in : (content : List ℕ) → CanonicalBlock → List ℕ
data_in content block = take block.data_length (drop block.data_start content)

-- What the data of a block says, or its fault. It is `None` for a block whose data is not read.
-- `content` is the bytes of the bundle so far, and `flags` are the flags of the bundle.
abbrev pub found_in : (flags : ℕ) → (content : List ℕ) → CanonicalBlock
    → Option (Result BlockData DataFault)
found_in flags content block =
    option_map (λ kind. data_of kind (data_in content block)) (kind_of flags block.block_type)

-- The offset, in a block's data, of the first head that is longer than its number needs.
-- `long_head` says which heads are judged. The result is `None` if none of them is so long, or data
-- of this block's type is not read. `content` is the bytes of the bundle so far.
abbrev pub long_head_in : (flags : ℕ) → (content : List ℕ) → CanonicalBlock → Option ℕ
long_head_in flags content block =
    option_and_then (λ kind. long_head kind (data_in content block))
    (kind_of flags block.block_type)

-- the flags of the bundle after a block, if they were `flags` before it; only the primary block
-- sets them
abbrev pub flags_after : ℕ → Block → ℕ
flags_after flags (PrimaryOf primary check end) = primary.flags
flags_after flags (CanonicalOf block) = flags
