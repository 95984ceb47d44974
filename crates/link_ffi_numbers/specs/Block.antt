-- A block of a bundle as numbers.
use Rattle.std.specs.Prelude.{ℕ, ◌-◌, min, List, [], ◌∷◌, Option, None, Some, unwrap_or}
use Rattle.link_cbor.specs.declared.check.CheckKind.{CheckKind}
use Rattle.link_cbor.specs.declared.check.CheckKind.TheVariants.{Crc16, Crc32}
use Rattle.link_bundle_blocks.specs.Blocks.{Block, PrimaryOf, CanonicalOf}
use Rattle.link_bundle_blocks.specs.declared.block.CanonicalBlock.{CanonicalBlock}
use Rattle.link_ffi_numbers.specs.declared.block.BlockNumbers.{BlockNumbers}

-- the code of a block's check type (RFC 9171 section 4.2.1), which is 0 for no check
abbrev pub check_type : Option CheckKind → ℕ
check_type None = 0
check_type (Some Crc16) = 1
check_type (Some Crc32) = 2

-- the numbers in place of a block, if there is none: all are 0
abbrev pub no_block : BlockNumbers
no_block =
    record {
      kind = 0;
      offset = 0;
      length = 0;
      block_type = 0;
      number = 0;
      flags = 0;
      check = 0;
      data_offset = 0;
      data_length = 0;
      data_seen = 0;
    }

-- A canonical block as numbers. `seen` is how many bytes of its data have come. `length` is 0 if
-- the block is not whole.
abbrev pub canonical_shown : CanonicalBlock → (seen : ℕ) → BlockNumbers
canonical_shown block seen =
    record {
      kind = 2;
      offset = block.start;
      length = unwrap_or block.end block.start - block.start;
      block_type = block.block_type;
      number = block.number;
      flags = block.flags;
      check = check_type block.check;
      data_offset = block.data_start;
      data_length = block.data_length;
      data_seen = seen;
    }

-- a whole block as numbers; the primary block begins at offset 1, after the byte that opens the
-- bundle
abbrev pub block_shown : Block → BlockNumbers
block_shown (PrimaryOf primary check end) =
    record no_block {
      kind = 1;
      offset = 1;
      length = end - 1;
      flags = primary.flags;
      check = check_type check;
    }
block_shown (CanonicalOf block) = canonical_shown block block.data_length

-- The numbers of the block in whose data or check field the first `count` bytes of a bundle end, or
-- of no block. `data_seen` is how many of these bytes are data of the block.
abbrev pub cut_shown : (count : ℕ) → Option CanonicalBlock → BlockNumbers
cut_shown count None = no_block
cut_shown count (Some block) =
    canonical_shown block (min block.data_length (count - block.data_start))

-- the numbers of the first of these blocks, or of no block
abbrev pub first_shown : List Block → BlockNumbers
first_shown [] = no_block
first_shown (block ∷ rest) = block_shown block
