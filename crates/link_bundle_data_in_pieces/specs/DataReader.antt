-- Relations: what a reader of block data has read.
use Rattle.std.specs.{Prelude.{◌≡◌, ℕ, true, List, Option, Some, None}, List.fold}
use Rattle.link_bundle_blocks.specs.Bundle.{blocks_in, cut_block_in, bundle_goes}
use Rattle.link_bundle_blocks.specs.declared.block.CanonicalBlock.{CanonicalBlock}
use Rattle.link_bundle_data.specs.Scan.{HasScanned, scan_size}
use Rattle.link_bundle_data.specs.declared.{kind.DataKind.DataKind, scan.DataScan.DataScan}
use Rattle.link_report_blocks.specs.Kinds.{kind_of}
use Rattle.link_bundle_data_in_pieces.specs.Found.{data_in, flags_after}
use Rattle.link_bundle_data_in_pieces.specs.declared.data.DataReader.{DataReader}

-- the number of bytes read of a block's data, or 0 if data of its type is not read
abbrev pub size_by : Option DataKind → DataScan → ℕ
size_by None scan = 0
size_by (Some kind) scan = scan_size scan

-- the number of bytes that the reader has read of the latest block's data
abbrev pub read_size : DataReader → ℕ
read_size now = size_by now.kind now.scan

-- `seen` is the bytes of the bundle so far. If data of this block's type is read, the reader has
-- read exactly the bytes of the data that are in `seen`.
pub record IsDataReaderIn (now : DataReader) (seen : List ℕ) (block : CanonicalBlock) : Type 0 where
  pub kind : now.kind ≡ kind_of now.flags block.block_type
  pub scanned : (kind : DataKind) → now.kind ≡ Some kind
      → HasScanned kind now.scan (data_in seen block)

-- The reader keeps the flags of the bundle, or 0 if the primary block is not whole. If the bytes
-- end inside the bundle, in the data or the check field of a block, the reader has read this data
-- so far, if data of the block's type is read.
pub record IsDataReaderAt (now : DataReader) (seen : List ℕ) : Type 0 where
  pub flags : now.flags ≡ fold flags_after 0 (blocks_in seen)
  pub at_cut : bundle_goes seen ≡ true → (block : CanonicalBlock)
      → cut_block_in seen ≡ Some block → IsDataReaderIn now seen block
