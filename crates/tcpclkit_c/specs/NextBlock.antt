-- A scan that takes a bundle block by block.
use Rattle.std.specs.Prelude.{◌≡◌, ℕ, ◌≤◌, ◌&&◌, ◌==◌, nat_lt, Bool, List, [], ◌++◌, length, drop, if◌then◌else◌}
use Rattle.link_cbor.specs.Pieces.{taken}
use Rattle.link_bundle_blocks.specs.Blocks.{Block}
use Rattle.link_bundle_blocks.specs.Bundle.{bundle_goes, blocks_in}
use Rattle.link_bundle.specs.Scan.{HasScanned, ending}
use Rattle.link_bundle.specs.declared.scan.BundleScan.{BundleScan}
use Rattle.link_ffi_numbers.specs.Block.{no_block, first_shown}
use Rattle.link_ffi_numbers.specs.Status.{status_range}
use Rattle.link_ffi_numbers.specs.declared.block.BlockNumbers.{BlockNumbers}
use Rattle.tcpclkit_c.specs.Scan.{IsMarkedScanAt, mark, has_room, status_after}
use Rattle.tcpclkit_c.specs.declared.scan.MarkedScan.{MarkedScan}

-- Whether a scan still needs bytes after `bytes`, and no block ends in the part of `bytes` that is
-- after `seen`. `bytes` begin with `seen`.
abbrev pub goes_in_block : (seen bytes : List ℕ) → Bool
goes_in_block seen bytes =
    bundle_goes bytes && (length (blocks_in bytes) == length (blocks_in seen))

-- The bytes of the next piece that a scan takes, up to the end of the next block or of the bundle,
-- or up to the first fault. Without room for the whole piece, it takes none.
abbrev pub fed_block : (seen piece : List ℕ) → List ℕ
fed_block seen piece = if has_room seen piece then taken (goes_in_block seen) seen piece else []

-- the blocks that end in the bytes `run`, which follow the bytes `seen`
abbrev pub added : (seen run : List ℕ) → List Block
added seen run = drop (length (blocks_in seen)) (blocks_in (seen ++ run))

-- The block that ends with the last of the taken bytes (`fed_block`). If no byte is taken, or no
-- block ends there, it is `no_block`.
abbrev pub added_block : (seen piece : List ℕ) → BlockNumbers
added_block seen piece = first_shown (added seen (fed_block seen piece))

-- the status after a scan took the bytes `fed_block` of the next piece
abbrev pub fed_block_status : (seen piece : List ℕ) → ℕ
fed_block_status seen piece = status_after seen piece (fed_block seen piece)

-- A scan that had seen `seen` took the bytes `fed_block` of the next piece. `taken` is their
-- number, `block` is the block that ends with them, or no block, and `status` is the status after
-- them.
pub record FeedsToBlockEnd (seen piece : List ℕ) (scan : MarkedScan) (taken : ℕ)
    (block : BlockNumbers) (status : ℕ) : Type 0 where
  pub scanned : IsMarkedScanAt scan (seen ++ fed_block seen piece)
  pub counts : taken ≡ length (fed_block seen piece)
  pub gives : block ≡ added_block seen piece
  pub answers : status ≡ fed_block_status seen piece

-- `FeedsToBlockEnd` for memory that may have no scan. Without the mark, no byte is taken, no block
-- is written, and the status is TCPCLKIT_RANGE.
pub record FeedsToBlockEndIfAnyScan (old : MarkedScan) (piece : List ℕ) (new : MarkedScan)
    (taken : ℕ) (block : BlockNumbers) (status : ℕ) : Type 0 where
  pub scan : (seen : List ℕ) → IsMarkedScanAt old seen
      → FeedsToBlockEnd seen piece new taken block status
  pub other : (old.mark ≡ mark → ⊥)
      → (status ≡ status_range) × (taken ≡ 0) × (new ≡ old) × (block ≡ no_block)

-- A scan that has room for the piece has taken `count` bytes of it, up to the end of a block. If
-- `count` is 0, no block is added. Else the block is added that ends with the last of these bytes,
-- if there is one.
pub record TakesToBlockEnd (old new : BundleScan) (piece : List ℕ) (count : ℕ) : Type 0 where
  pub within : count ≤ length piece
  pub seen : (seen : List ℕ) → HasScanned old seen
      → HasScanned new (seen ++ taken (goes_in_block seen) seen piece)
  pub counts : (seen : List ℕ) → HasScanned old seen
      → count ≡ length (taken (goes_in_block seen) seen piece)
  pub adds : (seen : List ℕ) → HasScanned old seen
      → added seen (taken (goes_in_block seen) seen piece)
      ≡ (if nat_lt 0 count then ending new else [])
