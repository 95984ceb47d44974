-- How a verdict lasts, and how the blocks divide a good bundle, over the definitions alone.

use Rattle.std.specs.Prelude.{◌≡◌, ℕ, ◌+◌, ◌≤◌, ◌⊎◌, ◌≢◌, false, List, [], ◌∷◌, ◌++◌, map, length, take, drop, Option, Some, Ok, Err, IsTrue}
use Rattle.std.specs.List.{All}
use Rattle.link_bundle_types.specs.declared.fault.BundleFault.{BundleFault}
use Rattle.link_bundle_types.specs.declared.fault.BundleFault.TheVariants.{Trailing}
use Rattle.link_bundle_types.specs.declared.info.BundleInfo.{BundleInfo}
use Rattle.link_bundle_types.specs.Faults.{lasts}
use Rattle.link_bundle_blocks.specs.declared.block.CanonicalBlock.{CanonicalBlock}
use Rattle.link_cbor.specs.declared.check.CheckKind.{CheckKind}
use Rattle.link_bundle_blocks.specs.Blocks.{Primary, Block, PrimaryOf, CanonicalOf, next_of, LiesWithin}
use Rattle.link_bundle_blocks.specs.Bundle.{judged_bundle, verdict, info_of, payload_of, payload_in, bundle_goes, blocks_in, cut_block_in}

-- a fault stays the same, unless it is that the bytes end inside the bundle
abbrev pub FaultLasts : Type 0
FaultLasts =
    (bytes more : List ℕ) (fault : BundleFault) (offset : ℕ) → IsTrue (lasts fault) →
    verdict bytes ≡ Err (fault, offset) → verdict (bytes ++ more) ≡ Err (fault, offset)

-- if a byte follows a whole bundle, the verdict is the fault of trailing bytes, at the bundle's
-- length
abbrev pub ByteAfterBundleIsTrailing : Type 0
ByteAfterBundleIsTrailing =
    (bytes more : List ℕ) (byte : ℕ) (info : BundleInfo) →
    verdict bytes ≡ Ok info → verdict (bytes ++ byte ∷ more) ≡ Err (Trailing, length bytes)

-- the offset of the payload and its length by its head stay the same once they are known
abbrev pub PayloadLasts : Type 0
PayloadLasts =
    (bytes more : List ℕ) (payload : ℕ × ℕ) →
    payload_of (judged_bundle bytes) ≡ Some payload → payload_of (judged_bundle (bytes ++ more))
    ≡ Some payload

-- If `bytes` and `more` together show the offset and the length of the payload, these two determine
-- which bytes of the payload are in `bytes`. `bytes` alone may be too short to show them.
abbrev pub SpanDeterminesPayload : Type 0
SpanDeterminesPayload =
    (bytes more : List ℕ) (offset size : ℕ) →
    payload_of (judged_bundle (bytes ++ more)) ≡ Some (offset, size)
    → payload_in bytes ≡ take size (drop offset bytes)

-- after the bundle's end, or after a fault that lasts, the payload gets no more bytes
abbrev pub PayloadStaysAfterBundleEnd : Type 0
PayloadStaysAfterBundleEnd =
    (bytes more : List ℕ) →
    bundle_goes bytes ≡ false → payload_in (bytes ++ more) ≡ payload_in bytes

-- more bytes leave the whole blocks as they are, and may add some
abbrev pub BlocksGrow : Type 0
BlocksGrow =
    (bytes more : List ℕ) → (new : List Block) × (blocks_in (bytes ++ more) ≡ blocks_in bytes ++ new)

-- after the bundle's end, or after a fault that lasts, more bytes add no blocks
abbrev pub NoBlocksAfterBundleEnd : Type 0
NoBlocksAfterBundleEnd =
    (bytes more : List ℕ) → bundle_goes bytes ≡ false → blocks_in (bytes ++ more) ≡ blocks_in bytes

-- the whole blocks lie within the bytes
abbrev pub BlocksWithin : Type 0
BlocksWithin = (bytes : List ℕ) → All (LiesWithin (length bytes)) (blocks_in bytes)

-- `block` is the first block that `more` makes whole, if it is canonical. If `more` makes none
-- whole, `block` is the one in whose data or check field all bytes end. `bytes` ends in the data or
-- check field of `block`, or this data begins after `bytes`.
abbrev pub NextBlockIsCutOrLater : Type 0
NextBlockIsCutOrLater =
    (bytes more : List ℕ) (new : List Block) (block : CanonicalBlock) →
    blocks_in (bytes ++ more) ≡ blocks_in bytes ++ new →
    next_of new (cut_block_in (bytes ++ more)) ≡ Some block →
    (cut_block_in bytes ≡ Some block) ⊎ (length bytes ≤ block.data_start)

-- ---- the blocks of a good bundle

-- A whole block has the bytes from one offset to another, and its data lies among them. The primary
-- block begins at offset 1, after the byte that opens the bundle.
abbrev pub IsBlockBetween : Block → (from to : ℕ) → Type 0
IsBlockBetween (PrimaryOf primary check end) from to = (from ≡ 1) × (from ≤ to) × (end ≡ to)
IsBlockBetween (CanonicalOf block) from to =
    (block.start ≡ from) × (from ≤ block.data_start)
    × (block.data_start + block.data_length ≤ to) × (block.end ≡ Some to)

-- whole blocks from one offset to another: each begins where the one before it ends
abbrev pub AreBlocksBetween : (from : ℕ) → List Block → (to : ℕ) → Type 0
AreBlocksBetween from [] to = from ≡ to
AreBlocksBetween from (block ∷ rest) to = (end : ℕ) × (IsBlockBetween block from end)
    × (AreBlocksBetween end rest to)

-- A good bundle consists of the byte that opens it, its primary block, its canonical blocks, and
-- the break, which ends it. Only the last canonical block is a payload block (type 1). `info`
-- contains the fields of the primary block, the number of canonical blocks, and the length of the
-- payload.
pub record IsTiledWithPayloadLast (bytes : List ℕ) (info : BundleInfo) : Type 0 where
  pub primary : Primary
  pub check : Option CheckKind
  pub end : ℕ
  pub others : List CanonicalBlock
  pub payload : CanonicalBlock
  pub blocks : blocks_in bytes
      ≡ PrimaryOf primary check end ∷ map CanonicalOf (others ++ payload ∷ [])
  pub fields : info ≡ info_of primary (length (others ++ payload ∷ [])) payload.data_length
  pub payload_type : payload.block_type ≡ 1
  pub other_types : All (λ block. block.block_type ≢ 1) others
  -- the offset of the last byte, the break
  pub last : ℕ
  pub tiles : AreBlocksBetween 1 (blocks_in bytes) last
  pub size : length bytes ≡ last + 1

-- the blocks of a good bundle divide it, as `IsTiledWithPayloadLast` says
abbrev pub GoodBlocksTile : Type 0
GoodBlocksTile = (bytes : List ℕ) (info : BundleInfo) → verdict bytes ≡ Ok info
    → IsTiledWithPayloadLast bytes info
