-- Relations, but for HasScanned, ending: the bytes that a scan of a bundle has seen. The promises
-- need only two facts: `new` has seen nothing, and a step adds its byte.

use Rattle.std.specs.Prelude.{◌≡◌, ℕ, ◌+◌, ◌-◌, ◌^◌, ◌<◌, ◌≤◌, ◌==◌, if◌then◌else◌, ◌⊎◌, Bool, true, false, List, [], ◌++◌, length, drop, take, Option, Some, None, Ok}
use Rattle.std.specs.Bool.{MatchBool}
use Rattle.link_cbor.specs.declared.check.{Check.Check, CheckKind.CheckKind}
use Rattle.link_cbor.specs.Head.{AreBytes}
use Rattle.link_cbor.specs.Pushed.{IsCheckAt}
use Rattle.link_bundle_heads.specs.Rows.{closing}
use Rattle.link_bundle_blocks.specs.declared.block.CanonicalBlock.{CanonicalBlock}
use Rattle.link_bundle_blocks.specs.Reading.{cut_short, row_at}
use Rattle.link_bundle_blocks.specs.Blocks.{Block}
use Rattle.link_bundle_blocks.specs.Bundle.{with_blocks, judged_bundle, bundle_goes, blocks_in}
use Rattle.link_bundle_blocks.specs.Parts.{next_block_at, field_from}
use Rattle.link_bundle_blocks.specs.Primary.{all_fields}
use Rattle.link_bundle_blocks.specs.PrimaryFields.{primary_fields}
use Rattle.link_bundle_blocks.specs.Whole.{whole_primary, moved}
use Rattle.link_bundle.specs.declared.{cursor.Cursor.Cursor, draft.Draft.Draft}
use Rattle.link_bundle.specs.declared.{scan.BundleScan.BundleScan, stage.ScanStage.ScanStage}
use Rattle.link_bundle.specs.declared.stage.ScanStage.TheVariants.{PrimaryBlock, BlockHeads, BlockData, CheckField, Break, Ended, Failed}
use Rattle.link_bundle.specs.Left.{primary_of, stage_last, stage_left, with_block}
use Rattle.link_bundle.specs.Stages.{stage_state, takes_bytes, stage_after, stage_in_data, IfAtCheckFieldCovered, part_reading}

-- The part of a stage begins after the bytes `front`. At the primary block there are none. A check
-- field comes after the data of its block, and `covered` are the bytes of the block before it.
abbrev pub HasPartAfter : ScanStage → Draft → (front covered : List ℕ) → Type 0
HasPartAfter PrimaryBlock draft front covered = front ≡ []
HasPartAfter (CheckField kind) draft front covered =
    (length front ≡ draft.block.data_start + draft.block.data_length)
    × (draft.block.start ≤ length front) × (covered ≡ drop draft.block.start front)
HasPartAfter _ draft front covered = Unit {0}

-- The scan holds all bytes seen of its part, and they end inside the part. `front` are the bytes
-- seen before the part. At a check field, `covered` are the bytes that were pushed to the check.
pub record IsHoldingPart (stage : ScanStage) (cursor : Cursor) (draft : Draft)
    (seen : List ℕ) : Type 0 where
  pub front : List ℕ
  pub covered : List ℕ
  pub parts : front ++ cursor.hold ≡ seen
  pub placed : HasPartAfter stage draft front covered
  pub covers : IfAtCheckFieldCovered stage cursor.check covered
  pub cut : part_reading stage draft.numbers covered cursor.hold ≡ cut_short cursor.hold

-- the check of a block, if it has one, covers these bytes
abbrev pub IfCheckCovers : Option CheckKind → Check → List ℕ → Type 0
IfCheckCovers None check covered = Unit {0}
IfCheckCovers (Some kind) check covered = IsCheckAt kind check covered

-- The seen bytes end in the data of a block, and `left` bytes of the data are left. The scan holds
-- no byte. The check, if the block has one, covers the bytes seen of the block.
pub record IsInData (left : ℕ) (cursor : Cursor) (block : CanonicalBlock)
    (seen : List ℕ) : Type 0 where
  pub nothing : cursor.hold ≡ []
  pub end : cursor.count + left ≡ block.data_start + block.data_length
  pub begun : block.start ≤ cursor.count
  pub checks : IfCheckCovers block.check cursor.check (drop block.start seen)

-- The state of the cursor and the draft at each stage. After a fault, nothing is said of them.
abbrev pub ScanStageFits : ScanStage → Cursor → Draft → List ℕ → Type 0
ScanStageFits (BlockData left) cursor draft seen = IsInData left cursor draft.block seen
ScanStageFits Ended cursor draft seen = cursor.hold ≡ []
ScanStageFits (Failed fault offset) cursor draft seen = Unit {0}
ScanStageFits stage cursor draft seen = IsHoldingPart stage cursor draft seen

-- If the primary block is whole, the draft contains its fields, whatever bytes follow. Otherwise
-- the scan holds all bytes seen.
abbrev pub HasDraftedOrHeldPrimary : Cursor → Draft → List ℕ → Type 0
HasDraftedOrHeldPrimary cursor draft seen = MatchBool draft.whole
    ((more : List ℕ) → primary_fields (seen ++ more) ≡ all_fields (primary_of draft))
    (cursor.hold ≡ seen)

-- the offset of the part that the scan is in
abbrev pub part_start : Cursor → ℕ
part_start cursor = cursor.count - length cursor.hold

-- The held bytes begin with the part of a stage, which has `size` bytes. The draft `new` keeps the
-- fields of the part. A check field and the break have none. `next` is the stage after the part. If
-- the part is the heads of a block with a check, `check` covers them.
abbrev pub PartLeadsTo : ScanStage → Draft → Cursor → ℕ → ScanStage → Draft → Check → Type 0
PartLeadsTo PrimaryBlock old cursor size next new check =
    (whole_primary cursor.hold ≡ Ok ((primary_of new, new.check), size)) × (next ≡ BlockHeads)
    × (new.payload_span ≡ old.payload_span) × (new.numbers ≡ old.numbers) × (new.whole ≡ true)
PartLeadsTo BlockHeads old cursor size next new check =
    (block : CanonicalBlock)
    × (next_block_at old.numbers cursor.hold 0 ≡ Ok (block, size))
    × (block.start ≡ 0) × (block.data_start ≡ size) × (block.end ≡ None)
    × (new ≡ with_block old (moved (part_start cursor) block))
    × (next ≡ stage_in_data block.data_length new.block.check new.payload_span)
    × IfCheckCovers block.check check (take size cursor.hold)
PartLeadsTo (CheckField kind) old cursor size next new check =
    ((covered : List ℕ) → IsCheckAt kind cursor.check covered
    → field_from kind covered cursor.hold ≡ Ok (true, size))
    × (new ≡ old) × (next ≡ stage_after old.payload_span)
PartLeadsTo Break old cursor size next new check =
    (row_at closing cursor.hold 0 ≡ Ok (true, size)) × (new ≡ old) × (next ≡ Ended)
PartLeadsTo _ old cursor size next new check = Unit {0}

-- These are the parts of a scan that has seen exactly these bytes. Whatever bytes follow, reading
-- all bytes gives first the blocks that ended, and then what `stage_left` reads from this stage on.
-- A block that ended just before the current part is in `stage_last`. The earlier blocks are in
-- `before`. `stands` says what is held and checked, and `primary` where the primary block is kept.
pub record HasScannedBy (stage : ScanStage) (cursor : Cursor) (draft : Draft) (before : List Block)
    (seen : List ℕ) : Type 0 where
  pub all_bytes : AreBytes seen
  pub count : cursor.count ≡ length seen
  pub reads : (more : List ℕ)
      → judged_bundle (seen ++ more)
      ≡ with_blocks (before ++ stage_last stage draft (part_start cursor))
      (stage_left stage draft (part_start cursor) (seen ++ more))
  pub stands : ScanStageFits stage cursor draft seen
  pub primary : HasDraftedOrHeldPrimary cursor draft seen

-- the block whose last byte is the last byte seen, as a list, or `[]`
abbrev pub ending_at : ScanStage → Draft → Cursor → List Block
ending_at stage draft cursor =
    if length cursor.hold == 0 then stage_last stage draft cursor.count else []

-- the block whose last byte is the last byte that the scan has seen, as a list, or `[]`
abbrev pub ending : BundleScan → List Block
ending scan = ending_at scan.stage scan.draft scan.cursor

-- the scan has seen exactly these bytes
pub record HasScanned (scan : BundleScan) (seen : List ℕ) : Type 0 where
  -- the blocks that ended, without the one in `stage_last`
  pub before : List Block
  pub come : HasScannedBy scan.stage scan.cursor scan.draft before seen

-- the number of bytes seen
abbrev pub scan_size : BundleScan → ℕ
scan_size scan = scan.cursor.count

-- whether one more byte may be fed
abbrev pub may_scan : BundleScan → Bool
may_scan scan = takes_bytes (stage_state scan.stage)

-- The scan has taken exactly these bytes. A block may have ended with the last of them, and none
-- with the bytes before.
pub record TakesRun (old new : BundleScan) (run : List ℕ) : Type 0 where
  pub size : scan_size new ≡ scan_size old + length run
  pub seen : (seen : List ℕ) → HasScanned old seen → HasScanned new (seen ++ run)
  pub blocks : (seen : List ℕ) → HasScanned old seen
      → blocks_in (seen ++ run) ≡ blocks_in seen ++ ending new

-- The scan may take bytes of this piece: it needs more bytes, and the piece has some. With all of
-- the piece, it has seen at most 2^63 - 1 bytes.
pub record MayTakeFromPiece (scan : BundleScan) (piece : List ℕ) : Type 0 where
  pub goes : (seen : List ℕ) → HasScanned scan seen → bundle_goes seen ≡ true
  pub some : 0 < length piece
  pub room : scan_size scan + length piece ≤ 2 ^ 63 - 1

-- The scan has taken the first `count` bytes of a piece, at least one. Before each of them, more
-- bytes were needed.
pub record Advances (old new : BundleScan) (piece : List ℕ) (count : ℕ) : Type 0 where
  pub some : 0 < count
  pub within : count ≤ length piece
  pub size : scan_size new ≡ scan_size old + count
  pub seen : (seen : List ℕ) → HasScanned old seen → HasScanned new (seen ++ take count piece)
  pub goes : (seen : List ℕ) → HasScanned old seen
      → (fewer : ℕ) → fewer < count → bundle_goes (seen ++ take fewer piece) ≡ true

-- The first `count` bytes of a piece were taken. A block may have ended with the last of them, and
-- none with the bytes before.
abbrev pub EndsBlockOnlyAtLastByte : BundleScan → BundleScan → List ℕ → ℕ → Type 0
EndsBlockOnlyAtLastByte old new piece count =
    (seen : List ℕ) → HasScanned old seen
    → blocks_in (seen ++ take count piece) ≡ blocks_in seen ++ ending new

-- The scan's verdict is the verdict on `content`. The scan has seen the bytes `seen` of it, and not
-- the bytes `rest` after them. Either `rest` is empty, or it cannot change the verdict.
pub record HasJudged (scan : BundleScan) (content : List ℕ) : Type 0 where
  pub seen : List ℕ
  pub rest : List ℕ
  pub parts : seen ++ rest ≡ content
  pub scanned : HasScanned scan seen
  pub enough : (rest ≡ []) ⊎ (may_scan scan ≡ false)
