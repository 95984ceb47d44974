-- Relations: the bounds of a scan at each stage.

use Rattle.std.specs.Prelude.{ℕ, ◌==◌, Bool, true, false, not, ◌&&◌, ◌||◌, nat_lt, nat_le, List, length, is_none, is_some, Option, Some, None}
use Rattle.link_cbor.specs.declared.check.CheckKind.{CheckKind}
use Rattle.link_cbor.specs.declared.check.CheckKind.TheVariants.{Crc16, Crc32}
use Rattle.link_bundle_types.specs.Faults.{lasts}
use Rattle.link_bundle.specs.declared.{cursor.Cursor.Cursor, draft.Draft.Draft}
use Rattle.link_bundle.specs.declared.stage.ScanStage.{ScanStage}
use Rattle.link_bundle.specs.declared.stage.ScanStage.TheVariants.{PrimaryBlock, BlockHeads, BlockData, CheckField, Break, Ended, Failed}
use Rattle.link_bundle.specs.Stages.{limit, is_cut, is_part, any_reading}

-- whether two checks have the same kind
abbrev pub same_kind : CheckKind → CheckKind → Bool
same_kind Crc16 Crc16 = true
same_kind Crc16 Crc32 = false
same_kind Crc32 Crc16 = false
same_kind Crc32 Crc32 = true

-- whether a block has a check, and the check is of this kind; `None` is a block without a check
abbrev pub is_kind : Option CheckKind → CheckKind → Bool
is_kind None kind = false
is_kind (Some found) kind = same_kind found kind

-- whether the primary block is whole, and the heads of a canonical block were read
abbrev pub has_block : Draft → Bool
has_block draft = draft.whole && not (length draft.numbers == 0)

-- Whether the draft contains what belongs to the stage. It contains the numbers of the canonical
-- blocks whose heads were read, and the place of the payload if the latest of these blocks is the
-- payload block. After a fault, the fault must last, and the draft does not matter.
abbrev pub stage_fits : ScanStage → Draft → Bool
stage_fits PrimaryBlock draft =
    is_none draft.payload_span && (not draft.whole && length draft.numbers == 0)
stage_fits BlockHeads draft = is_none draft.payload_span && draft.whole
stage_fits (BlockData left) draft = nat_lt 0 left && has_block draft
stage_fits (CheckField kind) draft = is_kind draft.block.check kind && has_block draft
stage_fits Break draft = is_some draft.payload_span && has_block draft
stage_fits Ended draft = is_some draft.payload_span && draft.whole
stage_fits (Failed fault offset) draft = lasts fault

-- whether the hold has room for more bytes of the part; after a fault no more are held
abbrev pub hold_fits : ScanStage → Cursor → Bool
hold_fits (Failed fault offset) cursor = true
hold_fits stage cursor = nat_lt (length cursor.hold) (limit stage)

-- Whether the held bytes end inside the part. At a stage without a part it is `true`. `numbers` are
-- the numbers of the blocks before.
abbrev pub part_goes : ScanStage → (numbers hold : List ℕ) → Bool
part_goes stage numbers hold = not (is_part stage) || is_cut (any_reading stage numbers hold)

-- whether the stage, the cursor and the draft of a scan fit together
abbrev pub scan_fits : ScanStage → Cursor → Draft → Bool
scan_fits stage cursor draft =
    nat_le (length cursor.hold) cursor.count
    && (hold_fits stage cursor
    && (part_goes stage draft.numbers cursor.hold && stage_fits stage draft))
