-- Relations: the state that a caller sees at a stage, and the part that is read there.

use Rattle.std.specs.Prelude.{◌≡◌, ℕ, ◌-◌, take, Bool, true, false, not, nat_lt, List, Option, None, Some, Result, Ok, Err, if◌then◌else◌}
use Rattle.link_cbor.specs.declared.check.{Check.Check, CheckKind.CheckKind}
use Rattle.link_cbor.specs.Pushed.{IsCheckAt}
use Rattle.link_bundle_types.specs.declared.fault.{State.State}
use Rattle.link_bundle_types.specs.declared.fault.State.TheVariants as state
use Rattle.link_bundle_types.specs.Faults.{lasts}
use Rattle.link_bundle_heads.specs.Rows.{closing}
use Rattle.link_bundle_blocks.specs.declared.exact.PartFault.{PartFault}
use Rattle.link_bundle_blocks.specs.Reading.{Stop, ReadAt, stopped, row_at}
use Rattle.link_bundle_blocks.specs.Parts.{next_block_at, field_from, any_field}
use Rattle.link_bundle_blocks.specs.Whole.{whole_primary}
use Rattle.link_bundle.specs.declared.stage.ScanStage.{ScanStage}
use Rattle.link_bundle.specs.declared.stage.ScanStage.TheVariants.{PrimaryBlock, BlockHeads, BlockData, CheckField, Break, Ended, Failed}

-- the state of a scan that a caller sees at each stage
abbrev pub stage_state : ScanStage → State
stage_state Ended = state.Ended
stage_state (Failed fault offset) = state.Failed fault offset
stage_state _ = state.Going

-- whether one more byte may be fed, which is not so after a fault
abbrev pub takes_bytes : State → Bool
takes_bytes state.Going = true
takes_bytes state.Ended = true
takes_bytes (state.Failed fault offset) = false

-- whether a stage begins where a block ends
abbrev pub follows_block : ScanStage → Bool
follows_block BlockHeads = true
follows_block Break = true
follows_block _ = false

-- whether the scan holds the bytes of a part at a stage
abbrev pub is_part : ScanStage → Bool
is_part PrimaryBlock = true
is_part BlockHeads = true
is_part (CheckField kind) = true
is_part Break = true
is_part _ = false

-- This many bytes always show the end of a part or its fault. A head has at most 9 bytes, a check
-- field 13 (a head and a value of 4), and an endpoint ID 1,051 (three heads and a name of 1,024).
-- So the opening byte and a primary block have at most 1 + 3 * 1,051 + 10 * 9 + 13 bytes, and the
-- six heads of a canonical block 54. Between two calls, a scan without a fault holds fewer
-- (`hold_fits`), so it holds none at a stage without a part.
abbrev pub limit : ScanStage → ℕ
limit PrimaryBlock = 3257
limit BlockHeads = 54
limit (CheckField kind) = 13
limit Break = 9
limit _ = 1

-- At a check field, `covered` was pushed to the check: the bytes of the block before the field. At
-- any other stage nothing is said.
abbrev pub IfAtCheckFieldCovered : ScanStage → Check → List ℕ → Type 0
IfAtCheckFieldCovered (CheckField kind) check covered = IsCheckAt kind check covered
IfAtCheckFieldCovered _ check covered = Unit {0}

-- the offset after a part, or its stop
abbrev pub end_of : {A : Type 0} → ReadAt A → Result ℕ Stop
end_of (Ok (value, next)) = Ok next
end_of (Err stop) = Err stop

-- The offset after the part of this stage at the start of the bytes, or the stop. A check field may
-- contain any check value. `numbers` are the numbers of the blocks before. A stage without a part
-- reads nothing.
abbrev pub any_reading : ScanStage → (numbers bytes : List ℕ) → Result ℕ Stop
any_reading PrimaryBlock numbers bytes = end_of (whole_primary bytes)
any_reading BlockHeads numbers bytes = end_of (next_block_at numbers bytes 0)
any_reading (CheckField kind) numbers bytes = end_of (any_field kind bytes)
any_reading Break numbers bytes = end_of (row_at closing bytes 0)
any_reading _ numbers bytes = Ok 0

-- The offset after the part of this stage at the start of the bytes, or the stop. A wrong check
-- value is a fault. `covered` are the bytes of the block before its check field.
abbrev pub part_reading : ScanStage → (numbers covered bytes : List ℕ) → Result ℕ Stop
part_reading (CheckField kind) numbers covered bytes = end_of (field_from kind covered bytes)
part_reading stage numbers covered bytes = any_reading stage numbers bytes

-- the offset after a part, or its stop, by the result of `read_part`
abbrev pub part_end : Result (ℕ × ScanStage) PartFault → Result ℕ Stop
part_end (Ok (size, next)) = Ok size
part_end (Err stop) = Err (stopped stop.fault stop.offset)

-- whether this reading of a part found that the bytes end inside it
abbrev pub is_cut : Result ℕ Stop → Bool
is_cut (Ok next) = false
is_cut (Err stop) = not (lasts stop.fault)

-- The stage after a block. If `payload` is known, the block was the payload block, and the break
-- follows.
abbrev pub stage_after : Option (ℕ × ℕ) → ScanStage
stage_after None = BlockHeads
stage_after (Some payload) = Break

-- the stage after the data of a block with this check
abbrev pub stage_after_data : Option CheckKind → Option (ℕ × ℕ) → ScanStage
stage_after_data None payload = stage_after payload
stage_after_data (Some kind) payload = CheckField kind

-- The stage in a block with this check, of whose data `left` bytes are left. If none are left, it
-- is the stage after the data.
abbrev pub stage_in_data : ℕ → Option CheckKind → Option (ℕ × ℕ) → ScanStage
stage_in_data left check payload =
    if nat_lt 0 left then BlockData left else stage_after_data check payload

-- If the first `held` bytes end inside a part, and all bytes do not, then the first `shown` bytes
-- do not end inside the part, and the first `shown - 1` bytes do.
abbrev pub IsLeastNotCutShort : (List ℕ → Result ℕ Stop) → (held shown : ℕ) → List ℕ → Type 0
IsLeastNotCutShort reading held shown bytes =
    is_cut (reading (take held bytes)) ≡ true → is_cut (reading bytes) ≡ false
    → (is_cut (reading (take shown bytes)) ≡ false)
    × (is_cut (reading (take (shown - 1) bytes)) ≡ true)
