-- Relations: the bounds of a scan at each stage.

use Rattle.std.specs.Prelude.{ℕ, Bool, true, ◌&&◌, nat_lt, nat_le, Option, Some, None}
use Rattle.link_cbor.specs.declared.head_scan.HeadScan.{HeadScan}
use Rattle.link_cbor.specs.HeadScan.{may_scan_head}
use Rattle.link_bundle_types.specs.KeptEid.{name_fits}
use Rattle.link_bundle_data.specs.declared.due.DataStage.{DataStage}
use Rattle.link_bundle_data.specs.declared.due.DataStage.TheVariants.{Head, Name, Failed}
use Rattle.link_bundle_data.specs.declared.draft.Draft.{Draft}

-- In a name, bytes are left, and the endpoint ID has room for them. Other stages have no bound.
abbrev pub stage_fits : DataStage → Draft → Bool
stage_fits (Name owner left) draft = nat_lt 0 left && name_fits draft.eid left
stage_fits _ draft = true

-- at a head, the scan of the head is not complete
abbrev pub head_fits : DataStage → HeadScan → Bool
head_fits (Head which) head = may_scan_head head
head_fits _ head = true

-- whether the stage, the scan of the current head and the draft fit together
abbrev pub scan_fits : DataStage → HeadScan → Draft → Bool
scan_fits stage head draft = head_fits stage head && stage_fits stage draft

-- if the data is malformed, its offset is at most `count`, the number of bytes seen
abbrev pub failed_within : DataStage → ℕ → Bool
failed_within (Failed fault) count = nat_le fault.offset count
failed_within _ count = true

-- if there is a long head, its offset is at most `count`, the number of bytes seen
abbrev pub long_within : Option ℕ → ℕ → Bool
long_within None count = true
long_within (Some at) count = nat_le at count
