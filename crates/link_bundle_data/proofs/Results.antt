-- What the data says that ends after the bytes seen, at each stage of a scan.

use Rattle.std.proofs.Common.{◌≡◌, ◌++◌, ℕ, ◌<◌, Bool, true, false, List, [], length, Ok, Err, refl, sym, ap, ◌∙◌, append-nil, arith}
use Rattle.std.specs.Prelude.{◌==◌, ◌||◌, IsTrue, if◌then◌else◌}
use Rattle.link_cbor.specs.declared.head_scan.HeadScan.{HeadScan}
use Rattle.link_bundle_types.specs.declared.fault.BundleFault.TheVariants.{Cut}
use Rattle.link_bundle_blocks.specs.Reading.{stopped}
use Rattle.link_bundle_blocks.proofs.{Runs.bytes_at-cut, Seen.head_at-cut_short}
use Rattle.link_bundle_data.specs.declared.{kind.DataKind.DataKind, due.Due.Due, due.Owner.Owner}
use Rattle.link_bundle_data.specs.declared.due.{Found.Found, DataStage.DataStage}
use Rattle.link_bundle_data.specs.declared.due.DataStage.TheVariants.{Head, Name, Read, Failed}
use Rattle.link_bundle_data.specs.declared.{draft.Draft.Draft, values.DataFault.DataFault}
use Rattle.link_bundle_data.specs.BlockData.{BlockData, alone, fault_at, located, data_of}
use Rattle.link_bundle_data.specs.{EidLeft.name_left, Left.{data_from, may_follow, stage_left}}
use Rattle.link_bundle_data.specs.Scan.{HasScannedBy}
use Rattle.link_bundle_data.proofs.Stops.{due_left-stopped}

ended_there : (follow : Bool) (found : BlockData) (bytes : List ℕ) (offset : ℕ)
    → IsTrue (follow || (offset == length bytes))
    → located bytes (if follow then Ok found else alone bytes offset found) ≡ Ok found
unfolding alone
ended_there true found bytes offset stands = refl
ended_there false found bytes offset stands = rw stands refl

module _ {kind : DataKind} {draft : Draft} {head : HeadScan} {offset count : ℕ} {seen : List ℕ} where
  -- the reading of the bytes seen, if no more follow
  read_now : {stage : DataStage} → HasScannedBy kind stage draft head offset count seen
      → data_of kind seen ≡ stage_left stage draft seen offset (length seen)
  read_now come = rw append-nil at (come.reads [])

  pub lasts_failed : {at : DataFault} (more : List ℕ)
      → HasScannedBy kind (Failed at) draft head offset count seen → data_of kind (seen ++ more) ≡ Err at
  unfolding stage_left
  lasts_failed more come = come.reads more

  pub result_failed : {at : DataFault} → HasScannedBy kind (Failed at) draft head offset count seen
      → data_of kind seen ≡ Err at
  unfolding stage_left
  result_failed come = read_now come

  pub result_head : {which : Due} → HasScannedBy kind (Head which) draft head offset count seen
      → data_of kind seen ≡ Err (record { offset = count; is_limit = false })
  unfolding stage_left
  result_head {which = which} come =
      read_now come
      ∙ ap (located seen) (due_left-stopped which draft seen offset (stopped Cut (length seen))
      (head_at-cut_short seen offset come.stands.cut))
      ∙ ap (λ (at : ℕ). Err (fault_at seen Cut at)) (sym come.counted)

  pub result_name : {owner : Owner} {left : ℕ}
      → HasScannedBy kind (Name owner left) draft head offset count seen → 0 < left
      → data_of kind seen ≡ Err (record { offset = count; is_limit = false })
  unfolding stage_left name_left
  result_name {left = left} come some =
      read_now come
      ∙ rw (bytes_at-cut left seen (length seen) (omega arith))
      (ap (λ (at : ℕ). Err (fault_at seen Cut at)) (sym come.counted))

  pub result_read : {found : Found} → HasScannedBy kind (Read found) draft head offset count seen
      → data_of kind seen ≡ Ok (data_from found draft offset)
  unfolding stage_left
  result_read {found = found} come =
      read_now come ∙ ended_there (may_follow found) (data_from found draft offset) seen offset
      come.stands
