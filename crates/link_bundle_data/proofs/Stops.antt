-- A head that is cut or ill-formed ends the reading, whatever is due.

use Rattle.std.proofs.Common.{◌≡◌, ℕ, List, Err, refl}
use Rattle.link_bundle_blocks.specs.{Reading.{Stop, head_at, row_at}, EndpointId.specific_at}
use Rattle.link_bundle_data.specs.declared.due.Due.{Due}
use Rattle.link_bundle_data.specs.declared.due.Due.TheVariants as due
use Rattle.link_bundle_data.specs.{declared.draft.Draft.Draft, BlockData.assertion_at}
use Rattle.link_bundle_data.specs.EidLeft.{scheme_left}
use Rattle.link_bundle_data.specs.Left.{assertions_left, report_left, context_left, boolean_at, due_left}
use Rattle.link_bundle_data.proofs.Heads.{by_assertion-stopped}

pub due_left-stopped : (which : Due) (draft : Draft) (bytes : List ℕ) (offset : ℕ) (stop : Stop)
    → head_at bytes offset ≡ Err stop → due_left which draft bytes offset ≡ Err stop
unfolding due_left specific_at scheme_left assertion_at assertions_left report_left context_left
    boolean_at row_at
due_left-stopped (due.Assertion status) draft bytes offset stop outcome =
    rw outcome (by_assertion-stopped status draft bytes stop)
due_left-stopped (due.Asserted status has_time) draft bytes offset stop outcome =
    rw outcome (by_assertion-stopped status draft bytes stop)
due_left-stopped _ draft bytes offset stop outcome = rw outcome refl
