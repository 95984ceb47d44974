use Rattle.link_run_over_transfers.proofs.Strides.{step_kept}
use Rattle.link_run_over_transfers.proofs.walk.WalkStagesSession.stage.Goals as goal

pub returns-clause-gives : goal.returns-clause-gives
returns-clause-gives g c =
    rw (c.keep.ensures.progress, c.keep.ensures.kept)
    (step_kept c.advance-next.result c.advance-next.ensures.gives)
