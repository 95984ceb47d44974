use Rattle.link_wire.proofs.Gettings.{step, stop_in, leave, pure}
use Rattle.link_wire.specs.Message.{refuse_at}
use Rattle.link_wire.proofs.head.refuse.Goals as goal

pub returns-in_err-reason-clause-gets : goal.returns-in_err-reason-clause-gets
unfolding refuse_at
returns-in_err-reason-clause-gets g c =
    leave _ _ c.from_residual.ensures.1 (stop_in _ c.in_err-reason.ensures)

pub returns-in_err-id-clause-gets : goal.returns-in_err-id-clause-gets
unfolding refuse_at
returns-in_err-id-clause-gets g c =
    leave _ _ c.from_residual-in_err-id.ensures.1 (step _ c.in_ok-reason.ensures
    (stop_in _ c.in_err-id.ensures))

pub returns-clause-gets : goal.returns-clause-gets
unfolding refuse_at
returns-clause-gets g c = step _ c.in_ok-reason.ensures (step _ c.in_ok-id.ensures pure)
