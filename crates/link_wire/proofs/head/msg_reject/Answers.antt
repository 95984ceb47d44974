use Rattle.link_wire.proofs.Gettings.{step, stop_in, leave, pure}
use Rattle.link_wire.specs.Message.{msg_reject_at}
use Rattle.link_wire.proofs.head.msg_reject.Goals as goal

pub returns-in_err-reason-clause-gets : goal.returns-in_err-reason-clause-gets
unfolding msg_reject_at
returns-in_err-reason-clause-gets g c =
    leave _ _ c.from_residual.ensures.1 (stop_in _ c.in_err-reason.ensures)

pub returns-in_err-header-clause-gets : goal.returns-in_err-header-clause-gets
unfolding msg_reject_at
returns-in_err-header-clause-gets g c =
    leave _ _ c.from_residual-in_err-header.ensures.1 (step _ c.in_ok-reason.ensures
    (stop_in _ c.in_err-header.ensures))

pub returns-clause-gets : goal.returns-clause-gets
unfolding msg_reject_at
returns-clause-gets g c = step _ c.in_ok-reason.ensures (step _ c.in_ok-header.ensures pure)
