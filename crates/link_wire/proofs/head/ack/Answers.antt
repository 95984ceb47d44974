use Rattle.link_wire.proofs.Gettings.{step, stop_in, leave, pure}
use Rattle.link_wire.specs.Message.{ack_at}
use Rattle.link_wire.proofs.head.ack.Goals as goal

pub returns-in_err-flags-clause-gets : goal.returns-in_err-flags-clause-gets
unfolding ack_at
returns-in_err-flags-clause-gets g c =
    leave _ _ c.from_residual.ensures.1 (stop_in _ c.in_err-flags.ensures)

pub returns-in_err-id-clause-gets : goal.returns-in_err-id-clause-gets
unfolding ack_at
returns-in_err-id-clause-gets g c =
    leave _ _ c.from_residual-in_err-id.ensures.1 (step _ c.in_ok-flags.ensures
    (stop_in _ c.in_err-id.ensures))

pub returns-in_err-length-clause-gets : goal.returns-in_err-length-clause-gets
unfolding ack_at
returns-in_err-length-clause-gets g c =
    leave _ _ c.from_residual-in_err-length.ensures.1 (step _ c.in_ok-flags.ensures
    (step _ c.in_ok-id.ensures (stop_in _ c.in_err-length.ensures)))

pub returns-clause-gets : goal.returns-clause-gets
unfolding ack_at
returns-clause-gets g c =
    step _ c.in_ok-flags.ensures (step _ c.in_ok-id.ensures (step _ c.in_ok-length.ensures pure))
