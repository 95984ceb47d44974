use Rattle.link_wire.proofs.Gettings.{step, stop_in, leave, pure}
use Rattle.link_wire.specs.Message.{sess_term_at}
use Rattle.link_wire.proofs.head.sess_term.Goals as goal

pub returns-in_err-flags-clause-gets : goal.returns-in_err-flags-clause-gets
unfolding sess_term_at
returns-in_err-flags-clause-gets g c =
    leave _ _ c.from_residual.ensures.1 (stop_in _ c.in_err-flags.ensures)

pub returns-in_err-reason-clause-gets : goal.returns-in_err-reason-clause-gets
unfolding sess_term_at
returns-in_err-reason-clause-gets g c =
    leave _ _ c.from_residual-in_err-reason.ensures.1 (step _ c.in_ok-flags.ensures
    (stop_in _ c.in_err-reason.ensures))

pub returns-clause-gets : goal.returns-clause-gets
unfolding sess_term_at
returns-clause-gets g c = step _ c.in_ok-flags.ensures (step _ c.in_ok-reason.ensures pure)
