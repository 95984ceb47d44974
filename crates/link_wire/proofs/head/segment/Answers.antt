use Rattle.link_wire.proofs.Gettings.{step, stop_in, leave, pure}
use Rattle.link_wire.specs.Message.{segment_at}
use Rattle.link_wire.proofs.head.segment.Goals as goal

pub returns-in_err-flags-clause-gets : goal.returns-in_err-flags-clause-gets
unfolding segment_at
returns-in_err-flags-clause-gets g c =
    leave _ _ c.from_residual.ensures.1 (stop_in _ c.in_err-flags.ensures)

pub returns-in_err-id-clause-gets : goal.returns-in_err-id-clause-gets
unfolding segment_at
returns-in_err-id-clause-gets g c =
    leave _ _ c.from_residual-in_err-id.ensures.1 (step _ c.in_ok-flags.ensures
    (stop_in _ c.in_err-id.ensures))

pub returns-in_err-segment_items-clause-gets : goal.returns-in_err-segment_items-clause-gets
unfolding segment_at
returns-in_err-segment_items-clause-gets g c =
    leave _ _ c.from_residual-in_err-segment_items.ensures.1 (step _ c.in_ok-flags.ensures
    (step _ c.in_ok-id.ensures (stop_in _ c.in_err-segment_items.ensures.gets)))

pub returns-in_err-length-clause-gets : goal.returns-in_err-length-clause-gets
unfolding segment_at
returns-in_err-length-clause-gets g c =
    leave _ _ c.from_residual-in_err-length.ensures.1 (step _ c.in_ok-flags.ensures
    (step _ c.in_ok-id.ensures (step _ c.in_ok-segment_items.ensures.gets
    (stop_in _ c.in_err-length.ensures))))

pub returns-clause-gets : goal.returns-clause-gets
unfolding segment_at
returns-clause-gets g c =
    step _ c.in_ok-flags.ensures (step _ c.in_ok-id.ensures
    (step _ c.in_ok-segment_items.ensures.gets (step _ c.in_ok-length.ensures pure)))
