use Rattle.link_wire.proofs.Gettings.{step, stop_in, leave, pure}
use Rattle.link_wire.specs.Message.{sess_init_at}
use Rattle.link_wire.proofs.head.sess_init.Goals as goal

pub returns-in_err-keepalive-clause-gets : goal.returns-in_err-keepalive-clause-gets
unfolding sess_init_at
returns-in_err-keepalive-clause-gets g c =
    leave _ _ c.from_residual.ensures.1 (stop_in _ c.in_err-keepalive.ensures)

pub returns-in_err-segment_mru-clause-gets : goal.returns-in_err-segment_mru-clause-gets
unfolding sess_init_at
returns-in_err-segment_mru-clause-gets g c =
    leave _ _ c.from_residual-in_err-segment_mru.ensures.1 (step _ c.in_ok-keepalive.ensures
    (stop_in _ c.in_err-segment_mru.ensures))

pub returns-in_err-transfer_mru-clause-gets : goal.returns-in_err-transfer_mru-clause-gets
unfolding sess_init_at
returns-in_err-transfer_mru-clause-gets g c =
    leave _ _ c.from_residual-in_err-transfer_mru.ensures.1 (step _ c.in_ok-keepalive.ensures
    (step _ c.in_ok-segment_mru.ensures (stop_in _ c.in_err-transfer_mru.ensures)))

pub returns-in_err-node-clause-gets : goal.returns-in_err-node-clause-gets
unfolding sess_init_at
returns-in_err-node-clause-gets g c =
    leave _ _ c.from_residual-in_err-node.ensures.1 (step _ c.in_ok-keepalive.ensures
    (step _ c.in_ok-segment_mru.ensures (step _ c.in_ok-transfer_mru.ensures
    (stop_in _ c.in_err-node.ensures))))

pub returns-in_err-list-clause-gets : goal.returns-in_err-list-clause-gets
unfolding sess_init_at
returns-in_err-list-clause-gets g c =
    leave _ _ c.from_residual-in_err-list.ensures.1 (step _ c.in_ok-keepalive.ensures
    (step _ c.in_ok-segment_mru.ensures (step _ c.in_ok-transfer_mru.ensures
    (step _ c.in_ok-node.ensures (stop_in _ c.in_err-list.ensures.gets)))))

pub returns-clause-gets : goal.returns-clause-gets
unfolding sess_init_at
returns-clause-gets g c =
    step _ c.in_ok-keepalive.ensures (step _ c.in_ok-segment_mru.ensures
    (step _ c.in_ok-transfer_mru.ensures (step _ c.in_ok-node.ensures
    (step _ c.in_ok-list.ensures.gets pure))))
