use Rattle.std.proofs.{Common.{◌-◌, ◌<◌, ◌≤◌, arith}, lemmas.Bool.{lt-ltb, le-ltb}}
use Rattle.link_wire.proofs.Gettings.{exiting, step, stop_in, pure, refuse, if_true, if_false}
use Rattle.link_wire.specs.Message.{item_head_at}
use Rattle.link_wire.proofs.list.item_head.Goals as goal

pub returns-then-left-lt-ITEM_HEAD-clause-gets : goal.returns-then-left-lt-ITEM_HEAD-clause-gets
unfolding item_head_at
returns-then-left-lt-ITEM_HEAD-clause-gets g c = λ live.
    if_true _ _ (lt-ltb _ _ c.if-left-lt-ITEM_HEAD.true) (refuse (λ e. cc))

pub returns-in_err-flags-clause-gets : goal.returns-in_err-flags-clause-gets
unfolding item_head_at
returns-in_err-flags-clause-gets g c = λ live.
    exiting _ c.from_residual.ensures.1 (if_false _ _ (le-ltb _ _ c.if-left-lt-ITEM_HEAD.false)
    (stop_in _ c.in_err-flags.ensures live))

pub returns-in_err-kind-clause-gets : goal.returns-in_err-kind-clause-gets
unfolding item_head_at
returns-in_err-kind-clause-gets g c = λ live.
    exiting _ c.from_residual-in_err-kind.ensures.1
    (if_false _ _ (le-ltb _ _ c.if-left-lt-ITEM_HEAD.false)
    (step _ c.in_ok-flags.ensures (stop_in _ c.in_err-kind.ensures) live))

pub returns-in_err-length-clause-gets : goal.returns-in_err-length-clause-gets
unfolding item_head_at
returns-in_err-length-clause-gets g c = λ live.
    exiting _ c.from_residual-in_err-length.ensures.1
    (if_false _ _ (le-ltb _ _ c.if-left-lt-ITEM_HEAD.false) (step _ c.in_ok-flags.ensures
    (step _ c.in_ok-kind.ensures (stop_in _ c.in_err-length.ensures)) live))

pub returns-then-from-left-clause-gets : goal.returns-then-from-left-clause-gets
unfolding item_head_at
returns-then-from-left-clause-gets g c = λ live.
    let over : c.args.left - 5 < c.in_ok-length.length = omega arith in
    if_false _ _ (le-ltb _ _ c.if-left-lt-ITEM_HEAD.false) (step _ c.in_ok-flags.ensures
    (step _ c.in_ok-kind.ensures (step _ c.in_ok-length.ensures
    (λ _. if_true _ _ (lt-ltb _ _ over) (refuse (λ e. cc))))) live)

pub returns-clause-gets : goal.returns-clause-gets
unfolding item_head_at
returns-clause-gets g c = λ live.
    let within : c.in_ok-length.length ≤ c.args.left - 5 = omega arith in
    if_false _ _ (le-ltb _ _ c.if-left-lt-ITEM_HEAD.false) (step _ c.in_ok-flags.ensures
    (step _ c.in_ok-kind.ensures (step _ c.in_ok-length.ensures
    (λ now. if_false _ _ (le-ltb _ _ within) (pure now)))) live)
