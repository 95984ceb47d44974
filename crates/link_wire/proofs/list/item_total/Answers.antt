use Rattle.link_wire.proofs.Gettings.{exit, exiting, after, pure, is_live, if_true, if_false}
use Rattle.link_wire.specs.Message.{total_at}
use Rattle.std.proofs.Common.{sym, ◌∙◌}
use Rattle.link_wire.proofs.list.item_total.Goals as goal

pub returns-in_err-number64-clause-gets : goal.returns-in_err-number64-clause-gets
unfolding total_at
returns-in_err-number64-clause-gets g c = λ live.
    exiting _ c.from_residual.ensures.1 (if_true _ _ (sym c.has_total.ensures ∙ c.if-has_total.true) (exit _ (c.in_err-number64.ensures live)))

pub returns-in_err-skip-clause-gets : goal.returns-in_err-skip-clause-gets
unfolding total_at
returns-in_err-skip-clause-gets g c = λ live.
    exiting _ c.from_residual-in_err-skip.ensures.1 (if_false _ _ (sym c.has_total.ensures ∙ c.if-has_total.false) (exit _ (c.in_err-skip.ensures live)))

pub returns-in_ok-number64-clause-gets : goal.returns-in_ok-number64-clause-gets
unfolding total_at
returns-in_ok-number64-clause-gets g c = λ live.
    let total = c.in_ok-number64.ensures live in
    if_true _ _ (sym c.has_total.ensures ∙ c.if-has_total.true) (after _ total (pure (is_live total)))

pub returns-in_ok-skip-clause-gets : goal.returns-in_ok-skip-clause-gets
unfolding total_at
returns-in_ok-skip-clause-gets g c = λ live.
    let skipped = c.in_ok-skip.ensures live in
    if_false _ _ (sym c.has_total.ensures ∙ c.if-has_total.false) (after _ skipped (pure (is_live skipped)))
