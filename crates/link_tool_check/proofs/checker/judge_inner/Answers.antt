use Rattle.std.proofs.Common.{◌≡◌, [], ◌∷◌, ◌++◌, ap, sym, ◌∙◌, subst}
use Rattle.link_session_rules.specs.{MessageRules.broken_rules, Remembered.IsMessageHistoryAt}
use Rattle.link_run_over_transfers.specs.{Telling.viewed_head, Walk.Head}
use Rattle.link_tool_check.specs.Checking.{judged}
use Rattle.link_tool_check.proofs.Writing.{none_written}
use Rattle.link_tool_check.proofs.checker.judge_inner.Goals as goal

pub returns-then-take_inner-clause-gives : goal.returns-then-take_inner-clause-gives
returns-then-take_inner-clause-gives g c = λ id before is at.
    let options = c.args.options.now in
    let none : broken_rules options.peer before (judged (viewed_head c.args.head.now)) ≡ [] =
    ap (λ (head : Head). broken_rules options.peer before (judged head)) is
    ∙ c.take_inner.ensures.kept id before at c.if-take_inner.true in
    rw none none_written

pub returns-then-take_inner-clause-history : goal.returns-then-take_inner-clause-history
returns-then-take_inner-clause-history g c = λ id before is at.
    subst (λ (head : Head). IsMessageHistoryAt c.take_inner.new.self (before ++ judged head ∷ [])) (sym is)
    (c.take_inner.ensures.taken id before at c.if-take_inner.true)

pub returns-clause-gives : goal.returns-clause-gives
returns-clause-gives g c = λ id before is at.
    c.judge_apart.ensures.gives before (rw (c.take_inner.ensures.same c.if-take_inner.false) at)

pub returns-clause-history : goal.returns-clause-history
returns-clause-history g c = λ id before is at.
    c.judge_apart.ensures.history before (rw (c.take_inner.ensures.same c.if-take_inner.false) at)
