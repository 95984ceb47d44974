use Rattle.std.proofs.Common.{true, false, Some, ap, sym, ◌∙◌}
use Rattle.link_transfer.proofs.Joining.{IsJoinerAt-then, effect-at, taken-at}
use Rattle.link_transfer.proofs.joiner.Joiner.take_refused.Goals as goal

pub returns-then-is_stray-clause-turn : goal.returns-then-is_stray-clause-turn
returns-then-is_stray-clause-turn c = λ before at.
    effect-at c.args.self.now before c.args.event at true (sym c.is_stray.ensures ∙ c.if-is_stray.true)

pub returns-then-is_stray-clause-taken : goal.returns-then-is_stray-clause-taken
returns-then-is_stray-clause-taken c = λ before message is at.
    taken-at c.args.self.now before c.args.event at message is true
    (sym c.is_stray.ensures ∙ c.if-is_stray.true) c.args.self.now at

pub returns-clause-turn : goal.returns-clause-turn
returns-clause-turn c = λ before at.
    ap Some c.accept.ensures.turn
    ∙ effect-at c.args.self.now before c.args.event at false
    (sym c.is_stray.ensures ∙ c.if-is_stray.false)

pub returns-clause-taken : goal.returns-clause-taken
returns-clause-taken c = λ before message is at.
    taken-at _ before _ at _ is false (sym c.is_stray.ensures ∙ c.if-is_stray.false) _
    (rw c.accept.ensures.after (IsJoinerAt-then _ before _ _ is at))
