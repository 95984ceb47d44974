use Rattle.std.proofs.Common.{ap, ap₂, sym, ◌∙◌}
use Rattle.link_transfer.specs.Order.{judged_message_by, turn_by}
use Rattle.link_transfer.proofs.Joining.{IsJoinerAt-then, judged-at}
use Rattle.link_transfer.proofs.joiner.Joiner.event.Goals as goal

pub returns-in-Some-clause-judged : goal.returns-in-Some-clause-judged
returns-in-Some-clause-judged c = λ before at.
    ap (λ refused. judged_message_by refused (turn_by c.args.self.now.transfer c.args.event)) (sym c.in-Some.is ∙ c.refusal.ensures)
    ∙ judged-at c.args.self.now before c.args.event at

pub returns-clause-judged : goal.returns-clause-judged
returns-clause-judged c = λ before at.
    ap₂ judged_message_by (sym c.in_default.is ∙ c.refusal.ensures) c.accept.ensures.turn
    ∙ judged-at c.args.self.now before c.args.event at

pub returns-clause-accepted : goal.returns-clause-accepted
returns-clause-accepted c = λ before message is at.
    rw c.accept.ensures.after (IsJoinerAt-then c.args.self.now before message c.args.event is at)
