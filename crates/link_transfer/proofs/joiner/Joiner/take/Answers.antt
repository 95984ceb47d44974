use Rattle.std.proofs.Common.{false, Some, ap, sym, ◌∙◌}
use Rattle.link_transfer.proofs.Joining.{IsJoinerAt-then, refusal-at, not_stray, effect-at, taken-at}
use Rattle.link_transfer.proofs.joiner.Joiner.take.Goals as goal

pub returns-in-None-clause-fault : goal.returns-in-None-clause-fault
returns-in-None-clause-fault c = λ before at.
    c.in-None.ensures ∙ refusal-at c.args.self.now before c.args.event at

pub returns-in-None-clause-turn : goal.returns-in-None-clause-turn
returns-in-None-clause-turn c = λ before at.
    let joiner = c.args.self.now in
    ap Some c.accept.ensures.turn
    ∙ effect-at joiner before c.args.event at false
    (not_stray joiner.initiated joiner.terminated joiner.transfer c.args.event (sym c.in-None.ensures))

pub returns-in-None-clause-taken : goal.returns-in-None-clause-taken
returns-in-None-clause-taken c = λ before message is at.
    let joiner = c.args.self.now in
    taken-at joiner before c.args.event at message is false
    (not_stray joiner.initiated joiner.terminated joiner.transfer c.args.event (sym c.in-None.ensures)) c.accept.new.self
    (rw c.accept.ensures.after (IsJoinerAt-then joiner before message c.args.event is at))

pub returns-in-Some-clause-fault : goal.returns-in-Some-clause-fault
returns-in-Some-clause-fault c = λ before at.
    c.in-Some.ensures ∙ refusal-at c.args.self.now before c.args.event at
