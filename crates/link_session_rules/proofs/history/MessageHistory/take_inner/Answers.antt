use Rattle.std.proofs.Common.{refl, sym, ◌∙◌}
use Rattle.link_session_rules.proofs.Inner.{inner, inner_kept, inner_taken}
use Rattle.link_session_rules.proofs.Kept.{none_if}
use Rattle.link_session_rules.proofs.history.MessageHistory.take_inner.Goals as goal

pub returns-in-Some-clause-kept : goal.returns-in-Some-clause-kept
returns-in-Some-clause-kept c = λ id before at known.
    inner_kept id c.args.length before c.args.limits.now c.args.self.now.endings
    (none_if _ (sym c.is_some.ensures ∙ c.if-is_some.false))
    (none_if _ (sym c.is_some-2.ensures ∙ c.if-is_some-2.false)) at.endings
    (sym c.is_rejected.ensures ∙ c.if-is_rejected.false)

pub returns-in-Some-clause-taken : goal.returns-in-Some-clause-taken
returns-in-Some-clause-taken c = λ id before at known.
    inner_taken id c.args.length before c.args.self.now _ c.in-Some.transfer c.add.new.self _ at
    c.in-Some.is (sym c.is_rejected.ensures ∙ c.if-is_rejected.false)
    (λ previous earlier is. c.add.ensures (inner id c.args.length) previous earlier refl is)
    c.after_second-self.ensures refl
