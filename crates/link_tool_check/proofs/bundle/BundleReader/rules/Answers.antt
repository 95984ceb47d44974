use Rattle.std.proofs.Common.{sym, ◌∙◌}
use Rattle.link_tool_check.proofs.Blocks.{rules_none, rules_some}
use Rattle.link_tool_check.proofs.bundle.BundleReader.rules.Goals as goal

pub returns-then-not-self : goal.returns-then-not-self
returns-then-not-self c = λ own content info reads payload.
    c.new.ensures
    ∙ sym (rules_none own content c.args.self.now.blocks.history c.args.source info
    (rw c.if-not-self.true at reads.history))

pub returns : goal.returns
returns c = λ own content info reads payload.
    rw (c.first_long-first_long_head.ensures content reads.walked, payload) at c.rules.ensures
    ∙ sym (rules_some own content c.args.self.now.blocks.history c.args.source info
    (rw c.if-not-self.false at reads.history))
