use Rattle.std.proofs.Common.{◌∙◌}
use Rattle.link_tool_check.proofs.Blocks.{rules_none, rules_some}
use Rattle.link_tool_check.proofs.bundle.BundleReader.keeps_rules.Goals as goal

pub returns-then-not-self : goal.returns-then-not-self
returns-then-not-self c = λ own content info source reads is.
    rules_none own content c.args.self.now.blocks.history source info
    (rw c.if-not-self.true at reads.history)

pub returns : goal.returns
returns c = λ own content info source reads is.
    rules_some own content c.args.self.now.blocks.history source info
    (rw c.if-not-self.false at reads.history)
    ∙ rw (← c.first_long.ensures content reads.walked)
    (c.keeps_rules.ensures info.payload source is)
