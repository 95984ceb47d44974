use Rattle.std.proofs.Common.{None, sym, ◌∙◌}
use Rattle.link_tool_check.proofs.Blocks.{doubt_all, doubt_none, doubt_some}
use Rattle.link_tool_check.proofs.bundle.BundleReader.doubt.Goals as goal

pub returns-then-has_other_item : goal.returns-then-has_other_item
returns-then-has_other_item c = λ own content reads.
    rw c.if-has_other_item.true (sym (doubt_all own content))

pub returns-then-not-self : goal.returns-then-not-self
returns-then-not-self c = λ own content reads.
    rw c.if-has_other_item.false (sym (doubt_none own content c.args.self.now.blocks.history
    (rw c.if-not-self.true at reads.history)))

pub returns : goal.returns
returns c = λ own content reads.
    rw c.if-has_other_item.false (c.doubt.ensures None 0
    ∙ sym (doubt_some own content c.args.self.now.blocks.history
    (rw c.if-not-self.false at reads.history)))
