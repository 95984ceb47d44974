use Rattle.link_tool_check.proofs.Writing.{none_written}
use Rattle.link_tool_check.proofs.checker.write_head.Goals as goal

pub returns-then-keeps_rules : goal.returns-then-keeps_rules
returns-then-keeps_rules g c = λ before at.
    rw (c.keeps_rules.ensures before at c.if-keeps_rules.true) none_written
