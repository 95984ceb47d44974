use Rattle.std.proofs.Common.{◌∙◌}
use Rattle.link_tool_check.proofs.checker.write_broken.Goals as goal

pub returns : goal.returns
returns g c = λ before at.
    rw (c.as_slice-rules.ensures.value ∙ c.rules-rules.ensures before at) at c.write_rules.ensures
