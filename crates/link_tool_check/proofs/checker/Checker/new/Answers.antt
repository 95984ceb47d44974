use Rattle.std.proofs.Common.{refl}
use Rattle.link_tool_check.proofs.Kept.{knows_nothing}
use Rattle.link_tool_check.proofs.checker.Checker.new.Goals as goal

pub returns : goal.returns
returns c = λ options. knows_nothing options _ c.new-2.ensures.size refl c.new.ensures
