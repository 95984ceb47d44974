use Rattle.std.proofs.Common.{refl}
use Rattle.link_tool_check.proofs.BundleTexts.{knows_none}
use Rattle.link_tool_check.proofs.bundles.BundleChecker.new.Goals as goal

pub returns-clause-knows : goal.returns-clause-knows
returns-clause-knows c = λ options. knows_none options _ refl (c.new.ensures.reads options.own.items) refl
