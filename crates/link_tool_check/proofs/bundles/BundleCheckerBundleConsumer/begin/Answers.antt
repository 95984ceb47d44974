use Rattle.link_run_over_bundle_files.proofs.Told.{told_none}
use Rattle.link_tool_check.proofs.BundleTexts.{says_none}
use Rattle.link_tool_check.proofs.bundles.BundleCheckerBundleConsumer.begin.Goals as goal

pub returns-clause-gives : goal.returns-clause-gives
returns-clause-gives g c = λ knows. told_none (says_none c.args._options.now) knows
