use Rattle.link_run_over_bundle_files.proofs.Told.{told_none}
use Rattle.link_tool_blocks.proofs.BundleTexts.{says_none}
use Rattle.link_tool_blocks.proofs.bundles.BundleListerBundleConsumer.begin.Goals as goal

pub returns-clause-gives : goal.returns-clause-gives
returns-clause-gives g c = λ reading. told_none says_none reading
