use Rattle.link_run_over_bundle_files.proofs.Told.{told_none}
use Rattle.link_tool_pack.proofs.MoreOutcomes.{nothing_yet}
use Rattle.link_tool_pack.proofs.more.MorePackerBundleConsumer.begin.Goals as goal

pub returns-clause-gives : goal.returns-clause-gives
returns-clause-gives g c = λ keeps. told_none (nothing_yet _) keeps
