use Rattle.std.proofs.Common.{ap}
use Rattle.link_run.specs.Writers.{on_output}
use Rattle.link_run_over_bundle_files.proofs.Told.{told_none}
use Rattle.link_tool_blocks.proofs.BundleTexts.{between_lines}
use Rattle.link_tool_blocks.proofs.bundles.BundleListerBundleConsumer.end.Goals as goal

pub returns : goal.returns
returns g c = λ bundles reading. told_none (ap on_output (between_lines bundles)) tt
