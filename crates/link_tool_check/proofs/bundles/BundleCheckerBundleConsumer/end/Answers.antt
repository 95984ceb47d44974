use Rattle.std.proofs.Common.{refl}
use Rattle.link_run_over_bundle_files.proofs.Told.{told_none}
use Rattle.link_tool_check.proofs.bundles.BundleCheckerBundleConsumer.end.Goals as goal

pub returns : goal.returns
returns g c = λ bundles knows. told_none refl tt
