use Rattle.link_run.proofs.Waiting.{whole_run}
use Rattle.link_tool_check.proofs.bundles.bundle_check.Goals as goal

pub returns : goal.returns
returns g c = whole_run c.bundle_check_run.ensures c.run.ensures
