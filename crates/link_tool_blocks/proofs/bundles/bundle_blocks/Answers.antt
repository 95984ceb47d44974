use Rattle.link_run.proofs.Waiting.{whole_run}
use Rattle.link_tool_blocks.proofs.bundles.bundle_blocks.Goals as goal

pub returns : goal.returns
returns g c = whole_run c.bundle_blocks_run.ensures c.run.ensures
