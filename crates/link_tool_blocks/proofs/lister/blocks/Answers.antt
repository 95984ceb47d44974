use Rattle.link_run.proofs.Waiting.{whole_run}
use Rattle.link_tool_blocks.proofs.lister.blocks.Goals as goal

pub returns : goal.returns
returns g c = whole_run c.blocks_run.ensures c.run.ensures
