use Rattle.link_tool_pack.proofs.MoreOutcomes.{same_tool}
use Rattle.link_tool_pack.proofs.more.more_run.Goals as goal

pub returns : goal.returns
returns g c = rw (same_tool c.args.options) at c.bundle_walk_run.ensures
