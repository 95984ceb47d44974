use Rattle.link_run.proofs.Waiting.{whole_run}
use Rattle.link_tool_list.proofs.listing.list.Goals as goal

pub returns : goal.returns
returns g c = whole_run c.list_run.ensures c.run.ensures
