use Rattle.link_run.proofs.Waiting.{whole_run}
use Rattle.link_tool_check.proofs.checker.check.Goals as goal

pub returns : goal.returns
returns g c = whole_run c.check_run.ensures c.run.ensures
