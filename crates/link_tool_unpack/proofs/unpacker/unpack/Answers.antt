use Rattle.link_run.proofs.Waiting.{whole_run}
use Rattle.link_tool_unpack.proofs.unpacker.unpack.Goals as goal

pub returns : goal.returns
returns g c = whole_run c.unpack_run.ensures c.run.ensures
