use Rattle.link_run.proofs.Waiting.{whole_run}
use Rattle.link_tool_pack.proofs.packer.pack.Goals as goal

pub returns-in-Ok-clause-ran : goal.returns-in-Ok-clause-ran
returns-in-Ok-clause-ran g c = rw c.in-Ok.is (whole_run c.pack_run.ensures c.run.ensures)
