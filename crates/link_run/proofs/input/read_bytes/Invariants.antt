use Rattle.link_run.specs.Run.{reach_at}
use Rattle.link_run.proofs.input.read_bytes.Given as goal

abbrev pub ghost-and : goal.ghost-and
ghost-and g a = λ source. reach_at g.R.InDevice.state source
