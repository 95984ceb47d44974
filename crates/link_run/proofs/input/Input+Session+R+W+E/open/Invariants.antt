use Rattle.link_wire.specs.Session.{source_of}
use Rattle.link_run.specs.Run.{reach_at}
use Rattle.link_run.proofs.input.Input+Session+R+W+E.open.Given as goal

-- the source of a session has the bytes at hand
abbrev pub ghost-and : goal.ghost-and
ghost-and g a = λ session. reach_at g.R.InDevice.state (source_of session)
