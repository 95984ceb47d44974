use Rattle.link_io.proofs.Sources.{gives_none}
use Rattle.link_io.proofs.source.Source.ready.Goals as goal

pub returns-then-self-clause-here : goal.returns-then-self-clause-here
returns-then-self-clause-here g c = λ some. gives_none g.R.InDevice.state c.args.self.now
