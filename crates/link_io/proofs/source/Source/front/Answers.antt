use Rattle.std.proofs.Common.{sym, ◌∙◌}
use Rattle.link_io.proofs.Sources.{front_open}
use Rattle.link_io.proofs.source.Source.front.Goals as goal

pub returns-then-self-clause-front : goal.returns-then-self-clause-front
returns-then-self-clause-front g c =
    c.window.ensures.window ∙ sym (front_open g.R.InDevice.state c.args.self.now c.if-self.true)
