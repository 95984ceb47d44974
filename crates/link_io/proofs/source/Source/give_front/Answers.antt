use Rattle.link_io.proofs.Sources.{front_open}
use Rattle.link_io.proofs.source.Source.give_front.Goals as goal

pub give-requires : goal.give-requires
give-requires g c = rw (front_open g.R.InDevice.state c.args.self.now c.if-self.true) at c.requires

pub returns-then-self-clause-takes : goal.returns-then-self-clause-takes
returns-then-self-clause-takes g c =
    rw (front_open g.R.InDevice.state c.args.self.now c.if-self.true) c.give.ensures.takes
