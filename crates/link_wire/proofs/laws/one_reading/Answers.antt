-- The law is the lemma over lists.
use Rattle.link_wire.proofs.Sound.{one_spelling}
use Rattle.link_wire.proofs.laws.one_reading.Goals as goal

pub returns : goal.returns
returns c = one_spelling c.args.a.now c.args.x.now c.args.m.now c.args.d.now c.args.n.now c.args.e.now
