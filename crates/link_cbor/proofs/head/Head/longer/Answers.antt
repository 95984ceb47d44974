use Rattle.std.proofs.Common.{arith}
use Rattle.link_cbor.proofs.Fronts.{by_argument}
use Rattle.link_cbor.proofs.head.Head.longer.Goals as goal

pub returns-in-24-clause-front : goal.returns-in-24-clause-front
returns-in-24-clause-front c = grind (arith, by_argument _ 24 c.requires.some c.in-24.is)

pub returns-in-25-clause-front : goal.returns-in-25-clause-front
returns-in-25-clause-front c = grind (arith, by_argument _ 25 c.requires.some c.in-25.is)

pub returns-in-26-clause-front : goal.returns-in-26-clause-front
returns-in-26-clause-front c = grind (arith, by_argument _ 26 c.requires.some c.in-26.is)

pub returns-in-27-clause-front : goal.returns-in-27-clause-front
returns-in-27-clause-front c = grind (arith, by_argument _ 27 c.requires.some c.in-27.is)
