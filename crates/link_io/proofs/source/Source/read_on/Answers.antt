use Rattle.std.proofs.Common.{[], length, ap, arith}
use Rattle.link_io.proofs.Sources.{front_ended, front_failed, hand_front}
use Rattle.link_io.proofs.source.Source.read_on.Goals as goal

-- after the end or a fault, nothing is at hand
pub returns-then-held-gt0-clause-ended : goal.returns-then-held-gt0-clause-ended
returns-then-held-gt0-clause-ended g c = λ ended.
    absurd (omega (arith, c.if-held-gt0.true, ap length c.held_front-held.ensures.front, ap length (front_ended g.R.InDevice.state c.args.self.now ended)))

pub returns-then-held-gt0-clause-failed : goal.returns-then-held-gt0-clause-failed
returns-then-held-gt0-clause-failed g c = λ fault failed.
    absurd (omega (arith, c.if-held-gt0.true, ap length c.held_front-held.ensures.front, ap length (front_failed g.R.InDevice.state c.args.self.now fault failed)))

pub returns-then-held-gt0-clause-over : goal.returns-then-held-gt0-clause-over
returns-then-held-gt0-clause-over g c = λ none.
    absurd (omega (arith, c.take_held.ensures.some, none))

-- the reader holds nothing that may be given, so nothing is at hand
pub returns-in-Open-clause-here : goal.returns-in-Open-clause-here
returns-in-Open-clause-here g c = λ some.
    absurd (omega (arith, some, c.if-held-gt0.false, ap length c.held_front-held.ensures.front, ap length (hand_front g.R.InDevice.state c.args.self.now c.requires)))

pub returns-in-Ended-clause-here : goal.returns-in-Ended-clause-here
returns-in-Ended-clause-here g c = λ some.
    absurd (omega (arith, some, c.if-held-gt0.false, ap length c.held_front-held.ensures.front, ap length (hand_front g.R.InDevice.state c.args.self.now c.requires)))

pub returns-in-Failed-clause-here : goal.returns-in-Failed-clause-here
returns-in-Failed-clause-here g c = λ some.
    absurd (omega (arith, some, c.if-held-gt0.false, ap length c.held_front-held.ensures.front, ap length (hand_front g.R.InDevice.state c.args.self.now c.requires)))
