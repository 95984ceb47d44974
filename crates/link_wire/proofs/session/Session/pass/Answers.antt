use Rattle.std.proofs.Common.{◌≡◌, ◌≤◌, length, take, refl, arith, length-take}
use Rattle.std.proofs.Math.Seq.{take-take}
use Rattle.link_wire.specs.Session.{data_in}
use Rattle.link_io.specs.Source.{front_of}
use Rattle.link_wire.proofs.Sessions.{data_given}
use Rattle.link_wire.proofs.session.Session.pass.Goals as goal

pub returns-clause-gives : goal.returns-clause-gives
returns-clause-gives g c = λ history at.
    let old = c.args.self.now in
    let look = g.R.InDevice.state in
    let front = front_of look old.source in
    let fits : c.args.count ≤ old.left = omega (arith, c.requires, length-take old.left front) in
    let same : take c.args.count (data_in look old) ≡ take c.args.count front = take-take c.args.count old.left front fits in
    let size : length (take c.args.count (data_in look old)) ≡ c.args.count = omega (arith, c.requires, length-take c.args.count (data_in look old)) in
    data_given old _ history (take c.args.count (data_in look old)) at (rw same c.give_front.ensures.takes) (c.give_front.ensures.live at.live) at.going refl (omega (arith, size))
