use Rattle.std.proofs.Common.{length, take, ap, arith, length-take}
use Rattle.link_io.specs.Source.{window_of}
use Rattle.link_wire.proofs.Sessions.{none_left, passed}
use Rattle.link_wire.proofs.session.Session.pass_quiet.Goals as goal

pub returns-clause-gives : goal.returns-clause-gives
returns-clause-gives g c = λ history at.
    let old = c.args.self.now in
    let window = window_of old.source in
    let count = c.quiet-count.result in
    let between = none_left old at.going c.requires in
    let quiet = rw c.window.ensures.window at (c.quiet-count.ensures.quiet (length history)) in
    record {
      given = take count window;
      entries = quiet.entries;
      size = omega (arith, length-take count window, ap length c.window.ensures.window);
      quiet = quiet.quiet;
      passed = passed old history at between _ _ c.give.ensures.takes
          (c.give.ensures.live at.live) between at.going quiet.entries quiet.are;
    }
