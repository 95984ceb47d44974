use Rattle.std.proofs.Common.{sym}
use Rattle.link_io.proofs.Sources.{held_open, held_closed}
use Rattle.link_io.proofs.Windows.{begins_nothing, begins_take}
use Rattle.link_io.proofs.source.Source.held_ahead.Goals as goal

pub returns-in-Open-clause-held : goal.returns-in-Open-clause-held
returns-in-Open-clause-held g c =
    rw (c.up_to.ensures.first, c.taken.ensures.taken, c.held.ensures.held)
    (sym (held_open c.args.self.now.flow _ _ c.in-Open.is))

pub returns-in-Open-clause-next : goal.returns-in-Open-clause-next
returns-in-Open-clause-next g c =
    rw c.up_to.ensures.first (begins_take _ _ _ c.held.ensures.next)

pub returns-in_default : goal.returns-in_default
returns-in_default g c = record {
  held = sym (held_closed c.args.self.now.flow _ _ c.in_default.not-Open);
  next = begins_nothing _;
}
