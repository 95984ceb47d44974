use Rattle.std.proofs.Common.{◌-◌, ◌≤◌, length}
use Rattle.link_wire.proofs.Wholes.{BeginQuiet}
use Rattle.link_wire.proofs.quiet.quiet.Given as goal

-- the bytes before `at` are quiet messages, and so are those before `next` if the window has them
abbrev pub invariant-loop-next : goal.invariant-loop-next
invariant-loop-next l = record {
  at : BeginQuiet l.window l.at;
  next : l.next ≤ length l.window → BeginQuiet l.window l.next;
}

abbrev pub decreases-loop-next : goal.decreases-loop-next
decreases-loop-next l = length l.window - l.next
