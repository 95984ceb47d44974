use Rattle.std.proofs.Common.{◌-◌, ◌≤◌, Ok}
use Rattle.link_io.specs.Source.{IsLive}
use Rattle.link_wire.specs.{Message.skipped_at, Getting.ReadsPart}
use Rattle.link_wire.proofs.list.skip.Given as goal

-- all but the last `left` bytes have been skipped
abbrev pub invariant-loop-left : goal.invariant-loop-left
invariant-loop-left g l = record {
  within : l.left ≤ l.count;
  passed : IsLive g.R.InDevice.state l.fn.source
      → ReadsPart g.R.InDevice.state (skipped_at (l.count - l.left)) l.fn.source l.source (Ok tt);
}

abbrev pub decreases-loop-left : goal.decreases-loop-left
decreases-loop-left g l = l.left
