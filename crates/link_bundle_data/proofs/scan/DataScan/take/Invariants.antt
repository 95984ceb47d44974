use Rattle.std.proofs.Common.{◌-◌, ◌≤◌, length, take}
use Rattle.link_bundle_data.specs.Scan.{TakesRun}
use Rattle.link_bundle_data.proofs.scan.DataScan.take.Given as goal

abbrev pub invariant-loop-taken : goal.invariant-loop-taken
invariant-loop-taken l = record {
  within : l.taken ≤ length l.piece;
  taken : TakesRun l.fn.self l.self (take l.taken l.piece);
}

abbrev pub decreases-loop-taken : goal.decreases-loop-taken
decreases-loop-taken l = length l.piece - l.taken
