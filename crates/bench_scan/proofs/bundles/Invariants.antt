use Rattle.std.proofs.Common.{◌≤◌}
use Rattle.bench_scan.proofs.bundles.Given as goal

abbrev pub invariant-loop-done : goal.invariant-loop-done
invariant-loop-done l = l.whole ≤ l._done
