use Rattle.std.proofs.Common.{◌+◌, ◌*◌, ◌≤◌}
use Rattle.link_bundle.specs.Scan.{scan_size}
use Rattle.bench_scan.proofs.scanned.Given as goal

abbrev pub invariant-loop-done : goal.invariant-loop-done
invariant-loop-done l = scan_size l.scan ≤ 32 + 4096 * l._done
