use Rattle.std.proofs.Common.{◌≡◌, length}
use Rattle.bench_cut.proofs.copy.Given as goal

abbrev pub invariant-loop-segment : goal.invariant-loop-segment
invariant-loop-segment l = length l.buffer.items ≡ 65536
