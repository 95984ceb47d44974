use Rattle.std.proofs.Common.{◌≡◌, false}
use Rattle.link_transfer.specs.Cutter.{has_ready_chunk}
use Rattle.bench_cut.proofs.cut.Given as goal

abbrev pub invariant-loop-piece : goal.invariant-loop-piece
invariant-loop-piece l = has_ready_chunk l.cutter ≡ false
