use Rattle.link_transfer.specs.Cutter.{held_size}
use Rattle.bench_cut.proofs.take_chunks.Given as goal

abbrev pub decreases-loop-cut : goal.decreases-loop-cut
decreases-loop-cut l = held_size l.cutter
