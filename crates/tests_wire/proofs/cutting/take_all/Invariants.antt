use Rattle.link_transfer.specs.Cutter.{held_size}
use Rattle.tests_wire.proofs.cutting.take_all.Given as goal

abbrev pub decreases-loop-cut : goal.decreases-loop-cut
decreases-loop-cut g l = held_size l.cutter
