use Rattle.std.proofs.Common.{◌≡◌, ◌-◌, ◌≤◌, false, length}
use Rattle.link_transfer.specs.Cutter.{has_ready_chunk, held_size}
use Rattle.example_library.proofs.cutting.put_transfer.Given as goal

abbrev pub invariant-loop-taken : goal.invariant-loop-taken
invariant-loop-taken l = (has_ready_chunk l.cutter ≡ false) × (l.taken ≤ length l.bundle)

abbrev pub decreases-loop-taken : goal.decreases-loop-taken
decreases-loop-taken l = length l.bundle - l.taken

abbrev pub invariant-loop-cut : goal.invariant-loop-cut
invariant-loop-cut l = l.taken ≤ length l.bundle

abbrev pub decreases-loop-cut : goal.decreases-loop-cut
decreases-loop-cut l = held_size l.cutter
