use Rattle.link_transfer.specs.{Cutting.Cutting, Cutter.{IsCutterAt, held_size}}
use Rattle.link_tool_pack.proofs.Sending.{Sent}
use Rattle.link_tool_pack.proofs.segments.write_segments.Given as goal

-- some of the segments that were left are written, and the others are still left
abbrev pub invariant-loop-cut : goal.invariant-loop-cut
invariant-loop-cut g l = (so_far : Cutting) → IsCutterAt l.fn.cutter so_far
    → Sent g.W.OutDevice.state g.E.OutDevice.state l.id so_far l.fn.writers l.writers l.cutter

abbrev pub decreases-loop-cut : goal.decreases-loop-cut
decreases-loop-cut g l = held_size l.cutter
