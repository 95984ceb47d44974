use Rattle.std.proofs.Common.{◌≡◌, false}
use Rattle.link_transfer.specs.Cutter.{has_ready_chunk}
use Rattle.tests_wire.proofs.cutting.push_bytes.Given as goal

abbrev pub invariant-loop-index : goal.invariant-loop-index
invariant-loop-index g l = has_ready_chunk l.cutter ≡ false
