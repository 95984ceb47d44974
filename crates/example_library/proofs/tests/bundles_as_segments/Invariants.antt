use Rattle.std.proofs.Common.{◌≡◌, false}
use Rattle.link_transfer.specs.Cutter.{has_ready_chunk}
use Rattle.example_library.proofs.tests.bundles_as_segments.Given as goal

abbrev pub invariant-loop-id : goal.invariant-loop-id
invariant-loop-id g l = has_ready_chunk l.cutter ≡ false
