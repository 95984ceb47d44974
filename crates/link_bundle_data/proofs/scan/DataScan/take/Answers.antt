use Rattle.std.proofs.Common.{length-drop, arith}
use Rattle.link_cbor.proofs.Joins.{taken_run}
use Rattle.link_bundle_data.specs.Scan.{TakesRun}
use Rattle.link_bundle_data.proofs.Steps.{taken_then}
use Rattle.link_bundle_data.proofs.scan.DataScan.take.Goals as goal

pub loop-taken-preserved : goal.loop-taken-preserved
loop-taken-preserved c = record {
  within = omega (arith, length-drop c.loop-taken.taken c.args.piece.now);
  taken = taken_run TakesRun taken_then _ _ _ c.args.piece.now c.loop-taken.taken
      c.advance-taken.result c.loop-taken.invariant.taken c.advance-taken.ensures.taken;
}
