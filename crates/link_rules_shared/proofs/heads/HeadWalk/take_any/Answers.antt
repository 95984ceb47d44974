use Rattle.std.proofs.Common.{length-drop, arith}
use Rattle.link_cbor.proofs.Joins.{taken_run}
use Rattle.link_rules_shared.specs.HeadWalk.{TakesRun}
use Rattle.link_rules_shared.proofs.Walks.{taken_then}
use Rattle.link_rules_shared.proofs.heads.HeadWalk.take_any.Goals as goal

pub loop-taken-preserved : goal.loop-taken-preserved
loop-taken-preserved c = record {
  within = omega (arith, length-drop c.loop-taken.taken c.args.piece.now);
  taken = taken_run TakesRun taken_then _ _ _ c.args.piece.now c.loop-taken.taken
      c.advance-taken.result c.loop-taken.invariant.taken c.advance-taken.ensures.taken;
}
