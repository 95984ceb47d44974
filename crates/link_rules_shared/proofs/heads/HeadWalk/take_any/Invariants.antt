use Rattle.std.proofs.Common.{◌-◌, ◌≤◌, length, take}
use Rattle.link_rules_shared.specs.HeadWalk.{TakesRun}
use Rattle.link_rules_shared.proofs.heads.HeadWalk.take_any.Given as goal

abbrev pub invariant-loop-taken : goal.invariant-loop-taken
invariant-loop-taken l = record {
  within : l.taken ≤ length l.piece;
  taken : TakesRun l.fn.self l.self (take l.taken l.piece);
}

abbrev pub decreases-loop-taken : goal.decreases-loop-taken
decreases-loop-taken l = length l.piece - l.taken
