use Rattle.std.proofs.Common.{◌≡◌, ℕ, ◌-◌, ◌^◌, ◌<◌, ◌≤◌, List, ◌++◌, length, take}
use Rattle.link_rules_shared.specs.{HeadWalk.AreFirstSoughtHeads, declared.heads.WalkStage.TheVariants.Inside}
use Rattle.link_rules_shared.proofs.heads.Found.take_heads.Given as goal

abbrev pub invariant-loop-taken : goal.invariant-loop-taken
invariant-loop-taken l = record {
  within : l.taken ≤ length l.piece;
  found : (seen : List ℕ) → l.offset ≡ length seen
      → length (seen ++ take l.taken l.piece) < 2 ^ 63
      → AreFirstSoughtHeads l.fn.self (Inside 0) seen
      → AreFirstSoughtHeads l.self (Inside 0) (seen ++ take l.taken l.piece);
}

abbrev pub decreases-loop-taken : goal.decreases-loop-taken
decreases-loop-taken l = length l.piece - l.taken
