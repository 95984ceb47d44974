use Rattle.std.proofs.Common.{◌≡◌, [], take, drop}
use Rattle.link_bundle_rules.specs.Targets.{first_repeated}
use Rattle.link_bundle_rules.proofs.targets.first_repeated.Given as goal

-- no target so far is named before
abbrev pub invariant-loop-at : goal.invariant-loop-at
invariant-loop-at l = record {
  same : first_repeated [] l.targets ≡ first_repeated (take l.at l.targets) (drop l.at l.targets);
}
