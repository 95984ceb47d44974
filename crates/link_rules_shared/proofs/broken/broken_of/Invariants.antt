use Rattle.std.proofs.Common.{◌≡◌, ◌≤◌, filter_map, take}
use Rattle.arrayvec.specs.ArrayVec.{array_vec_len}
use Rattle.link_rules_shared.proofs.broken.broken_of.Given as goal

abbrev pub invariant-loop-rule : goal.invariant-loop-rule
invariant-loop-rule g l = record {
  items : l.broken.items ≡ filter_map (λ rule. rule) (take l.rule-index l.judged);
  size : array_vec_len l.broken ≤ l.rule-index;
}
