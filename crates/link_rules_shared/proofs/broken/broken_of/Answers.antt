use Rattle.std.proofs.Common.{arith}
use Rattle.std.proofs.lemmas.{Grind.common_steps, List.Elements.filter_map-append}
use Rattle.link_rules_shared.proofs.broken.broken_of.Goals.{in-Some, in_default}
use Rattle.link_rules_shared.proofs.broken.broken_of.Goals as goal

pub loop-rule-preserved : goal.loop-rule-preserved
loop-rule-preserved g c = elim c.match-rule.branch [
  | in-Some w ↦ grind (arith, common_steps, filter_map-append)
  | in_default w ↦ grind (arith, common_steps, filter_map-append)
]
