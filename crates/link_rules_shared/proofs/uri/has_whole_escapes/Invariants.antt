use Rattle.std.proofs.Common.{◌≡◌, drop}
use Rattle.link_rules_shared.specs.Uri.{has_whole_escapes}
use Rattle.link_rules_shared.proofs.uri.has_whole_escapes.Given as goal

abbrev pub invariant-loop-at : goal.invariant-loop-at
invariant-loop-at l = record {
  same : has_whole_escapes l.bytes ≡ has_whole_escapes (drop l.at l.bytes);
}
