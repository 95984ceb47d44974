use Rattle.std.proofs.Common.{◌≡◌, ◌-◌, ◌<◌, length, drop}
use Rattle.link_report_blocks.specs.Fields.{significant}
use Rattle.link_report_blocks.proofs.fields.significant.Given as goal

abbrev pub invariant-loop-first : goal.invariant-loop-first
invariant-loop-first l = record {
  within : l.first < length l.bytes;
  same : significant (drop l.first l.bytes) ≡ significant l.bytes;
}

abbrev pub decreases-loop-first : goal.decreases-loop-first
decreases-loop-first l = length l.bytes - l.first
