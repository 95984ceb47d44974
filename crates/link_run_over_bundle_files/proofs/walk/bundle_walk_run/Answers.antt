use Rattle.std.proofs.Common.{rules, refl}
use Rattle.link_run_over_bundle_files.proofs.{Dividing.none_open, Outcomes.may_begin}
use Rattle.link_run_over_bundle_files.proofs.walk.bundle_walk_run.Goals as goal

pub new-requires-3-clause-knows : goal.new-requires-3-clause-knows
new-requires-3-clause-knows g c = record {
  nothing = refl;
  unread = search rules;
  source_at = search rules;
  live = search rules;
  holds = record {
    number = search rules;
    reading = record { scanned = search rules; opened = none_open _ };
    known = c.requires.knows;
  };
}

pub new-requires-3-clause-begins : goal.new-requires-3-clause-begins
new-requires-3-clause-begins g c = may_begin _
