-- The lines of broken rules.
use Rattle.std.specs.Prelude.{ℕ, Bool, true, false, not, ◌||◌, List, [], map, flat_map, if◌then◌else◌}
use Rattle.std.specs.List.{list_all}
use Rattle.link_rules_shared.specs.declared.doubt.Doubt.{Doubt}
use Rattle.link_rules_shared.specs.declared.level.{Level.Level, Level.TheVariants.{Must, Should}}
use Rattle.link_report_broken_rules.specs.Line.{rule_line}
use Rattle.link_report_broken_rules.specs.Names.{rule_level}
use Rattle.link_report_broken_rules.specs.declared.{line.RuleText.RuleText, rule.BrokenRule.BrokenRule}

abbrev pub is_must : Level → Bool
is_must Must = true
is_must Should = false

-- Whether a broken rule counts: it has a line, and changes the status. If `must` is set, only rules
-- of that level count.
abbrev pub counts : (must : Bool) → RuleText → Bool
counts must broken = not must || is_must broken.level

-- the line of a broken rule, if it counts
abbrev pub line_of : (must : Bool) → RuleText → List ℕ
line_of must broken =
    if counts must broken then rule_line broken.offset broken.level broken.rule
    else []

-- the lines of some broken rules
unfoldable pub lines_of : (must : Bool) → List RuleText → List ℕ
lines_of must broken = flat_map (line_of must) broken

unfoldable pub none_counts : (must : Bool) → List RuleText → Bool
none_counts must broken = list_all (λ line. not (counts must line)) broken

-- a rule that is broken at this offset, if an unknown part may have changed this much of the bundle
abbrev pub text_of : (offset : ℕ) → Doubt → BrokenRule → RuleText
text_of offset doubt rule =
    record { offset = offset; level = rule_level doubt rule; rule = rule }

-- the same for some rules
abbrev pub at_offset : (offset : ℕ) → Doubt → List BrokenRule → List RuleText
at_offset offset doubt rules = map (text_of offset doubt) rules
