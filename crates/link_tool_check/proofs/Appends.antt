-- The lines of broken rules that follow one another.
use Rattle.std.proofs.Common.{◌≡◌, Bool, true, not, ◌&&◌, List, [], ◌∷◌, ◌++◌, append-nil, refl}
use Rattle.std.proofs.{Math.Bool.and-true, lemmas.Grind.flat_map-append}
use Rattle.std.proofs.lemmas.List.Folds.{list_all-append}
use Rattle.link_report_broken_rules.specs.declared.line.RuleText.{RuleText}
use Rattle.link_tool_check.specs.Lines.{counts, line_of, lines_of, none_counts}

pub lines_append : (must : Bool) (first second : List RuleText)
    → lines_of must (first ++ second) ≡ lines_of must first ++ lines_of must second
unfolding lines_of
lines_append must first second = flat_map-append (line_of must) first second

pub counts_append : (must : Bool) (first second : List RuleText)
    → none_counts must (first ++ second) ≡ (none_counts must first && none_counts must second)
unfolding none_counts
counts_append must first second = list_all-append (λ line. not (counts must line)) first second

pub no_lines : (must : Bool) → lines_of must [] ≡ []
unfolding lines_of
no_lines must = refl

pub none_count : (must : Bool) → none_counts must [] ≡ true
unfolding none_counts
none_count must = refl

pub one_line : (must : Bool) (broken : RuleText) → lines_of must (broken ∷ []) ≡ line_of must broken
unfolding lines_of
one_line must broken = append-nil (line_of must broken)

pub one_counts : (must : Bool) (broken : RuleText)
    → none_counts must (broken ∷ []) ≡ not (counts must broken)
unfolding none_counts
one_counts must broken = and-true (not (counts must broken))
