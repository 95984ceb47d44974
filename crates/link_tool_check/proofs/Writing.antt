-- Lines of broken rules, written one after another.
use Rattle.std.proofs.Common.{◌≡◌, ℕ, ◌+◌, ◌<◌, Bool, ◌&&◌, not, List, [], ◌∷◌, ◌++◌, length, map, take, Result, Ok, Err, sym, subst, arith}
use Rattle.std.specs.Prelude.{slice_index_or}
use Rattle.std.proofs.Math.Bool.{and-true, and_assoc}
use Rattle.std.proofs.lemmas.List.{map-append, map_more, take-append-drop}
use Rattle.link_wire.specs.{Device.Output, declared.IoFault.IoFault}
use Rattle.link_run.specs.{Writers.{AfterWrite, on_output}, declared.writers.Writers.Writers}
use Rattle.link_run.proofs.Runs.{outputs_then, part_of_more, writes_none}
use Rattle.link_run.specs.Run.{Texts, no_texts}
use Rattle.link_run_over_bundle_files.specs.Telling.{WritesRestOfTexts}
use Rattle.link_run_over_bundle_files.proofs.Told.{on_ok_by}
use Rattle.link_run_judge.proofs.Counts.{on_ok}
use Rattle.link_rules_shared.specs.declared.doubt.Doubt.{Doubt}
use Rattle.link_report_broken_rules.specs.declared.{line.RuleText.RuleText, rule.BrokenRule.BrokenRule}
use Rattle.link_tool_check.specs.Lines.{at_offset, counts, line_of, lines_of, text_of}
use Rattle.link_tool_check.specs.Writing.{WritesRules}
use Rattle.link_tool_check.proofs.Appends.{counts_append, lines_append, no_lines, none_count, one_counts, one_line}

-- the first of some rules that are broken at an offset
abbrev first_rules : {A : Type 0} → (A → BrokenRule) → (offset : ℕ) → Doubt → List A
    → (count : ℕ) → List RuleText
first_rules f offset doubt rules count = at_offset offset doubt (map f (take count rules))

module _ {W E : Type 0} {out_look : W → Output} {report_look : E → Output} {must : Bool} where
  pub none_written : {writers : Writers W E} {good : Bool} {done : Unit {0}}
      → WritesRules out_look report_look must writers writers good good (Ok done) []
  none_written {writers} {good} = record {
    wrote = rw (no_lines must) (writes_none out_look report_look writers);
    counted = rw none_count (sym (and-true good));
  }

  -- nothing was to be written
  pub quiet_written : {P : Type 0} {old new : Writers W E} {good : Bool}
      {result : Result (Unit {0}) IoFault}
      → WritesRestOfTexts out_look report_look no_texts no_texts P old new result
      → WritesRules out_look report_look must old new good good result []
  quiet_written {old = old} {new = new} {good = good} {result = result} told = record {
    wrote = rw (no_lines must) (subst
        (λ (texts : Texts). AfterWrite out_look report_look old new texts result)
        told.said told.wrote);
    counted = on_ok result (rw none_count (sym (and-true good)));
  }

  pub one_written : {old new : Writers W E} {was good : Bool} {result : Result (Unit {0}) IoFault}
      (broken : RuleText)
      → AfterWrite out_look report_look old new (on_output (line_of must broken)) result
      → good ≡ (was && not (counts must broken))
      → WritesRules out_look report_look must old new was good result (broken ∷ [])
  one_written {result = result} broken wrote counted = record {
    wrote = rw (one_line must broken) wrote;
    counted = on_ok result (rw one_counts counted);
  }

  -- some rules, and then more
  pub then_written : {old mid new : Writers W E} {was half good : Bool} {done : Unit {0}}
      {result : Result (Unit {0}) IoFault} (first more : List RuleText)
      → WritesRules out_look report_look must old mid was half (Ok done) first
      → WritesRules out_look report_look must mid new half good result more
      → WritesRules out_look report_look must old new was good result (first ++ more)
  then_written {old} {mid} {new} {was} {half} {good} {done} {result} first more one two = record {
    wrote = rw (lines_append must first more)
        (outputs_then out_look report_look old mid new (lines_of must first) (lines_of must more)
        result one.wrote two.wrote);
    counted = on_ok_by result
        (λ later. rw (counts_append must first more, ← and_assoc was, ← one.counted) later)
        two.counted;
  }

  -- a writer failed within the first rules
  pub part_written : {old new : Writers W E} {was good other : Bool} {fault : IoFault}
      (first more : List RuleText)
      → WritesRules out_look report_look must old new was good (Err fault) first
      → WritesRules out_look report_look must old new was other (Err fault) (first ++ more)
  part_written {old} {new} {fault = fault} first more one = record {
    wrote = rw (lines_append must first more)
        (part_of_more out_look report_look old new (on_output (lines_of must first))
        (on_output (lines_of must more)) fault (λ some. absurd (omega (arith, some))) one.wrote);
    counted = tt;
  }

  -- ---- the rules of a list, one after another

  module _ {A : Type 0} (f : A → BrokenRule) (offset : ℕ) (doubt : Doubt) (rules : List A) where
    -- the next rule was written
    pub next_written : {old mid new : Writers W E} {was half good : Bool}
        {result : Result (Unit {0}) IoFault} (index : ℕ) (rule : A) → index < length rules
        → rule ≡ slice_index_or rules index rule
        → WritesRules out_look report_look must old mid was half (Ok tt)
        (first_rules f offset doubt rules index)
        → AfterWrite out_look report_look mid new
        (on_output (line_of must (text_of offset doubt (f rule)))) result
        → good ≡ (half && not (counts must (text_of offset doubt (f rule))))
        → WritesRules out_look report_look must old new was good result
        (first_rules f offset doubt rules (index + 1))
    next_written index rule less is before wrote counted =
        rw (map_more f rules index rule less, ← is, map-append)
        (then_written (first_rules f offset doubt rules index) _ before (one_written _ wrote counted))

    -- a writer failed within the first of the rules
    pub lost_within : {old new : Writers W E} {was good other : Bool} {fault : IoFault} (count : ℕ)
        → WritesRules out_look report_look must old new was good (Err fault)
        (first_rules f offset doubt rules count)
        → WritesRules out_look report_look must old new was other (Err fault)
        (at_offset offset doubt (map f rules))
    lost_within count first =
        rw (← take-append-drop count rules, map-append, map-append)
        (part_written (first_rules f offset doubt rules count) _ first)
