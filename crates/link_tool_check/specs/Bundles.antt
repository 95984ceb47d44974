-- What `check --bundles` writes for an input: a line for each rule that its bundles break.
use Rattle.std.specs.Prelude.{ℕ, suc, ◌+◌, false, List, [], ◌∷◌, ◌++◌, length}
use Rattle.link_run.specs.Made.{Made, tool_of}
use Rattle.link_run.specs.Run.{Tool}
use Rattle.link_run.specs.Writers.{on_output}
use Rattle.link_run_over_bundle_files.specs.Bundles.{BundleWithInfo, bundle_limit}
use Rattle.link_run_over_bundle_files.specs.Telling.{BundleTelling, told_of}
use Rattle.link_report_broken_rules.specs.declared.line.RuleText.{RuleText}
use Rattle.link_tool_option_types.specs.declared.check.BundleCheckOptions.{BundleCheckOptions}
use Rattle.link_report_broken_rules.specs.declared.rule.BundlePlace.TheVariants as place
use Rattle.link_tool_check.specs.BundleRules.{BundleOrigin, bundle_texts}
use Rattle.link_tool_check.specs.Lines.{lines_of, none_counts}

-- how a bundle with this number and this offset comes in an input of bundles: nobody sent it
abbrev pub input_origin : (number offset : ℕ) → BundleOrigin
input_origin number offset =
    record { offset = offset; place = place.Input number; sender = []; has_other_item = false }

-- the rules that a bundle breaks; `number` is its number, and `offset` its offset in the input
abbrev pub broken_in : (own : List ℕ) → (number offset : ℕ) → BundleWithInfo → List RuleText
broken_in own number offset bundle =
    bundle_texts own (input_origin number offset) bundle.bytes bundle.info

-- the rules that successive bundles break; the number and the offset are those of the first bundle
unfoldable pub broken_bundles : (own : List ℕ) → (number offset : ℕ) → List BundleWithInfo
    → List RuleText
broken_bundles own number offset [] = []
broken_bundles own number offset (bundle ∷ more) =
    broken_in own number offset bundle
    ++ broken_bundles own (suc number) (offset + length bundle.bytes) more

-- What `check --bundles` says of bundles. The first bundle has the number 0 and the offset 0. A
-- bundle has its lines once it is whole. The only line of the report is the line of the fault that
-- stops the run.
abbrev pub bundle_check_telling : BundleCheckOptions → BundleTelling
bundle_check_telling options = record {
  limit = bundle_limit;
  texts = λ now.
      on_output (lines_of options.must (broken_bundles options.own.items 0 0 now.bundles));
  ended = λ bundles.
      on_output (lines_of options.must (broken_bundles options.own.items 0 0 bundles));
  good = λ bundles. none_counts options.must (broken_bundles options.own.items 0 0 bundles);
}

-- what `check --bundles` makes of an input
abbrev pub bundle_check_of : BundleCheckOptions → List ℕ → Made
bundle_check_of options bytes = told_of (bundle_check_telling options) bytes

abbrev pub bundle_check_tool : BundleCheckOptions → Tool
bundle_check_tool options = tool_of (bundle_check_of options)
