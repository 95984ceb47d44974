-- What is kept of bundles and said of them, when more bytes come.
use Rattle.std.proofs.Common.{◌≡◌, ℕ, suc, ◌+◌, Bool, true, ◌&&◌, List, [], ◌∷◌, ◌++◌, length, Result, Err, refl, ap, sym, ◌∙◌, append-nil, append_assoc, arith}
use Rattle.std.proofs.lemmas.List.Sums.{sum_by-cons, sum_by_push}
use Rattle.link_wire.specs.{Device.Output, declared.IoFault.IoFault}
use Rattle.link_bundle_types.specs.declared.info.BundleInfo.{BundleInfo}
use Rattle.link_run_over_bundle_files.specs.Bundles.{BundleWithInfo, size_of}
use Rattle.link_run_over_bundle_files.specs.Telling.{SoFar, none_yet, WritesRestOfTexts}
use Rattle.link_run_over_bundle_files.proofs.Told.{on_ok_by, told_after, told_part}
use Rattle.link_run.specs.{Run.no_texts, Writers.on_output}
use Rattle.link_run.specs.declared.writers.Writers.{Writers}
use Rattle.link_run.proofs.Runs.{texts_as}
use Rattle.link_report_broken_rules.specs.declared.line.RuleText.{RuleText}
use Rattle.link_tool_check.specs.{BundleChecker.{IsBundleCheckerAt, with_end}, BundleReader.IsBundleReaderAt}
use Rattle.link_tool_check.specs.Bundles.{broken_in, broken_bundles, bundle_check_telling}
use Rattle.link_tool_check.specs.{Lines.{lines_of, none_counts}, Writing.WritesRules}
use Rattle.link_tool_option_types.specs.declared.check.BundleCheckOptions.{BundleCheckOptions}
use Rattle.link_tool_check.specs.declared.bundles.BundleChecker.{BundleChecker}
use Rattle.link_tool_check.proofs.Appends.{lines_append, counts_append, no_lines, none_count}

-- ---- one more bundle

no_size : size_of [] ≡ 0
unfolding size_of
no_size = refl

size_cons : (bundle : BundleWithInfo) (bundles : List BundleWithInfo)
    → size_of (bundle ∷ bundles) ≡ length bundle.bytes + size_of bundles
unfolding size_of
size_cons bundle bundles = sum_by-cons (λ (b : BundleWithInfo). length b.bytes) bundle bundles

size_push : (bundles : List BundleWithInfo) (bundle : BundleWithInfo)
    → size_of (bundles ++ bundle ∷ []) ≡ size_of bundles + length bundle.bytes
unfolding size_of
size_push bundles bundle = sum_by_push (λ (b : BundleWithInfo). length b.bytes) bundles bundle

none_broken : (own : List ℕ) → broken_bundles own 0 0 [] ≡ []
unfolding broken_bundles
none_broken own = refl

-- the last of the bundles has the number `last`, and begins at `start`
broken_push : (own : List ℕ) (number offset last start : ℕ) (bundles : List BundleWithInfo) (bundle : BundleWithInfo)
    → last ≡ number + length bundles → start ≡ offset + size_of bundles
    → broken_bundles own number offset (bundles ++ bundle ∷ [])
    ≡ broken_bundles own number offset bundles ++ broken_in own last start bundle
unfolding broken_bundles
broken_push own number offset last start [] bundle numbered begins =
    let number_is : last ≡ number = omega arith in
    let offset_is : start ≡ offset = omega (arith, no_size) in
    rw (append-nil, number_is, offset_is) refl
broken_push own number offset last start (first ∷ bundles) bundle numbered begins =
    let later = broken_push own (suc number) (offset + length first.bytes) last start bundles bundle
    (omega arith) (omega (arith, size_cons first bundles)) in
    rw (later, append_assoc) refl

module _ (options : BundleCheckOptions) (bundles : List BundleWithInfo) (bundle : BundleWithInfo) (number : ℕ)
    (numbered : number ≡ length bundles) where
  abbrev own : List ℕ
  own = options.own.items

  abbrev broken : List RuleText
  broken = broken_in own number (size_of bundles) bundle

  all_broken : broken_bundles own 0 0 (bundles ++ bundle ∷ []) ≡ broken_bundles own 0 0 bundles ++ broken
  all_broken =
      broken_push own 0 0 number (size_of bundles) bundles bundle (omega arith) (omega arith)

  lines_push : lines_of options.must (broken_bundles own 0 0 (bundles ++ bundle ∷ []))
      ≡ lines_of options.must (broken_bundles own 0 0 bundles) ++ lines_of options.must broken
  lines_push = rw (all_broken, lines_append) refl

  counts_push : none_counts options.must (broken_bundles own 0 0 (bundles ++ bundle ∷ []))
      ≡ (none_counts options.must (broken_bundles own 0 0 bundles) && none_counts options.must broken)
  counts_push = rw (all_broken, counts_append) refl

-- ---- what is kept

-- before the first bundle
pub knows_none : (options : BundleCheckOptions) (now : BundleChecker) → now.offset ≡ 0
    → IsBundleReaderAt options.own.items now.bundle [] → now.good ≡ true → IsBundleCheckerAt options now none_yet
knows_none options now offset reading good = record {
  offset = offset ∙ sym no_size;
  reading = reading;
  good = good ∙ sym (ap (none_counts options.must) (none_broken options.own.items) ∙ none_count options.must);
}

pub says_none : (options : BundleCheckOptions) → no_texts ≡ (bundle_check_telling options).texts none_yet
says_none options = ap on_output (sym (ap (lines_of options.must) (none_broken options.own.items) ∙ no_lines options.must))

-- The bundle with this number is whole, and the lines of its rules were written. `was` is whether
-- the bundles before are good.
pub tells_whole : {W E : Type 0} {out_look : W → Output} {report_look : E → Output}
    {old new : Writers W E} {was : Bool} {result : Result (Unit {0}) IoFault}
    (options : BundleCheckOptions) (now : BundleChecker) (before : SoFar) (info : BundleInfo) (number : ℕ)
    → number ≡ length before.bundles
    → was ≡ none_counts options.must (broken_bundles options.own.items 0 0 before.bundles)
    → WritesRules out_look report_look options.must old new was now.good result
    (broken_in options.own.items number (size_of before.bundles) (record { bytes = before.begun; info = info }))
    → now.offset ≡ size_of before.bundles + length before.begun → IsBundleReaderAt options.own.items now.bundle []
    → WritesRestOfTexts out_look report_look ((bundle_check_telling options).texts before)
    ((bundle_check_telling options).texts (with_end before info))
    (IsBundleCheckerAt options now (with_end before info)) old new result
tells_whole {result = result} options now before info number numbered good writes next reading =
    let last : BundleWithInfo = record { bytes = before.begun; info = info } in
    record {
      texts = on_output (lines_of options.must (broken_in options.own.items number (size_of before.bundles) last));
      said = texts_as (sym (lines_push options before.bundles last number numbered)) refl;
      wrote = writes.wrote;
      known = on_ok_by result
          (λ counted. record {
            offset = next ∙ sym (size_push before.bundles last);
            reading = reading;
            good = rw (counts_push options before.bundles last number numbered, ← good) counted;
          })
          writes.counted;
    }

-- ---- more bytes of a bundle

module _ {W E P : Type 0} {out_look : W → Output} {report_look : E → Output}
    {old new : Writers W E} where
  -- nothing was said
  pub tells_on : {result : Result (Unit {0}) IoFault} (said : List ℕ)
      → WritesRestOfTexts out_look report_look no_texts no_texts P old new result
      → WritesRestOfTexts out_look report_look (on_output said) (on_output said) P old new result
  tells_on said told = rw (append-nil said) at (told_after told (on_output said))

  -- a writer failed before the lines of the next bundle
  pub tells_lost : {Q : Type 0} {fault : IoFault} (options : BundleCheckOptions) (bundles : List BundleWithInfo)
      (bundle : BundleWithInfo) → WritesRestOfTexts out_look report_look no_texts no_texts P old new (Err fault)
      → WritesRestOfTexts out_look report_look (on_output (lines_of options.must (broken_bundles options.own.items 0 0 bundles)))
      (on_output (lines_of options.must (broken_bundles options.own.items 0 0 (bundles ++ bundle ∷ [])))) Q old new (Err fault)
  tells_lost options bundles bundle told =
      rw (lines_push options bundles bundle (length bundles) refl) (told_part _ (tells_on _ told))
