-- The texts of bundles, when more bytes come.
use Rattle.std.proofs.Common.{◌≡◌, ℕ, suc, ◌+◌, List, [], ◌∷◌, ◌++◌, length, None, Some, Result, Ok, Err, refl, ap, sym, ◌∙◌, append-nil, append_assoc, arith}
use Rattle.link_wire.specs.{Device.Output, declared.IoFault.IoFault}
use Rattle.link_bundle_types.specs.declared.info.BundleInfo.{BundleInfo}
use Rattle.link_report.specs.declared.judgement.Judgement.TheVariants.{Good}
use Rattle.link_report_blocks.specs.Blocks.{end_text}
use Rattle.link_run.specs.{Run.no_texts, Writers.{on_output, AfterWrite}}
use Rattle.link_run.specs.declared.writers.Writers.{Writers}
use Rattle.link_run_over_bundle_files.specs.Bundles.{BundleWithInfo}
use Rattle.link_run_over_bundle_files.specs.Telling.{SoFar, none_yet, between, with_bytes, with_run, WritesRestOfTexts}
use Rattle.link_run_over_bundle_files.proofs.Told.{told_after, told_then, told_part}
use Rattle.link_run_judge.proofs.Counts.{on_ok}
use Rattle.link_tool_blocks.specs.BlockLines.{block_lines}
use Rattle.link_tool_blocks.specs.Bundles.{whole_lines, bundle_lines, bundle_blocks_telling}
use Rattle.link_tool_blocks.specs.LineLaws.{no_lines}

-- one more bundle, which has the number `n`
lines_of_push : (number n : ℕ) (bundles : List BundleWithInfo) (bundle : BundleWithInfo)
    → n ≡ number + length bundles
    → bundle_lines number (bundles ++ bundle ∷ []) ≡ bundle_lines number bundles
    ++ whole_lines n bundle
unfolding bundle_lines
lines_of_push number n [] bundle is =
    let same : n ≡ number = omega arith in
    rw (append-nil, same) refl
lines_of_push number n (first ∷ bundles) bundle is =
    let later = lines_of_push (suc number) n bundles bundle (omega arith) in
    rw (later, append_assoc (whole_lines number first)) refl

-- between two bundles, the lines are those of the whole ones
pub between_lines : (bundles : List BundleWithInfo)
    → bundle_lines 0 bundles ++ block_lines (length bundles) [] ≡ bundle_lines 0 bundles
between_lines bundles = rw (no_lines, append-nil) refl

none_lines : bundle_lines 0 [] ≡ []
unfolding bundle_lines
none_lines = refl

-- nothing is said of no bundle
pub says_none : no_texts ≡ bundle_blocks_telling.texts none_yet
says_none = ap on_output (sym (between_lines [] ∙ none_lines))

-- ---- what is written

module _ (before : SoFar) (run : List ℕ) (number : ℕ)
    (numbered : number ≡ length before.bundles) where
  abbrev front : List ℕ
  front = bundle_lines 0 before.bundles

  abbrev had : List ℕ
  had = block_lines number before.begun

  abbrev due : List ℕ
  due = block_lines number (before.begun ++ run)

  abbrev end : BundleInfo → List ℕ
  end info = end_text number (length (before.begun ++ run)) (Good info)

  abbrev ended : BundleInfo → SoFar
  ended info = with_run before run (Some info)

  all_lines : (info : BundleInfo)
      → bundle_lines 0 (ended info).bundles ++ block_lines (length (ended info).bundles) []
      ≡ (front ++ due) ++ end info
  all_lines info =
      between_lines (ended info).bundles
      ∙ lines_of_push 0 number before.bundles
      (record { bytes = before.begun ++ run; info = info }) (omega arith)
      ∙ sym (append_assoc front due (end info))

  module _ {W E P : Type 0} {out_look : W → Output} {report_look : E → Output}
      {old new : Writers W E} where
    -- the bundle goes on
    pub told_on : {result : Result (Unit {0}) IoFault}
        → WritesRestOfTexts out_look report_look (on_output had) (on_output due) P old new result
        → WritesRestOfTexts out_look report_look (bundle_blocks_telling.texts before)
        (bundle_blocks_telling.texts (with_bytes before run)) P old new result
    told_on told = rw numbered at (told_after told (on_output front))

    -- the bundle is whole, and a writer failed in the lines of its blocks
    pub told_lost : {Q : Type 0} (info : BundleInfo) {fault : IoFault}
        → WritesRestOfTexts out_look report_look (on_output had) (on_output due) P old new (Err fault)
        → WritesRestOfTexts out_look report_look (bundle_blocks_telling.texts before)
        (bundle_blocks_telling.texts (ended info)) Q old new (Err fault)
    told_lost info told =
        rw (all_lines info, ← numbered)
        (told_part (end info) (told_after told (on_output front)))

    -- the bundle is whole, and has the line of its end
    pub told_whole : {Q : Type 0} (info : BundleInfo) {mid : Writers W E} {result : Result (Unit {0}) IoFault}
        → WritesRestOfTexts out_look report_look (on_output had) (on_output due) P old mid (Ok tt)
        → AfterWrite out_look report_look mid new (on_output (end info)) result → Q
        → WritesRestOfTexts out_look report_look (bundle_blocks_telling.texts before)
        (bundle_blocks_telling.texts (ended info)) Q old new result
    told_whole info {result = result} told wrote known =
        rw (all_lines info, ← numbered)
        (told_then (told_after told (on_output front)) (record {
          texts = on_output (end info);
          said = refl;
          wrote = wrote;
          known = on_ok result known;
        }))
