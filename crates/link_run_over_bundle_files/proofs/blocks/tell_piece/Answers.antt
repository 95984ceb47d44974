use Rattle.std.proofs.Common.{◌≡◌, ℕ, ◌+◌, ◌⊎◌, inl, inr, true, false, List, [], ◌++◌, length, take, drop, sym, ap, ◌∙◌, subst, ⊎_elim, append-nil, refl, length-append, length-take, length-drop, arith}
use Rattle.std.proofs.lemmas.List.{drop_all, length-take-le, take_rest}
use Rattle.link_cbor.proofs.Joins.{joined_run}
use Rattle.link_bundle_blocks.specs.Bundle.{bundle_goes, blocks_in}
use Rattle.link_bundle_blocks.proofs.Showing.{NoBlocksAfterBundleEnd-holds}
use Rattle.link_bundle.specs.Scan.{HasScanned, HasJudged, ending}
use Rattle.link_bundle.proofs.Pieces.{all_judged}
use Rattle.link_bundle_data_in_pieces.specs.DataReader.{IsDataReaderAt}
use Rattle.link_bundle_data_in_pieces.proofs.Judged.{seen_all, goes_judged, joined_rest, rest_read}
use Rattle.link_run.specs.Writers.{on_output}
use Rattle.link_run_over_bundle_files.specs.Telling.{WritesRestOfTexts}
use Rattle.link_run_over_bundle_files.proofs.Told.{told_none, told_known, told_then, told_part}
use Rattle.link_run_over_bundle_files.proofs.blocks.tell_piece.Given.{Over}
use Rattle.link_run_over_bundle_files.proofs.blocks.tell_piece.Goals as goal
use Rattle.link_run_over_bundle_files.proofs.blocks.tell_piece.Goals.{After-tell_run, After-judge_piece, then-loop-taken-test+else-going, else-loop-taken-test}

-- no byte of the piece was taken
pub loop-taken-init : goal.loop-taken-init
loop-taken-init g c = record {
  within = omega arith;
  scanned = omega arith;
  read = omega arith;
  tells = λ seen same judged reading knows.
      rw append-nil (told_none refl (judged, reading, knows));
}

-- ---- the consumer is told of a run

-- what holds after one more run of the bundle
record ToldRun (g : Over) (c : After-tell_run g) (seen : List ℕ) (all : List ℕ) : Type 0 where
  come : HasScanned c.feed_block-count.new.self all
  tells : WritesRestOfTexts g.W.OutDevice.state g.E.OutDevice.state
      (on_output (g.C.BlockConsumer.says c.args.number seen))
      (on_output (g.C.BlockConsumer.says c.args.number all))
      (IsDataReaderAt c.tell_run.new.reader all
      × g.C.BlockConsumer.knows c.args.options.now c.tell_run.new.consumer all)
      c.args.writers.now c.tell_run.new.writers c.tell_run.result

told : (g : Over) (c : After-tell_run g) (seen : List ℕ) → length seen ≡ c.args.before
    → HasJudged c.args.scan.now seen → IsDataReaderAt c.args.reader.now seen
    → g.C.BlockConsumer.knows c.args.options.now c.args.consumer.now seen
    → ToldRun g c seen
    (seen ++ take (c.loop-taken.taken + c.feed_block-count.result) c.args.piece.now)
told g c seen same judged reading knows =
    let piece = c.args.piece.now in
    let taken = c.loop-taken.taken in
    let kept = c.loop-taken.invariant in
    let bytes = seen ++ take taken piece in
    let run = take c.feed_block-count.result (drop taken piece) in
    let tells = kept.tells seen same judged reading knows in
    let now = tells.known in
    let come = seen_all c.loop-taken.scan bytes now.0 c.if-going.ensures.may_step in
    let goes : bundle_goes bytes ≡ true = sym (c.if-going.ensures.seen bytes come) in
    let size : length bytes ≡ c.args.before + taken =
    omega (arith, same, length-append seen (take taken piece), length-take-le taken piece kept.within) in
    let later : HasScanned c.feed_block-count.new.self (bytes ++ run) =
    rw (take_rest piece taken) at (c.feed_block-count.ensures.taken.seen bytes come) in
    let grown : blocks_in (bytes ++ run) ≡ blocks_in bytes ++ ending c.feed_block-count.new.self =
    rw (take_rest piece taken) at (c.feed_block-count.ensures.blocks bytes come) in
    subst (ToldRun g c seen) (joined_run seen piece taken c.feed_block-count.result) (record {
      come = later;
      tells = told_then tells
          (rw (take_rest piece taken) at
          (c.tell_run.ensures.gives bytes size goes) later grown now.1 now.2);
    })

pub returns-in-Err-clause-gives : goal.returns-in-Err-clause-gives
returns-in-Err-clause-gives g c = λ seen same judged reading knows.
    let piece = c.args.piece.now in
    let count = c.loop-taken.taken + c.feed_block-count.result in
    let told = told g (goal.at-returns-in-Err-clause-gives g c).After-tell_run seen same judged reading knows in
    let grows = g.met.C.BlockConsumer.grows c.args.number (seen ++ take count piece) (drop count piece) in
    rw (← joined_rest seen piece count, grows.is)
    (told_part grows.text (rw c.in-Err.is at told.tells))

pub loop-taken-preserved : goal.loop-taken-preserved
loop-taken-preserved g c =
    let piece = c.args.piece.now in
    let at = (goal.at-loop-taken-preserved g c).After-tell_run in
    let taken = c.feed_block-count.ensures.taken in
    record {
      within = omega (arith, taken.within, length-drop c.loop-taken.taken piece);
      scanned = omega (arith, taken.size, c.loop-taken.invariant.scanned);
      read = omega (
        arith,
        rw (take_rest piece c.loop-taken.taken) at c.tell_run.ensures.read,
        length-take c.feed_block-count.result (drop c.loop-taken.taken piece),
      );
      tells = λ seen same judged reading knows.
          let told = told g at seen same judged reading knows in
          told_known (rw c.in_default.is at told.tells)
          (λ known. (all_judged _ _ told.come, known.0, known.1));
    }

-- ---- no more blocks come

-- the bundle does not go on, or the whole piece was taken
ends : (g : Over) (c : After-judge_piece g) (seen : List ℕ)
    → HasJudged c.loop-taken.scan (seen ++ take c.loop-taken.taken c.args.piece.now)
    → (bundle_goes (seen ++ take c.loop-taken.taken c.args.piece.now) ≡ false)
    ⊎ (drop c.loop-taken.taken c.args.piece.now ≡ [])
ends g c seen judged = elim c.loop-taken-test.branch [
  | then-loop-taken-test+else-going w ↦ inl
      (sym (goes_judged c.loop-taken.scan _ judged)
      ∙ sym (w.going.ensures.seen judged.seen judged.scanned) ∙ w.if-going.false)
  | else-loop-taken-test w ↦ inr (drop_all c.loop-taken.taken c.args.piece.now (omega arith))
]

no_more : (bytes rest : List ℕ) → (bundle_goes bytes ≡ false) ⊎ (rest ≡ [])
    → blocks_in (bytes ++ rest) ≡ blocks_in bytes
no_more bytes rest ends = ⊎_elim
    (λ stops. NoBlocksAfterBundleEnd-holds bytes rest stops)
    (λ none. rw none (ap blocks_in (append-nil bytes)))
    ends

pub returns-clause-gives : goal.returns-clause-gives
returns-clause-gives g c = λ seen same judged reading knows.
    let piece = c.args.piece.now in
    let taken = c.loop-taken.taken in
    let bytes = seen ++ take taken piece in
    let rest = drop taken piece in
    let tells = c.loop-taken.invariant.tells seen same judged reading knows in
    let known = tells.known in
    let ends = ends g (goal.at-returns-clause-gives g c).After-judge_piece seen known.0 in
    let steady = g.met.C.BlockConsumer.steady c.args.number c.args.options.now
    c.loop-taken.consumer bytes rest (no_more bytes rest ends) in
    rw (← joined_rest seen piece taken) (record {
      texts = tells.texts;
      said = tells.said ∙ ap on_output (sym steady.0);
      wrote = tells.wrote;
      known = (
        rw (take_rest piece taken) at (c.judge_piece.ensures.judged bytes known.0),
        rest_read c.loop-taken.reader bytes rest ends known.1,
        steady.1 known.2,
      );
    })
