-- The blocks among some bytes, and among those bytes with more after them.

use Rattle.std.proofs.Common.{◌≡◌, ℕ, List, ◌++◌, length, None, Result, refl, sym, ap, ◌∙◌, ⊎_elim}
use Rattle.std.proofs.lemmas.{Bool.false≢true, List.append_cancel_left}
use Rattle.std.specs.Prelude.{◌==◌}
use Rattle.link_bundle_blocks.specs.{Blocks.Block, Reading.Stop}
use Rattle.link_bundle_blocks.specs.Bundle.{Bundle, bundle_at, blocks_of, cut_block_of, blocks_in, cut_block_in}
use Rattle.link_bundle_blocks.specs.Laws.{BlocksGrow, NoBlocksAfterBundleEnd, NextBlockIsCutOrLater}
use Rattle.link_bundle_blocks.proofs.{Steady.of_either, Keeping.bundle_at-keeps, Payloads.{judged_as, cut_goes-on}}

pub blocks_judged : (bytes : List ℕ) → blocks_in bytes ≡ blocks_of (bundle_at bytes)
unfolding blocks_in
blocks_judged bytes = judged_as blocks_of bytes (λ bundle.
    of_either (λ (reading : Result Bundle Stop). blocks_of reading ≡ bundle.blocks)
    (bundle.length == length bytes) _ _ refl refl)

cut_judged : (bytes : List ℕ) → cut_block_in bytes ≡ cut_block_of (bundle_at bytes)
unfolding cut_block_in
cut_judged bytes = judged_as cut_block_of bytes (λ bundle.
    of_either (λ (reading : Result Bundle Stop). cut_block_of reading ≡ None)
    (bundle.length == length bytes) _ _ refl refl)

pub BlocksGrow-holds : BlocksGrow
BlocksGrow-holds bytes more =
    let ends = (bundle_at-keeps bytes more).ends in (
      ends.new,
      blocks_judged (bytes ++ more) ∙ ends.grows
          ∙ ap (λ (blocks : List Block). blocks ++ ends.new) (sym (blocks_judged bytes)),
    )

pub NoBlocksAfterBundleEnd-holds : NoBlocksAfterBundleEnd
NoBlocksAfterBundleEnd-holds bytes more stops =
    blocks_judged (bytes ++ more)
    ∙ ⊎_elim (λ cut. absurd (false≢true (sym stops ∙ cut_goes-on bytes cut.0))) (ap blocks_of)
    (bundle_at-keeps bytes more).ends.lasts
    ∙ sym (blocks_judged bytes)

pub NextBlockIsCutOrLater-holds : NextBlockIsCutOrLater
unfolding BlocksGrow-holds
NextBlockIsCutOrLater-holds bytes more new block grown comes =
    let same : new ≡ (bundle_at-keeps bytes more).ends.new =
    append_cancel_left (blocks_in bytes) new _
    (sym grown ∙ (BlocksGrow-holds bytes more).1) in
    rw (cut_judged bytes)
    ((bundle_at-keeps bytes more).ends.placed block
    (rw (same, cut_judged (bytes ++ more)) at comes))
