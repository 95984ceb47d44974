-- A scan of a bundle that is taken block by block: the bytes taken, and the block that they add.
use Rattle.std.proofs.Common.{◌≡◌, ℕ, suc, ◌+◌, ◌<◌, inl, inr, true, false, List, [], ◌∷◌, ◌++◌, length, take, refl, ⊎_elim, append-nil, length-append, length-take-le, arith}
use Rattle.std.specs.Prelude.{◌⊎◌}
use Rattle.std.proofs.lemmas.{Bool.{cases_lt, lt-ltb, eq-eqb, ne_eqb, and_right}, List.{take-take, take_all}}
use Rattle.std.proofs.Math.Seq.{drop-append_seam}
use Rattle.link_cbor.specs.{PieceLaws.{takes_shortest, taken-idle, taken-nil}, Pieces.taken}
use Rattle.link_bundle.specs.declared.scan.BundleScan.{BundleScan}
use Rattle.link_bundle_blocks.specs.{Blocks.Block, Bundle.{bundle_goes, blocks_in}}
use Rattle.link_bundle.specs.Scan.{HasScanned, Advances, EndsBlockOnlyAtLastByte, ending}
use Rattle.link_bundle.proofs.Endings.{none_sooner}
use Rattle.tcpclkit_c.specs.NextBlock.{goes_in_block, added, TakesToBlockEnd}

-- more bytes are not needed, or a block has ended
stops_of : (seen bytes : List ℕ) (last : List Block) → blocks_in bytes ≡ blocks_in seen ++ last
    → (last ≡ [] → bundle_goes bytes ≡ false) → goes_in_block seen bytes ≡ false
stops_of seen bytes [] adds stops = rw (stops refl)
stops_of seen bytes (block ∷ rest) adds stops =
    let more : length (blocks_in bytes) ≡ length (blocks_in seen) + suc (length rest) =
    rw adds (length-append (blocks_in seen) (block ∷ rest)) in
    and_right (bundle_goes bytes) _ (ne_eqb (length (blocks_in bytes)) (length (blocks_in seen))
    (λ same. omega (arith, more, same)))

-- the blocks that are added
added_are : (seen run : List ℕ) (last : List Block)
    → blocks_in (seen ++ run) ≡ blocks_in seen ++ last → added seen run ≡ last
added_are seen run last adds = rw adds (drop-append_seam (blocks_in seen) last)

-- no bytes add no block
pub none_added : (seen : List ℕ) → added seen [] ≡ []
none_added seen = added_are seen [] [] (simp append-nil)

-- nothing is taken of no bytes, and nothing after the end of the bundle or a fault
none_taken : (seen piece : List ℕ) → (piece ≡ []) ⊎ (bundle_goes seen ≡ false)
    → taken (goes_in_block seen) seen piece ≡ []
none_taken seen piece why =
    ⊎_elim
    (λ none. rw none (taken-nil (goes_in_block seen) seen))
    (λ idle. taken-idle (goes_in_block seen) seen piece (rw idle))
    why

pub takes_none : (scan : BundleScan) (piece : List ℕ)
    → ((seen : List ℕ) → HasScanned scan seen → (piece ≡ []) ⊎ (bundle_goes seen ≡ false))
    → TakesToBlockEnd scan scan piece 0
takes_none scan piece why = record {
  within = omega arith;
  seen = λ seen come. rw (none_taken seen piece (why seen come), append-nil seen) come;
  counts = λ seen come. rw (none_taken seen piece (why seen come));
  adds = λ seen come. rw (none_taken seen piece (why seen come))
      (none_added seen);
}

module _ (old new : BundleScan) (piece : List ℕ) (count : ℕ)
    (advances : Advances old new piece count) (adds : EndsBlockOnlyAtLastByte old new piece count)
    (stops : (seen : List ℕ) → HasScanned old seen → ending new ≡ [] → count < length piece
    → bundle_goes (seen ++ take count piece) ≡ false) where
  front_size : length (take count piece) ≡ count
  front_size = length-take-le count piece advances.within

  goes_in_block-take : (seen : List ℕ) → HasScanned old seen → (fewer : ℕ) → fewer < length (take count piece)
      → goes_in_block seen (seen ++ take fewer (take count piece)) ≡ true
  goes_in_block-take seen come fewer below =
      let less : fewer < count = omega (arith, below, front_size) in
      rw (
        take-take fewer count piece (omega (arith, less)),
        advances.goes seen come fewer less,
        none_sooner old new piece seen count fewer come advances adds less,
      ) (eq-eqb _ _ refl)

  -- the bytes that were taken go up to the end of a block
  block_taken : (seen : List ℕ) → HasScanned old seen
      → take count piece ≡ taken (goes_in_block seen) seen piece
  block_taken seen come =
      (takes_shortest (goes_in_block seen) seen piece (take count piece)).0 (record {
        is_front = rw front_size;
        wanted = goes_in_block-take seen come;
        stops = ⊎_elim
            (λ below. inl (stops_of seen _ _ (adds seen come) (λ none. stops seen come none below)))
            (λ all. inr (take_all count piece all))
            (cases_lt count (length piece));
      })

  pub takes_some : TakesToBlockEnd old new piece count
  takes_some = record {
    within = advances.within;
    seen = λ seen come. rw (← block_taken seen come) (advances.seen seen come);
    counts = λ seen come. rw (← block_taken seen come, front_size);
    adds = λ seen come. rw (lt-ltb 0 count advances.some, ← block_taken seen come)
        (added_are seen (take count piece) (ending new) (adds seen come));
  }
