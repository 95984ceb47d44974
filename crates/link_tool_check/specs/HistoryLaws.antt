-- Relations: lemmas on the whole blocks of a bundle, when more bytes follow.
use Rattle.std.proofs.Common.{◌≡◌, ℕ, Bool, true, false, List, [], ◌∷◌, ◌++◌, length, Option, Some, None, fold, All, refl, sym, ◌∙◌, append-nil}
use Rattle.std.proofs.lemmas.Grind.{fold-append}
use Rattle.link_bundle_blocks.specs.Blocks.{Block, PrimaryOf, CanonicalOf, LiesWithin}
use Rattle.link_bundle_blocks.specs.Bundle.{blocks_in}
use Rattle.link_bundle_blocks.proofs.Lying.{BlocksWithin-holds}
use Rattle.link_bundle_data_in_pieces.proofs.Grown.{all_first, all_rest, data_grown}
use Rattle.link_bundle_rules.specs.BundleFacts.{BundleFacts}
use Rattle.link_bundle_rules.specs.declared.history.BundleHistory.{BundleHistory}
use Rattle.link_tool_check.specs.BundleReader.{IsBundleHistoryOnceBegun}
use Rattle.link_tool_check.specs.BundleRules.{read_bundle, with_next}

module _ (own content more : List ℕ) where
  -- a whole block stays as it is
  next_grown : (before : Option BundleFacts) (block : Block) → LiesWithin (length content) block
      → with_next own (content ++ more) before block ≡ with_next own content before block
  next_grown before (PrimaryOf primary check end) within = refl
  next_grown before (CanonicalOf block) within =
      simp (data_grown content more block within.0)

  -- whole blocks stay as they are
  all_grown : (before : Option BundleFacts) (blocks : List Block)
      → All (LiesWithin (length content)) blocks
      → fold (with_next own (content ++ more)) before blocks ≡ fold (with_next own content) before blocks
  all_grown before [] within = refl
  all_grown before (block ∷ rest) within =
      rw (next_grown before block (all_first (LiesWithin (length content)) block rest within))
      (all_grown (with_next own content before block) rest
      (all_rest (LiesWithin (length content)) block rest within))

  -- more bytes add the blocks that they complete
  pub read_more : (new : List Block) → blocks_in (content ++ more) ≡ blocks_in content ++ new
      → read_bundle own (content ++ more) ≡ fold (with_next own (content ++ more)) (read_bundle own content) new
  unfolding read_bundle
  read_more new grown =
      rw (
        grown,
        fold-append (with_next own (content ++ more)) None (blocks_in content) new,
        all_grown None (blocks_in content) (BlocksWithin-holds content),
      ) refl

  -- ---- no block has ended

  -- `more` completes no block, so the history is still one of the bundle `read`
  same_by : (begins : Bool) (history : BundleHistory) (read : Option BundleFacts)
      → blocks_in (content ++ more) ≡ blocks_in content
      → IsBundleHistoryOnceBegun begins history read content
      → IsBundleHistoryOnceBegun begins history read (content ++ more)
  same_by false history None same was = tt
  same_by false history (Some bundle) same was = absurd was
  same_by true history None same was = absurd was
  same_by true history (Some bundle) same was = record {
    same = was.same;
    flags = rw same was.flags;
    few = rw same was.few;
  }

  -- `more` completes no block, so the history is still one of the bundle that was read
  pub history_same : (begins : Bool) (history : BundleHistory)
      → blocks_in (content ++ more) ≡ blocks_in content
      → IsBundleHistoryOnceBegun begins history (read_bundle own content) content
      → IsBundleHistoryOnceBegun begins history (read_bundle own (content ++ more)) (content ++ more)
  history_same begins history same was =
      rw (read_more [] (same ∙ sym (append-nil (blocks_in content))))
      (same_by begins history (read_bundle own content) same was)
