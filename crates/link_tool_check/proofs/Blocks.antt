-- The whole blocks of a bundle, and what a reader keeps of them, when more bytes follow.
use Rattle.std.proofs.Common.{◌≡◌, ℕ, ◌+◌, ◌<◌, Bool, true, false, List, [], ◌∷◌, ◌++◌, length, Option, Some, None, fold, refl, ap, sym, ◌∙◌, length-append, arith}
use Rattle.std.proofs.lemmas.Grind.{fold-append}
use Rattle.link_cbor.specs.declared.check.CheckKind.{CheckKind}
use Rattle.link_bundle_types.specs.declared.info.BundleInfo.{BundleInfo}
use Rattle.link_bundle_blocks.specs.Blocks.{Primary, Block, PrimaryOf, CanonicalOf}
use Rattle.link_bundle_blocks.specs.Bundle.{blocks_in}
use Rattle.link_bundle_blocks.specs.declared.block.CanonicalBlock.{CanonicalBlock}
use Rattle.link_bundle_blocks.proofs.{Few.few_blocks}
use Rattle.link_bundle_data_in_pieces.specs.Found.{flags_after, found_in, long_head_in}
use Rattle.link_bundle_data_in_pieces.proofs.Grown.{no_blocks}
use Rattle.link_rules_shared.specs.Heads.{first_long}
use Rattle.link_bundle_rules.specs.BundleRules.{broken_bundle_rules, doubt_in}
use Rattle.link_bundle_rules.specs.{History.bundle_of, BundleFacts.{BundleFacts, begun, block_facts, with_block}}
use Rattle.link_bundle_rules.specs.declared.{history.BundleHistory.BundleHistory, source.KnownSource.KnownSource}
use Rattle.link_rules_shared.specs.declared.doubt.Doubt.TheVariants.{Nothing, WholeBundle}
use Rattle.link_tool_check.specs.BundleReader.{IsBundleHistoryOnceBegun}
use Rattle.link_tool_check.specs.BundleRules.{bundle_doubt, bundle_rules, doubt_of, read_bundle, rules_of, with_next}
use Rattle.link_tool_check.specs.HistoryLaws.{read_more}

-- ---- no bytes

none_read : (own : List ℕ) → read_bundle own [] ≡ None
unfolding read_bundle
none_read own = ap (fold (with_next own []) None) no_blocks

pub no_history : (own : List ℕ) (history : BundleHistory)
    → IsBundleHistoryOnceBegun false history (read_bundle own []) []
no_history own history = rw (none_read own) tt

-- ---- more bytes

module _ (own content more : List ℕ) where
  flags_more : (new : List Block) → blocks_in (content ++ more) ≡ blocks_in content ++ new
      → fold flags_after 0 (blocks_in (content ++ more))
      ≡ fold flags_after (fold flags_after 0 (blocks_in content)) new
  flags_more new grown = rw grown (fold-append flags_after 0 (blocks_in content) new)

  -- ---- the primary block has ended

  pub history_begins : (history : BundleHistory) (primary : Primary) (check : Option CheckKind)
      (end : ℕ) → blocks_in (content ++ more) ≡ blocks_in content ++ PrimaryOf primary check end ∷ []
      → bundle_of history None 0 ≡ begun primary check
      → IsBundleHistoryOnceBegun true history (read_bundle own (content ++ more)) (content ++ more)
  history_begins history primary check end grown same =
      rw (read_more own content more (PrimaryOf primary check end ∷ []) grown) (record {
        same = same;
        flags = sym (flags_more (PrimaryOf primary check end ∷ []) grown);
        few = omega (
          arith,
          ap length grown,
          length-append (blocks_in content) (PrimaryOf primary check end ∷ []),
        );
      })

  -- ---- a canonical block has ended

  module _ (block : CanonicalBlock)
      (grown : blocks_in (content ++ more) ≡ blocks_in content ++ CanonicalOf block ∷ []) where
    -- the next history has the block too
    abbrev pub AddsToHistory : (old new : BundleHistory) → Type 0
    AddsToHistory old new = length old.blocks.items < 64 → bundle_of new None 0
        ≡ with_block own (bundle_of old None 0) block
        (found_in (fold flags_after 0 (blocks_in (content ++ more))) (content ++ more) block)
        (long_head_in (fold flags_after 0 (blocks_in (content ++ more))) (content ++ more) block)

    adds_by : (begins : Bool) (old new : BundleHistory) (read : Option BundleFacts)
        → IsBundleHistoryOnceBegun begins old read content → AddsToHistory old new
        → IsBundleHistoryOnceBegun begins new
        (with_next own (content ++ more) read (CanonicalOf block)) (content ++ more)
    adds_by false old new None was adds = tt
    adds_by false old new (Some bundle) was adds = absurd was
    adds_by true old new None was adds = absurd was
    adds_by true old new (Some bundle) was adds =
        let now = content ++ more in
        let flags : bundle.primary.flags ≡ fold flags_after 0 (blocks_in now) =
        was.flags ∙ sym (flags_more (CanonicalOf block ∷ []) grown) in
        let one_more : length (blocks_in now) ≡ length (blocks_in content) + 1 =
        ap length grown ∙ length-append (blocks_in content) (CanonicalOf block ∷ []) in
        let here : length old.blocks.items ≡ length bundle.blocks =
        ap (λ (bundle : BundleFacts). length bundle.blocks) was.same in
        let added = adds (omega (arith, few_blocks now, one_more, was.few, here)) in
        record {
          same = added
              ∙ ap (λ (bundle : BundleFacts). with_block own bundle block
              (found_in (fold flags_after 0 (blocks_in now)) now block)
              (long_head_in (fold flags_after 0 (blocks_in now)) now block)) was.same
              ∙ ap (λ (flags : ℕ). with_block own bundle block (found_in flags now block)
              (long_head_in flags now block)) (sym flags);
          flags = flags;
          few = omega (
            arith,
            was.few,
            one_more,
            length-append bundle.blocks
                (block_facts own block (found_in bundle.primary.flags now block)
                (long_head_in bundle.primary.flags now block) ∷ []),
          );
        }

    pub history_adds : (begins : Bool) (old new : BundleHistory)
        → IsBundleHistoryOnceBegun begins old (read_bundle own content) content → AddsToHistory old new
        → IsBundleHistoryOnceBegun begins new (read_bundle own (content ++ more)) (content ++ more)
    history_adds begins old new was adds =
        rw (read_more own content more (CanonicalOf block ∷ []) grown)
        (adds_by begins old new (read_bundle own content) was adds)

-- ---- the rules

module _ (own content : List ℕ) (history : BundleHistory) where
  module _ (source : KnownSource) (info : BundleInfo) where
    none_by : (read : Option BundleFacts) → IsBundleHistoryOnceBegun false history read content
        → rules_of source content info.payload read ≡ []
    none_by None was = refl
    none_by (Some bundle) was = absurd was

    pub rules_none : IsBundleHistoryOnceBegun false history (read_bundle own content) content
        → bundle_rules own source content info ≡ []
    unfolding bundle_rules
    rules_none was = none_by (read_bundle own content) was

    some_by : (read : Option BundleFacts) → IsBundleHistoryOnceBegun true history read content
        → rules_of source content info.payload read
        ≡ broken_bundle_rules source (bundle_of history (first_long content) info.payload)
    some_by None was = absurd was
    some_by (Some bundle) was = rw (← was.same) refl

    pub rules_some : IsBundleHistoryOnceBegun true history (read_bundle own content) content
        → bundle_rules own source content info
        ≡ broken_bundle_rules source (bundle_of history (first_long content) info.payload)
    unfolding bundle_rules
    rules_some was = some_by (read_bundle own content) was

  -- ---- the doubt about them

  no_doubt : (read : Option BundleFacts) → IsBundleHistoryOnceBegun false history read content
      → doubt_of read ≡ Nothing
  no_doubt None was = refl
  no_doubt (Some bundle) was = absurd was

  pub doubt_none : IsBundleHistoryOnceBegun false history (read_bundle own content) content
      → bundle_doubt own false content ≡ Nothing
  unfolding bundle_doubt
  doubt_none was = no_doubt (read_bundle own content) was

  doubt_by : (read : Option BundleFacts) → IsBundleHistoryOnceBegun true history read content
      → doubt_of read ≡ doubt_in (bundle_of history None 0)
  doubt_by None was = absurd was
  doubt_by (Some bundle) was = rw (← was.same) refl

  pub doubt_some : IsBundleHistoryOnceBegun true history (read_bundle own content) content
      → bundle_doubt own false content ≡ doubt_in (bundle_of history None 0)
  unfolding bundle_doubt
  doubt_some was = doubt_by (read_bundle own content) was

pub doubt_all : (own content : List ℕ) → bundle_doubt own true content ≡ WholeBundle
unfolding bundle_doubt
doubt_all own content = refl
