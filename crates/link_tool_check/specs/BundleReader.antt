-- Relations: what a reader keeps of the bytes of a bundle.
use Rattle.std.specs.Prelude.{◌≡◌, ◌≤◌, ℕ, suc, Bool, true, false, List, length, Option, Some, None, fold}
use Rattle.link_bundle_blocks.specs.Bundle.{blocks_in}
use Rattle.link_bundle_data_in_pieces.specs.DataReader.{IsDataReaderAt, read_size}
use Rattle.link_bundle_data_in_pieces.specs.Found.{flags_after}
use Rattle.link_rules_shared.specs.HeadWalk.{HasWalked}
use Rattle.link_rules_shared.specs.Prefix.{HasFirstFourBytes}
use Rattle.link_bundle_rules.specs.History.{bundle_of}
use Rattle.link_bundle_rules.specs.BundleFacts.{BundleFacts}
use Rattle.link_bundle_rules.specs.declared.history.BundleHistory.{BundleHistory}
use Rattle.link_tool_check.specs.BundleRules.{BundleOrigin, read_bundle}
use Rattle.link_tool_check.specs.declared.bundle.{BundleReader.BundleReader, Origin.Origin}

-- The history has exactly the blocks of this bundle. The content has at least as many whole blocks,
-- and they set the same flags.
pub record IsBundleHistoryAt (history : BundleHistory) (bundle : BundleFacts) (content : List ℕ)
    : Type 0 where
  -- no long head and a payload of 0 bytes, since a history keeps neither; `rules_of` adds both
  pub same : bundle_of history None 0 ≡ bundle
  pub flags : bundle.primary.flags ≡ fold flags_after 0 (blocks_in content)
  -- the primary block is not among `bundle.blocks`
  pub few : suc (length bundle.blocks) ≤ length (blocks_in content)

-- `begun` is whether the primary block is whole in the content, so that there is a bundle. If it
-- is, `history` has the blocks of this bundle. If not, `history` may be anything.
abbrev pub IsBundleHistoryOnceBegun : (begun : Bool) → BundleHistory → Option BundleFacts
    → (content : List ℕ) → Type 0
IsBundleHistoryOnceBegun false history None content = Unit {0}
IsBundleHistoryOnceBegun false history (Some bundle) content = ⊥
IsBundleHistoryOnceBegun true history None content = ⊥
IsBundleHistoryOnceBegun true history (Some bundle) content =
    IsBundleHistoryAt history bundle content

-- exactly this content of a bundle was read, with the security blocks of `own`
pub record IsBundleReaderAt (own : List ℕ) (now : BundleReader) (content : List ℕ) : Type 0 where
  pub reading : IsDataReaderAt now.data content
  pub history : IsBundleHistoryOnceBegun now.blocks.begun now.blocks.history (read_bundle own content)
      content
  pub walked : HasWalked now.heads content
  pub begins : HasFirstFourBytes now.prefix content

-- how the bundle of a view came
abbrev pub viewed_origin : Origin → BundleOrigin
viewed_origin origin = record {
  offset = origin.offset;
  place = origin.place;
  sender = origin.sender.now;
  has_other_item = origin.has_other_item;
}

-- the number of bytes read of the latest block's data
abbrev pub data_size : BundleReader → ℕ
data_size now = read_size now.data
