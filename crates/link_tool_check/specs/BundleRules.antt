-- The rules that a bundle breaks (RFC 9171), by its bytes. If `own` is not empty, it is the node ID
-- of the node whose bundles and security blocks are judged.
use Rattle.std.specs.Prelude.{ℕ, Bool, List, [], Option, Some, None, option_map, fold, map, if◌then◌else◌}
use Rattle.link_bundle_types.specs.declared.info.BundleInfo.{BundleInfo}
use Rattle.link_bundle_blocks.specs.Blocks.{Block, PrimaryOf, CanonicalOf}
use Rattle.link_bundle_blocks.specs.Bundle.{blocks_in}
use Rattle.link_bundle_data_in_pieces.specs.Found.{found_in, long_head_in}
use Rattle.link_rules_shared.specs.Heads.{first_long}
use Rattle.link_rules_shared.specs.declared.doubt.{Doubt.Doubt, Doubt.TheVariants.{Nothing, WholeBundle}}
use Rattle.link_bundle_rules.specs.BundleRules.{broken_bundle_rules, doubt_in}
use Rattle.link_bundle_rules.specs.BundleFacts.{BundleFacts, begun, with_block}
use Rattle.link_bundle_rules.specs.Sources.{known_source_of}
use Rattle.link_bundle_rules.specs.declared.{rule.BundleRule.BundleRule, source.KnownSource.KnownSource}
use Rattle.link_report_broken_rules.specs.declared.{line.RuleText.RuleText, rule.BundlePlace.BundlePlace}
use Rattle.link_report_broken_rules.specs.declared.rule.BrokenRule.TheVariants.{Bundle}
use Rattle.link_tool_check.specs.Lines.{at_offset}

-- The bundle with one more block, whose data lies in the content. The primary block begins the
-- bundle. A block before the primary block changes nothing, since there is no bundle yet.
abbrev pub with_next : (own content : List ℕ) → Option BundleFacts → Block → Option BundleFacts
with_next own content before (PrimaryOf primary check end) = Some (begun primary check)
with_next own content before (CanonicalOf block) = option_map
    (λ bundle. with_block own bundle block (found_in bundle.primary.flags content block)
    (long_head_in bundle.primary.flags content block))
    before

-- the whole blocks of a bundle, with what their data says; `None` before the primary block is whole
unfoldable pub read_bundle : (own content : List ℕ) → Option BundleFacts
read_bundle own content = fold (with_next own content) None (blocks_in content)

-- the rules that these blocks break; without a primary block, none
abbrev pub rules_of : KnownSource → (content : List ℕ) → (payload_length : ℕ) → Option BundleFacts
    → List BundleRule
rules_of source content payload_length None = []
rules_of source content payload_length (Some bundle) = broken_bundle_rules source
    (record bundle { long_head = first_long content; payload_length = payload_length })

-- the rules that a good bundle breaks; `info` has its fields
unfoldable pub bundle_rules : (own : List ℕ) → KnownSource → (content : List ℕ)
    → (info : BundleInfo) → List BundleRule
bundle_rules own source content info =
    rules_of source content info.payload (read_bundle own content)

-- what an unknown block may have changed in these blocks
abbrev pub doubt_of : Option BundleFacts → Doubt
doubt_of None = Nothing
doubt_of (Some bundle) = doubt_in bundle

-- What may have changed in a good bundle. `has_other_item` is whether the transfer that carries the
-- bundle has an extension item of an unknown type.
unfoldable pub bundle_doubt : (own : List ℕ) → (has_other_item : Bool) → (content : List ℕ) → Doubt
bundle_doubt own has_other_item content =
    if has_other_item then WholeBundle else doubt_of (read_bundle own content)

-- where a good bundle is, and how it came
pub record BundleOrigin : Type 0 where
  -- the offset that its lines have
  pub offset : ℕ
  pub place : BundlePlace
  -- the node ID of the entity that sent it; empty if it is not known
  pub sender : List ℕ
  pub has_other_item : Bool

-- the rules that a good bundle breaks, with their levels
abbrev pub bundle_texts : (own : List ℕ) → BundleOrigin → (content : List ℕ) → (info : BundleInfo)
    → List RuleText
bundle_texts own origin content info =
    at_offset origin.offset (bundle_doubt own origin.has_other_item content)
    (map (λ rule. Bundle origin.place rule)
    (bundle_rules own (known_source_of own origin.sender info.source) content info))
