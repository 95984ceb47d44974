-- Rules of endpoint IDs (RFC 9171 sections 4.2.5.1.1 and 5.2).
use Rattle.std.specs.Prelude.{ℕ, Option, Some, None, option_map, if◌then◌else◌}
use Rattle.std.specs.Option.{option_and_then, option_or}
use Rattle.link_bundle_rules.specs.Hidden.{unless_hidden}
use Rattle.link_bundle_rules.specs.Sources.{if_judged}
use Rattle.link_bundle_rules.specs.BundleFacts.{BundleFacts, find_map}
use Rattle.link_bundle_rules.specs.declared.block.{BlockFacts.BlockFacts, DataFacts.DataFacts}
use Rattle.link_bundle_rules.specs.declared.block.DataFacts.TheVariants as facts
use Rattle.link_bundle_rules.specs.declared.source.KnownSource.{KnownSource}
use Rattle.link_bundle_rules.specs.declared.rule.{BundleRule.BundleRule, Endpoint.Endpoint}
use Rattle.link_bundle_rules.specs.declared.rule.BundleRule.TheVariants.{DtnName, SourceNode}
use Rattle.link_bundle_rules.specs.declared.rule.Endpoint.TheVariants.{PreviousNode, SecuritySource, ReportSource}

-- The endpoint ID in the data of block `number`, if it is a text and no dtn name. A status report
-- binds the source of the bundle, which is a record.
abbrev pub bad_name_in : KnownSource → (number : ℕ) → DataFacts → Option Endpoint
bad_name_in source number (facts.PreviousNode node) =
    if node.has_bad_name then Some (PreviousNode number) else None
bad_name_in source number (facts.Security has_bad_source) =
    if has_bad_source then Some (SecuritySource number) else None
bad_name_in source number (facts.StatusReport report) =
    if report.has_bad_source then if_judged source (Some ReportSource) else None
bad_name_in source number _ = None

-- what `bad_name_in` finds in the data of a block, unless the data may be ciphertext
abbrev pub bad_name_of : KnownSource → BundleFacts → BlockFacts → Option Endpoint
bad_name_of source bundle read =
    option_and_then (λ read. bad_name_in source read.number read.data) (unless_hidden bundle read)

-- dtn-name: an endpoint ID of scheme dtn that is a text is a dtn name (section 4.2.5.1.1). The
-- first one that is no dtn name is reported. The endpoint IDs of the primary block come first,
-- which bind the source, and then the ones in the data of the blocks, in order. A status report is
-- the payload, which is the last block.
unfoldable pub dtn_name : KnownSource → BundleFacts → Option BundleRule
dtn_name source bundle =
    option_map DtnName (option_or (if_judged source bundle.primary.bad_name)
    (find_map (bad_name_of source bundle) bundle.blocks))

-- source-node: the source is a singleton (section 5.2), and so no dtn name whose demux begins with
-- `~`
unfoldable pub source_node : BundleFacts → Option BundleRule
source_node bundle = if bundle.primary.has_group_source then Some SourceNode else None
