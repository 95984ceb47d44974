-- The rules that a good bundle breaks (RFC 9171 and RFC 9172), and how strictly each rule is meant.
use Rattle.std.specs.Prelude.{ℕ, Bool, true, false, nat_le, List, [], ◌∷◌, codes, filter_map, Option, if◌then◌else◌}
use Rattle.link_rules_shared.specs.declared.{doubt.Doubt.Doubt, doubt.Doubt.TheVariants.{Nothing, BlockData, WholeBundle}}
use Rattle.link_rules_shared.specs.declared.level.{Level.Level, Level.TheVariants.{Must, Should}}
use Rattle.link_bundle_rules.specs.Extensions.{age, previous_node, previous_node_id, expired, hop_count, hops, block_type, block_data, data_not_read}
use Rattle.link_bundle_rules.specs.Flags.{bundle_flags, anonymous, record_reports, block_reports, block_flags}
use Rattle.link_bundle_rules.specs.Fragments.{fragment, whole_fragment}
use Rattle.link_bundle_rules.specs.BundleFacts.{BundleFacts, has_unknown_block}
use Rattle.link_bundle_rules.specs.Heads.{long_head}
use Rattle.link_bundle_rules.specs.Endpoints.{dtn_name, source_node}
use Rattle.link_bundle_rules.specs.Records.{administrative_record, record_type, report_times, report_empty, report_reason, report_source}
use Rattle.link_bundle_rules.specs.Security.{primary_check, confidential_primary, security_flags, security_context, confidential_flags, confidential_context}
use Rattle.link_bundle_rules.specs.Sources.{if_judged}
use Rattle.link_bundle_rules.specs.Targets.{security_targets, security_twice, integrity_target, confidential_target, shared_target}
use Rattle.link_bundle_rules.specs.declared.rule.BundleRule.{BundleRule}
use Rattle.link_bundle_rules.specs.declared.rule.BundleRule.TheVariants as rule
use Rattle.link_bundle_rules.specs.declared.rule.Endpoint.{Endpoint}
use Rattle.link_bundle_rules.specs.declared.rule.Endpoint.TheVariants as endpoint
use Rattle.link_bundle_rules.specs.declared.source.KnownSource.{KnownSource}

-- The rules for a bundle, in order; `None` for one that it keeps, or that is not judged. A rule
-- within `if_judged` binds the source of the bundle. Any other rule binds the sender of the bundle,
-- or the node that added a security block. The first head too long outside the data of blocks binds
-- the source, and `dtn_name` and `data_not_read` say which of their items do.
abbrev pub judged_bundle_rules : KnownSource → BundleFacts → List (Option BundleRule)
judged_bundle_rules source bundle =
    long_head (record bundle { long_head = if_judged source bundle.long_head })
    ∷ if_judged source (bundle_flags bundle) ∷ if_judged source (primary_check source bundle)
    ∷ if_judged source (anonymous bundle) ∷ if_judged source (record_reports bundle)
    ∷ if_judged source (block_reports bundle) ∷ if_judged source (block_flags bundle)
    ∷ dtn_name source bundle ∷ if_judged source (fragment bundle)
    ∷ if_judged source (whole_fragment bundle) ∷ if_judged source (age bundle)
    ∷ previous_node bundle ∷ if_judged source (hop_count bundle) ∷ confidential_primary bundle
    ∷ hops bundle ∷ block_data bundle ∷ data_not_read source bundle
    ∷ if_judged source (administrative_record bundle) ∷ if_judged source (source_node bundle)
    ∷ previous_node_id bundle ∷ expired bundle ∷ if_judged source (block_type bundle)
    ∷ if_judged source (record_type bundle) ∷ if_judged source (report_times bundle)
    ∷ if_judged source (report_empty bundle) ∷ if_judged source (report_reason bundle)
    ∷ if_judged source (report_source bundle) ∷ security_targets bundle ∷ security_twice bundle
    ∷ security_flags bundle ∷ security_context bundle ∷ integrity_target bundle
    ∷ confidential_target bundle ∷ confidential_flags bundle ∷ confidential_context bundle
    ∷ shared_target bundle ∷ []

-- the rules that a bundle breaks, in order, as far as they are judged
unfoldable pub broken_bundle_rules : KnownSource → BundleFacts → List BundleRule
broken_bundle_rules source bundle = filter_map (λ judged. judged) (judged_bundle_rules source bundle)

-- the name under which `check` reports a rule
unfoldable pub bundle_name_of : BundleRule → List ℕ
bundle_name_of (rule.LongHead byte level) = codes "long-head"
bundle_name_of (rule.BundleFlags flags) = codes "bundle-flags"
bundle_name_of (rule.PrimaryCheck level) = codes "primary-check"
bundle_name_of (rule.Anonymous flags) = codes "anonymous"
bundle_name_of (rule.RecordReports flags) = codes "record-reports"
bundle_name_of (rule.BlockReports block) = codes "block-reports"
bundle_name_of (rule.BlockFlags block flags) = codes "block-flags"
bundle_name_of (rule.DtnName of) = codes "dtn-name"
bundle_name_of (rule.Fragment offset size total level) = codes "fragment"
bundle_name_of (rule.WholeFragment total) = codes "whole-fragment"
bundle_name_of (rule.Age blocks level) = codes "age"
bundle_name_of (rule.PreviousNode blocks) = codes "previous-node"
bundle_name_of (rule.HopCount blocks limit) = codes "hop-count"
bundle_name_of (rule.ConfidentialPrimary block) = codes "confidential-primary"
bundle_name_of (rule.Hops limit count) = codes "hops"
bundle_name_of (rule.BlockData block byte) = codes "block-data"
bundle_name_of (rule.DataNotRead block byte) = codes "data-not-read"
bundle_name_of (rule.Record byte) = codes "record"
bundle_name_of rule.SourceNode = codes "source-node"
bundle_name_of (rule.PreviousNodeId block level) = codes "previous-node-id"
bundle_name_of (rule.Expired lifetime age) = codes "expired"
bundle_name_of (rule.BlockType block type) = codes "block-type"
bundle_name_of (rule.RecordType type) = codes "record-type"
bundle_name_of rule.ReportTimes = codes "report-times"
bundle_name_of rule.ReportEmpty = codes "report-empty"
bundle_name_of (rule.ReportReason reason) = codes "report-reason"
bundle_name_of rule.ReportSource = codes "report-source"
bundle_name_of (rule.SecurityTargets block target level) = codes "security-targets"
bundle_name_of (rule.SecurityTwice block target) = codes "security-twice"
bundle_name_of (rule.SecurityFlags block flags) = codes "security-flags"
bundle_name_of (rule.SecurityContext block context) = codes "security-context"
bundle_name_of (rule.IntegrityTarget block target) = codes "integrity-target"
bundle_name_of (rule.ConfidentialTarget block target) = codes "confidential-target"
bundle_name_of (rule.ConfidentialFlags block flags) = codes "confidential-flags"
bundle_name_of (rule.ConfidentialContext block) = codes "confidential-context"
bundle_name_of (rule.SharedTarget block target) = codes "shared-target"

-- how strictly a rule is meant if nothing is in doubt
unfoldable pub sure_level_of : BundleRule → Level
sure_level_of (rule.LongHead byte level) = level
sure_level_of (rule.BundleFlags flags) = Should
sure_level_of (rule.PrimaryCheck level) = level
sure_level_of (rule.Anonymous flags) = Must
sure_level_of (rule.RecordReports flags) = Must
sure_level_of (rule.BlockReports block) = Must
sure_level_of (rule.BlockFlags block flags) = Should
sure_level_of (rule.DtnName of) = Must
sure_level_of (rule.Fragment offset size total level) = level
sure_level_of (rule.WholeFragment total) = Should
sure_level_of (rule.Age blocks level) = level
sure_level_of (rule.PreviousNode blocks) = Must
sure_level_of (rule.HopCount blocks limit) = Must
sure_level_of (rule.ConfidentialPrimary block) = Must
sure_level_of (rule.Hops limit count) = Should
sure_level_of (rule.BlockData block byte) = Must
sure_level_of (rule.DataNotRead block byte) = Should
sure_level_of (rule.Record byte) = Must
sure_level_of rule.SourceNode = Must
sure_level_of (rule.PreviousNodeId block level) = level
sure_level_of (rule.Expired lifetime age) = Should
sure_level_of (rule.BlockType block type) = Should
sure_level_of (rule.RecordType type) = Should
sure_level_of rule.ReportTimes = Must
sure_level_of rule.ReportEmpty = Should
sure_level_of (rule.ReportReason reason) = Should
sure_level_of rule.ReportSource = Should
sure_level_of (rule.SecurityTargets block target level) = level
sure_level_of (rule.SecurityTwice block target) = Must
sure_level_of (rule.SecurityFlags block flags) = Must
sure_level_of (rule.SecurityContext block context) = Should
sure_level_of (rule.IntegrityTarget block target) = Must
sure_level_of (rule.ConfidentialTarget block target) = Must
sure_level_of (rule.ConfidentialFlags block flags) = Must
sure_level_of (rule.ConfidentialContext block) = Must
sure_level_of (rule.SharedTarget block target) = Should

-- whether an endpoint ID lies in the data of a block
abbrev pub is_in_data : Endpoint → Bool
is_in_data endpoint.Destination = false
is_in_data endpoint.Source = false
is_in_data endpoint.ReportTo = false
is_in_data _ = true

-- Whether a rule is broken by the data of a block. The levels of long-head and fragment say this
-- already. hop-count is broken by the limit, unless there are two blocks.
abbrev pub rests_on_data : BundleRule → Bool
rests_on_data (rule.DtnName of) = is_in_data of
rests_on_data (rule.HopCount blocks limit) = nat_le blocks 1
rests_on_data (rule.ConfidentialPrimary block) = true
rests_on_data (rule.BlockData block byte) = true
rests_on_data (rule.Record byte) = true
rests_on_data (rule.PreviousNodeId block level) = true
rests_on_data rule.ReportTimes = true
rests_on_data (rule.SecurityTargets block target level) = true
rests_on_data (rule.SecurityTwice block target) = true
rests_on_data (rule.SecurityFlags block flags) = true
rests_on_data (rule.IntegrityTarget block target) = true
rests_on_data (rule.ConfidentialTarget block target) = true
rests_on_data (rule.ConfidentialFlags block flags) = true
rests_on_data (rule.ConfidentialContext block) = true
rests_on_data _ = false

-- how strictly a rule is meant, if an unknown part may have changed this much of the bundle
unfoldable pub bundle_level_of : Doubt → BundleRule → Level
bundle_level_of Nothing rule = sure_level_of rule
bundle_level_of BlockData rule = if rests_on_data rule then Should else sure_level_of rule
bundle_level_of WholeBundle rule = Should

-- what a block of an unknown type may have changed in a bundle
abbrev pub doubt_in : BundleFacts → Doubt
doubt_in bundle = if has_unknown_block bundle then BlockData else Nothing
