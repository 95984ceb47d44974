-- Rules of flags (RFC 9171).
use Rattle.std.specs.Prelude.{ℕ, Bool, not, ◌&&◌, ◌||◌, ◌==◌, bit_and, Option, Some, None, if◌then◌else◌}
use Rattle.link_rules_shared.specs.Flags.{has_other_flags}
use Rattle.link_bundle_rules.specs.BundleFacts.{BundleFacts, find_map}
use Rattle.link_bundle_rules.specs.declared.block.BlockFacts.{BlockFacts}
use Rattle.link_bundle_rules.specs.declared.primary.PrimaryFacts.{PrimaryFacts}
use Rattle.link_bundle_rules.specs.declared.rule.BundleRule.{BundleRule}
use Rattle.link_bundle_rules.specs.declared.rule.BundleRule.TheVariants as rule

-- ---- bundle processing control flags (section 4.2.3)

-- the payload is an administrative record
abbrev pub record_flag : ℕ
record_flag = 0x000002

-- the bundle must not be fragmented
abbrev pub no_fragments : ℕ
no_fragments = 0x000004

-- the flags that request status reports of reception, forwarding, delivery and deletion
abbrev pub report_requests : ℕ
report_requests = 0x074000

-- All flags of a bundle that are defined. 0x01 marks a fragment, 0x02 marks an administrative
-- record, and 0x04 forbids fragments. 0x20 requests an acknowledgement by the application, 0x40
-- requests times in status reports, and 0x074000 are the requests of status reports.
abbrev pub bundle_flags_defined : ℕ
bundle_flags_defined = 0x074067

-- ---- block processing control flags (section 4.2.4)

-- a status report is requested if the block cannot be processed
abbrev pub block_report : ℕ
block_report = 0x02

-- All flags of a block that are defined. 0x01 copies the block into every fragment. If the block
-- cannot be processed, 0x02 requests a status report, 0x04 deletes the bundle, and 0x10 discards
-- the block.
abbrev pub block_flags_defined : ℕ
block_flags_defined = 0x17

-- ---- the rules

-- whether all bits of `flag` are set
abbrev pub is_set : (flag flags : ℕ) → Bool
is_set flag flags = bit_and flags flag == flag

-- whether some status report is requested
abbrev pub requests_reports : (flags : ℕ) → Bool
requests_reports flags = not (bit_and flags report_requests == 0)

-- bundle-flags: each flag of a bundle is defined (section 4.2.3)
unfoldable pub bundle_flags : BundleFacts → Option BundleRule
bundle_flags bundle =
    let flags = bundle.primary.flags in
    if has_other_flags bundle_flags_defined flags then Some (rule.BundleFlags flags) else None

-- anonymous: a bundle without a source forbids fragments, and requests no status reports (section
-- 4.2.3)
unfoldable pub anonymous : BundleFacts → Option BundleRule
anonymous bundle =
    let flags = bundle.primary.flags in
    if bundle.primary.is_anonymous && (not (is_set no_fragments flags) || requests_reports flags)
    then Some (rule.Anonymous flags)
    else None

-- record-reports: an administrative record requests no status reports (section 4.2.3)
unfoldable pub record_reports : BundleFacts → Option BundleRule
record_reports bundle =
    let flags = bundle.primary.flags in
    if is_set record_flag flags && requests_reports flags
    then Some (rule.RecordReports flags)
    else None

-- whether no block of a bundle may request a status report (section 4.2.4)
abbrev pub forbids_reports : PrimaryFacts → Bool
forbids_reports primary = is_set record_flag primary.flags || primary.is_anonymous

-- the rule that a block breaks if it requests a status report; only for a bundle that forbids this
abbrev pub if_reporting : BlockFacts → Option BundleRule
if_reporting block =
    if is_set block_report block.flags then Some (rule.BlockReports block.number) else None

-- block-reports: no block of an administrative record, or of a bundle without a source, requests a
-- status report (section 4.2.4). The first block that requests one is reported.
unfoldable pub block_reports : BundleFacts → Option BundleRule
block_reports bundle =
    if forbids_reports bundle.primary then find_map if_reporting bundle.blocks else None

-- the rule that a block breaks by a flag that is not defined
abbrev pub if_other_block_flags : BlockFacts → Option BundleRule
if_other_block_flags block =
    if has_other_flags block_flags_defined block.flags
    then Some (rule.BlockFlags block.number block.flags)
    else None

-- block-flags: each flag of a block is defined (section 4.2.4). The first block with another flag
-- is reported.
unfoldable pub block_flags : BundleFacts → Option BundleRule
block_flags bundle = find_map if_other_block_flags bundle.blocks
