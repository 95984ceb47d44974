-- Rules of administrative records and status reports (RFC 9171 section 6.1). The record of a
-- fragment is not read, and one that may be ciphertext is not judged.
use Rattle.std.specs.Prelude.{not, ◌&&◌, ◌||◌, ◌==◌, Option, Some, None, if◌then◌else◌}
use Rattle.std.specs.Option.{option_and_then}
use Rattle.link_bundle_rules.specs.Hidden.{first_readable}
use Rattle.link_bundle_rules.specs.BundleFacts.{BundleFacts, payload}
use Rattle.link_bundle_rules.specs.declared.block.{BlockFacts.BlockFacts, DataFacts.DataFacts, ReportFacts.ReportFacts}
use Rattle.link_bundle_rules.specs.declared.block.DataFacts.TheVariants.{StatusReport, OtherRecord, Malformed}
use Rattle.link_bundle_rules.specs.declared.rule.BundleRule.{BundleRule}
use Rattle.link_bundle_rules.specs.declared.rule.BundleRule.TheVariants as rule

-- The payload block, unless its data may be ciphertext. In a fragment, or without an administrative
-- record, its data is `Nothing`.
abbrev pub record_of : BundleFacts → Option BlockFacts
record_of bundle = first_readable payload bundle

-- The rule that a malformed record breaks. A record that exceeds a limit of this toolkit breaks the
-- rule data-not-read instead.
abbrev pub malformed_record : DataFacts → Option BundleRule
malformed_record (Malformed byte) = Some (rule.Record byte)
malformed_record _ = None

-- record: an administrative record is well formed (sections 6.1 and 6.1.1)
unfoldable pub administrative_record : BundleFacts → Option BundleRule
administrative_record bundle =
    option_and_then (λ read. malformed_record read.data) (record_of bundle)

-- the rule that a record breaks by type 0, which is reserved, or 2, which only version 6 of the
-- protocol has
abbrev pub other_record : DataFacts → Option BundleRule
other_record (OtherRecord type) =
    if (type == 0) || (type == 2) then Some (rule.RecordType type) else None
other_record _ = None

-- record-type: an administrative record has no type that is reserved or only of version 6 (section
-- 6.1). Other documents may define more types.
unfoldable pub record_type : BundleFacts → Option BundleRule
record_type bundle = option_and_then (λ read. other_record read.data) (record_of bundle)

-- ---- status reports

-- what a status report says; `None` for data of another kind
abbrev pub report_in : DataFacts → Option ReportFacts
report_in (StatusReport report) = Some report
report_in _ = None

-- what the status report in the payload says, unless it may be ciphertext
unfoldable pub report_of : BundleFacts → Option ReportFacts
report_of bundle = option_and_then (λ read. report_in read.data) (record_of bundle)

-- the rule that a status report breaks if only some of its asserted statuses have a time
abbrev pub if_mixed_times : ReportFacts → Option BundleRule
if_mixed_times report =
    if report.timed && report.untimed then Some rule.ReportTimes else None

-- report-times: either all asserted statuses have a time, or none has one (section 6.1.1). The
-- bundle that the report is about asks for all times by one flag.
unfoldable pub report_times : BundleFacts → Option BundleRule
report_times bundle = option_and_then if_mixed_times (report_of bundle)

-- the rule that a status report breaks if it asserts no status
abbrev pub if_empty : ReportFacts → Option BundleRule
if_empty report =
    if not report.timed && not report.untimed then Some rule.ReportEmpty else None

-- report-empty: a status report asserts a status (sections 5.1 and 6.1.1)
unfoldable pub report_empty : BundleFacts → Option BundleRule
report_empty bundle = option_and_then if_empty (report_of bundle)

-- the rule that a status report breaks by the reason 255
abbrev pub if_reserved_reason : ReportFacts → Option BundleRule
if_reserved_reason report =
    if report.reason == 255 then Some (rule.ReportReason report.reason) else None

-- report-reason: the reason is not 255, which is reserved (sections 6.1.1 and 9.5). Other documents
-- may define more reasons.
unfoldable pub report_reason : BundleFacts → Option BundleRule
report_reason bundle = option_and_then if_reserved_reason (report_of bundle)

-- the rule that a status report breaks if it is about a bundle without a source
abbrev pub if_no_source : ReportFacts → Option BundleRule
if_no_source report = if report.has_no_source then Some rule.ReportSource else None

-- report-source: a status report is about a bundle with a source, since one without a source
-- requests no reports (sections 4.2.3 and 6.1.1)
unfoldable pub report_source : BundleFacts → Option BundleRule
report_source bundle = option_and_then if_no_source (report_of bundle)
