-- The words of a block's type: what the data of the block says.

use Rattle.std.specs.Prelude.{ℕ, ◌+◌, List, [], ◌∷◌, ◌++◌, codes, decimal, Option, Some, None, Result, Ok, Err, if◌then◌else◌}
use Rattle.link_bundle_types.specs.declared.eid.Eid.{Eid}
use Rattle.link_bundle_data.specs.BlockData.{BlockData, PreviousNode, BundleAge, HopCount, Security, StatusReport, OtherRecord}
use Rattle.link_bundle_data.specs.declared.values.DataFault.{DataFault}
use Rattle.link_bundle_data.specs.declared.values.Assertion.{Assertion}
use Rattle.link_bundle_data.specs.declared.values.Assertion.TheVariants.{No, Yes, YesAt}
use Rattle.link_bundle_data.specs.declared.values.{Integer.Integer, SecurityBlock.SecurityBlock, Report.Report}
use Rattle.link_report.specs.Eid.{eid_text}
use Rattle.link_report.specs.Reason.{name_in}
use Rattle.link_report.specs.Text.{number_text}
use Rattle.link_report_blocks.specs.Fields.{flags_text}

-- the names of the reasons of status reports, from code 0 on (RFC 9171 section 6.1.1, RFC 9172
-- section 7.1)
abbrev pub report_names : List (List ℕ)
report_names =
    codes "no-additional-information" ∷ codes "lifetime-expired"
    ∷ codes "forwarded-over-unidirectional-link" ∷ codes "transmission-canceled"
    ∷ codes "depleted-storage" ∷ codes "destination-unavailable" ∷ codes "no-known-route"
    ∷ codes "no-timely-contact" ∷ codes "block-unintelligible" ∷ codes "hop-limit-exceeded"
    ∷ codes "traffic-pared" ∷ codes "block-unsupported" ∷ codes "missing-security-operation"
    ∷ codes "unknown-security-operation" ∷ codes "unexpected-security-operation"
    ∷ codes "failed-security-operation" ∷ codes "conflicting-security-operation" ∷ []

-- an integer in decimal; a negative one is -1 - argument
unfoldable pub integer_text : Integer → List ℕ
integer_text number =
    if number.negative then codes "-" ++ decimal (number.argument + 1) else decimal number.argument

-- the security context of a security block (RFC 9172 section 3.6): its ID and its flags
unfoldable pub context_text : SecurityBlock → List ℕ
context_text block =
    codes " context=" ++ integer_text block.context
    ++ codes " context-flags=" ++ flags_text block.flags

-- a status: not asserted, asserted, or asserted at a time
unfoldable pub assertion_text : Assertion → List ℕ
assertion_text No = codes "no"
assertion_text Yes = codes "yes"
assertion_text (YesAt time) = decimal time

-- the statuses of a status report, and the code and the name of its reason (RFC 9171 section 6.1.1)
unfoldable pub statuses_text : Report → List ℕ
statuses_text report =
    codes " received=" ++ assertion_text report.received
    ++ codes " forwarded=" ++ assertion_text report.forwarded
    ++ codes " delivered=" ++ assertion_text report.delivered
    ++ codes " deleted=" ++ assertion_text report.deleted
    ++ number_text (codes " reason=") report.reason ++ codes "/" ++ name_in report_names report.reason

-- If a status report is about a fragment, the offset and the length of the fragment's payload. For
-- a report on a whole bundle, nothing.
unfoldable pub subject_fragment : Option (ℕ × ℕ) → List ℕ
subject_fragment None = []
subject_fragment (Some (offset, size)) =
    number_text (codes " of-fragment=") offset ++ number_text (codes "+") size

-- the bundle that a status report is about
unfoldable pub subject_text : Report → Eid → List ℕ
subject_text report source =
    codes " of-source=" ++ eid_text source ++ number_text (codes " of-time=") report.time
    ++ number_text (codes " of-sequence=") report.sequence ++ subject_fragment report.fragment

-- The words for what the data of a block says. Of the targets of a security block, they only say
-- how many there are.
unfoldable pub data_text : BlockData → List ℕ
data_text (PreviousNode node) = codes " node=" ++ eid_text node
data_text (BundleAge age) = number_text (codes " age=") age
data_text (HopCount limit count) =
    number_text (codes " limit=") limit ++ number_text (codes " count=") count
data_text (Security block targets source) =
    number_text (codes " targets=") block.targets ++ context_text block
    ++ codes " source=" ++ eid_text source
data_text (StatusReport report source) =
    codes " record=1/status-report" ++ statuses_text report ++ subject_text report source
data_text (OtherRecord type) = number_text (codes " record=") type ++ codes "/?"

-- The words of a block whose data begins at an offset in its bundle. There are none if its data is
-- not read. If its data is malformed, the words have the offset in the bundle at which it fails.
unfoldable pub words_text : ℕ → Option (Result BlockData DataFault) → List ℕ
words_text data_start None = []
words_text data_start (Some (Ok found)) = data_text found
words_text data_start (Some (Err fault)) =
    number_text (codes " malformed-at=") (data_start + fault.offset)
