-- Relations: what is due after a head, by the values of the heads so far. These definitions join
-- the code to `Left`. The promises need none of them.

use Rattle.std.specs.Prelude.{ℕ, ◌-◌, ◌==◌, nat_lt, Bool, true, false, List, [], ◌∷◌, ◌++◌, length, Option, Some, None, ◌||◌, Result, Ok, Err, if◌then◌else◌}
use Rattle.link_cbor.specs.declared.head.Head.{Head as HeadItem}
use Rattle.link_bundle_types.specs.declared.eid.{Eid.Eid, Eid.TheVariants.{DtnNone, Dtn}}
use Rattle.link_bundle_types.specs.declared.fault.BundleFault.{BundleFault}
use Rattle.link_bundle_types.specs.KeptEid.{name_of}
use Rattle.link_bundle_heads.specs.declared.endpoint.Scheme.{Scheme}
use Rattle.link_bundle_heads.specs.declared.endpoint.Scheme.TheVariants as scheme_
use Rattle.link_bundle_heads.specs.Rows.{◌>>=◌, unsigned, array, pair, scheme, dtn_part, ipn_part}
use Rattle.link_bundle_data.specs.declared.kind.DataKind.{DataKind}
use Rattle.link_bundle_data.specs.declared.kind.DataKind.TheVariants as kind
use Rattle.link_bundle_data.specs.declared.values.Assertion.{Assertion}
use Rattle.link_bundle_data.specs.declared.values.Assertion.TheVariants.{No, Yes, YesAt}
use Rattle.link_bundle_data.specs.declared.{values.Integer.Integer, due.Owner.Owner}
use Rattle.link_bundle_data.specs.declared.due.Owner.TheVariants as owner
use Rattle.link_bundle_data.specs.declared.due.Status.{Status}
use Rattle.link_bundle_data.specs.declared.due.Status.TheVariants as status
use Rattle.link_bundle_data.specs.declared.due.Number.{Number}
use Rattle.link_bundle_data.specs.declared.due.Number.TheVariants as number
use Rattle.link_bundle_data.specs.declared.due.Pair.{Pair}
use Rattle.link_bundle_data.specs.declared.due.Pair.TheVariants as pair_
use Rattle.link_bundle_data.specs.declared.due.Due.{Due}
use Rattle.link_bundle_data.specs.declared.due.Due.TheVariants as due
use Rattle.link_bundle_data.specs.declared.due.Found.TheVariants as found
use Rattle.link_bundle_data.specs.declared.due.DataStage.{DataStage}
use Rattle.link_bundle_data.specs.declared.due.DataStage.TheVariants.{Head, Name, Read}
use Rattle.link_bundle_data.specs.declared.draft.Draft.{Draft}
use Rattle.link_bundle_data.specs.BlockData.{is_timed, is_untimed}
use Rattle.link_bundle_data.specs.DataRows.{integer, assertion, four_or_six, four_or_more, one_or_two}
use Rattle.link_bundle_data.specs.EidLeft.{numbered}

-- the first head of data of this kind
abbrev pub first_due : DataKind → Due
first_due kind.PreviousNode = due.Pair (pair_.Eid owner.PreviousNode)
first_due kind.BundleAge = due.Number number.Age
first_due kind.HopCount = due.Pair pair_.HopCount
first_due kind.Security = due.Targets
first_due kind.Record = due.Pair pair_.Record

-- the stage after the endpoint ID
abbrev pub after_eid : Owner → DataStage
after_eid owner.PreviousNode = Read found.PreviousNode
after_eid owner.Security = Read found.Security
after_eid owner.Report = Head (due.Pair pair_.Timestamp)

-- the stage in a dtn name with `left` more bytes, or after the endpoint ID if there are none
abbrev pub name_due : Owner → ℕ → DataStage
name_due owner left = if left == 0 then after_eid owner else Name owner left

-- the stage after the type code of an administrative record: only a status report is read further
abbrev pub after_type : ℕ → DataStage
after_type type = if type == 1 then Head due.Report else Read (found.OtherRecord type)

-- the head of the specific part in this scheme
abbrev pub specific : Owner → Scheme → Due
specific owner scheme_.Dtn = due.DtnPart owner
specific owner scheme_.Ipn = due.IpnPart owner

-- the first number of an ipn endpoint ID with `count` numbers, two or three
abbrev pub first_number : Owner → ℕ → Due
first_number owner count =
    if count == 3 then due.Number (number.Allocator owner) else due.Number (number.Node owner None)

-- the head that is due when `left` more status assertions follow, of which none is kept
abbrev pub others_due : ℕ → Due
others_due left =
    if left == 0 then due.Number number.Reason else due.Assertion (status.Other (left - 1))

-- the head that is due when `left` targets of a security block are left
abbrev pub targets_due : ℕ → Due
targets_due left = if left == 0 then due.ContextId else due.Number (number.Target (left - 1))

-- the head after the assertion about a status; `others` assertions follow the first four
abbrev pub after_status : Status → ℕ → Due
after_status status.Received others = due.Assertion status.Forwarded
after_status status.Forwarded others = due.Assertion status.Delivered
after_status status.Delivered others = due.Assertion status.Deleted
after_status status.Deleted others = others_due others
after_status (status.Other left) others = others_due left

-- the head of the first element of an array of two
abbrev pub first_of : Pair → Due
first_of (pair_.Eid owner) = due.Scheme owner
first_of pair_.HopCount = due.Number number.HopLimit
first_of pair_.Record = due.Number number.RecordType
first_of pair_.Timestamp = due.Number number.CreationTime

-- the fields that a head sets

-- the draft before the first assertion, if `others` assertions follow the first four
abbrev pub with_others : ℕ → Draft → Draft
with_others others draft =
    record draft { others = others; report = record draft.report { timed = false; untimed = false } }

-- The draft after one more assertion. It keeps whether a status was asserted with a time, and
-- whether one was asserted without a time.
abbrev pub with_times : Draft → Assertion → Draft
with_times draft assertion =
    record draft {
      report = record draft.report {
        timed = draft.report.timed || is_timed assertion;
        untimed = draft.report.untimed || is_untimed assertion;
      };
    }

-- the draft after the assertion about a status; of assertions after the first four, only `timed`
-- and `untimed` are kept
abbrev pub with_assertion : Status → Assertion → Draft → Draft
with_assertion status.Received assertion draft =
    with_times (record draft { report = record draft.report { received = assertion } }) assertion
with_assertion status.Forwarded assertion draft =
    with_times (record draft { report = record draft.report { forwarded = assertion } }) assertion
with_assertion status.Delivered assertion draft =
    with_times (record draft { report = record draft.report { delivered = assertion } }) assertion
with_assertion status.Deleted assertion draft =
    with_times (record draft { report = record draft.report { deleted = assertion } }) assertion
with_assertion (status.Other left) assertion draft = with_times draft assertion

-- the draft before the first target of a security block that has `count` targets
abbrev pub with_targets : ℕ → Draft → Draft
with_targets count draft =
    record draft {
      security = record draft.security { targets = count; targets_primary = false };
      targets = record { items = [] };
    }

-- the targets that are kept after one more: the first 64
abbrev pub kept_targets : List ℕ → ℕ → List ℕ
kept_targets targets target =
    if nat_lt (length targets) 64 then targets ++ target ∷ [] else targets

-- The draft after one more target. It keeps whether 0 is among the targets, and the first 64
-- targets.
abbrev pub with_target : Draft → ℕ → Draft
with_target draft target =
    record draft {
      security = record draft.security {
        targets_primary = draft.security.targets_primary || (target == 0);
      };
      targets = record { items = kept_targets draft.targets.items target };
    }

abbrev pub with_context : Integer → Draft → Draft
with_context context draft = record draft { security = record draft.security { context = context } }

abbrev pub with_flags : ℕ → Draft → Draft
with_flags flags draft = record draft { security = record draft.security { flags = flags } }

abbrev pub with_eid : Eid → Draft → Draft
with_eid eid draft = record draft { eid = eid }

-- ---- the stage after a head, and the draft with the value that was read

-- after an endpoint ID
abbrev pub took_eid : Owner → Eid → Draft → DataStage × Draft
took_eid owner eid draft = (after_eid owner, with_eid eid draft)

-- after a whole status assertion
abbrev pub took_assertion : Status → Assertion → Draft → DataStage × Draft
took_assertion status assertion draft =
    (Head (after_status status draft.others), with_assertion status assertion draft)

-- after the sequence number of a status report: only a report on a fragment has more fields
abbrev pub took_sequence : ℕ → Draft → DataStage × Draft
took_sequence sequence draft =
    if draft.is_fragment
    then (
      Head (due.Number number.FragmentOffset),
      record draft { report = record draft.report { sequence = sequence } },
    )
    else (
      Read found.StatusReport,
      record draft { report = record draft.report { sequence = sequence; fragment = None } },
    )

-- the stage and the draft after an unsigned integer, which has this meaning and this value
abbrev pub took : Number → ℕ → Draft → DataStage × Draft
took number.Age age draft = (Read (found.BundleAge age), draft)
took number.HopLimit limit draft = (Head (due.Number (number.HopCount limit)), draft)
took (number.HopCount limit) count draft = (Read (found.HopCount limit count), draft)
took (number.Target left) target draft = (Head (targets_due left), with_target draft target)
took number.ContextFlags flags draft =
    (Head (due.Pair (pair_.Eid owner.Security)), with_flags flags draft)
took number.RecordType type draft = (after_type type, draft)
took (number.AssertedTime status) time draft = took_assertion status (YesAt time) draft
took number.Reason reason draft = (
  Head (due.Pair (pair_.Eid owner.Report)),
  record draft { report = record draft.report { reason = reason } },
)
took number.CreationTime time draft = (
  Head (due.Number number.Sequence),
  record draft { report = record draft.report { time = time } },
)
took number.Sequence sequence draft = took_sequence sequence draft
took number.FragmentOffset start draft = (Head (due.Number (number.FragmentLength start)), draft)
took (number.FragmentLength start) size draft = (
  Read found.StatusReport,
  record draft { report = record draft.report { fragment = Some (start, size) } },
)
took (number.Allocator owner) allocator draft =
    (Head (due.Number (number.Node owner (Some allocator))), draft)
took (number.Node owner allocator) node draft =
    (Head (due.Number (number.Service owner allocator node)), draft)
took (number.Service owner allocator node) service draft =
    took_eid owner (numbered allocator node service) draft

-- after the head of the specific part of a dtn endpoint ID: the length of its name, or `None` for
-- dtn:none
abbrev pub took_dtn : Owner → Option ℕ → Draft → DataStage × Draft
took_dtn owner None draft = took_eid owner DtnNone draft
took_dtn owner (Some size) draft =
    (name_due owner size, with_eid (Dtn (record { items = [] })) draft)

-- after the bytes `run` of a dtn name, of which `left` bytes were left before them
abbrev pub took_run : Owner → ℕ → List ℕ → Draft → DataStage × Draft
took_run owner left run draft = (
  name_due owner (left - length run),
  with_eid (Dtn (record { items = name_of draft.eid ++ run })) draft,
)

-- After the Boolean of a status assertion. The first argument of type `Bool` says whether a time
-- follows it, and the second is the Boolean.
abbrev pub took_asserted : Status → Bool → Bool → Draft → DataStage × Draft
took_asserted status true asserted draft = (Head (due.Number (number.AssertedTime status)), draft)
took_asserted status false asserted draft =
    took_assertion status (if asserted then Yes else No) draft

-- The stage and the draft after a complete head of `size` bytes, or its fault. For each head that
-- may be due, a function of `Rows` or `DataRows` judges whether it is there.
abbrev pub judged : Due → ℕ → HeadItem → Draft → Result (DataStage × Draft) BundleFault
judged (due.Number which) size head draft = unsigned head >>= λ value. Ok (took which value draft)
judged (due.Pair which) size head draft = pair head >>= λ _. Ok (Head (first_of which), draft)
judged (due.Scheme owner) size head draft =
    scheme head >>= λ scheme. Ok (Head (specific owner scheme), draft)
judged (due.DtnPart owner) size head draft =
    dtn_part head >>= λ part. Ok (took_dtn owner part draft)
judged (due.IpnPart owner) size head draft =
    ipn_part head >>= λ count. Ok (Head (first_number owner count), draft)
judged due.Targets size head draft =
    array head >>= λ count. Ok (Head (targets_due count), with_targets count draft)
judged due.ContextId size head draft =
    integer head >>= λ id. Ok (Head (due.Number number.ContextFlags), with_context id draft)
judged due.Report size head draft =
    four_or_six head >>= λ count. Ok
    (Head due.Assertions, record draft { is_fragment = count == 6 })
judged due.Assertions size head draft =
    four_or_more head >>= λ count. Ok
    (Head (due.Assertion status.Received), with_others (count - 4) draft)
judged (due.Assertion status) size head draft =
    one_or_two head >>= λ count. Ok (Head (due.Asserted status (count == 2)), draft)
judged (due.Asserted status has_time) size head draft =
    assertion has_time size head >>= λ asserted. Ok (took_asserted status has_time asserted draft)

-- the stage that a function returns with the draft that it leaves, or its fault alone
abbrev pub turned : Result DataStage BundleFault → Draft → Result (DataStage × Draft) BundleFault
turned (Ok stage) draft = Ok (stage, draft)
turned (Err fault) draft = Err fault
