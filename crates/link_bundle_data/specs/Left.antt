-- Relations: the rest of the data at each stage of a scan, which is the reading by BlockData from
-- there on. A draft has the values of the heads before. These definitions join the code to
-- `data_of`. The promises need none of them.

use Rattle.std.specs.Prelude.{ℕ, ◌-◌, ◌==◌, Bool, true, false, List, Option, Some, None, Result, Ok, Err, fold, if◌then◌else◌}
use Rattle.link_bundle_types.specs.declared.{eid.Eid.Eid, fault.BundleFault.BundleFault}
use Rattle.link_bundle_types.specs.KeptEid.{name_of}
use Rattle.link_bundle_heads.specs.declared.endpoint.Scheme.TheVariants.{Dtn, Ipn}
use Rattle.link_bundle_heads.specs.Rows.{◌>>=◌, unsigned, array, pair}
use Rattle.link_bundle_blocks.specs.Reading.{ReadAt, Stop, head_at, outcome_at, row_at}
use Rattle.link_bundle_blocks.specs.EndpointId.{specific_at, eid_at}
use Rattle.link_bundle_blocks.specs.Primary.{fragment_at}
use Rattle.link_bundle_data.specs.declared.values.{Assertion.Assertion, DataFault.DataFault}
use Rattle.link_bundle_data.specs.declared.values.Assertion.TheVariants.{No, Yes, YesAt}
use Rattle.link_bundle_data.specs.declared.due.Owner.{Owner}
use Rattle.link_bundle_data.specs.declared.due.Owner.TheVariants as owner
use Rattle.link_bundle_data.specs.declared.due.Status.{Status}
use Rattle.link_bundle_data.specs.declared.due.Status.TheVariants as status
use Rattle.link_bundle_data.specs.declared.due.Number.{Number}
use Rattle.link_bundle_data.specs.declared.due.Number.TheVariants as number
use Rattle.link_bundle_data.specs.declared.due.Pair.{Pair}
use Rattle.link_bundle_data.specs.declared.due.Pair.TheVariants as pair_
use Rattle.link_bundle_data.specs.declared.due.Due.{Due}
use Rattle.link_bundle_data.specs.declared.due.Due.TheVariants as due
use Rattle.link_bundle_data.specs.declared.due.Found.{Found}
use Rattle.link_bundle_data.specs.declared.due.Found.TheVariants as found
use Rattle.link_bundle_data.specs.declared.due.DataStage.{DataStage}
use Rattle.link_bundle_data.specs.declared.due.DataStage.TheVariants.{Head, Name, Read, Failed}
use Rattle.link_bundle_data.specs.declared.draft.Draft.{Draft}
use Rattle.link_bundle_data.specs.BlockData.{BlockData, PreviousNode, BundleAge, HopCount, Security, StatusReport, OtherRecord, alone, items_at, asserted_at, assertion_at, fault_at, located}
use Rattle.link_bundle_data.specs.DataRows.{integer, assertion, four_or_six, four_or_more}
use Rattle.link_bundle_data.specs.EidLeft.{numbered, scheme_left, node_left, service_left, name_left}
use Rattle.link_bundle_data.specs.Turns.{with_others, with_times, with_assertion, with_targets, with_target, with_context, with_flags, with_eid}

-- ---- after the item

-- what the data says, if its item was read and ends before `offset`
abbrev pub data_from : Found → Draft → ℕ → BlockData
data_from found.PreviousNode draft offset = PreviousNode draft.eid
data_from (found.BundleAge age) draft offset = BundleAge age
data_from (found.HopCount limit count) draft offset = HopCount limit count
data_from found.Security draft offset =
    Security (record draft.security { size = offset }) draft.targets.items draft.eid
data_from found.StatusReport draft offset = StatusReport draft.report draft.eid
data_from (found.OtherRecord type) draft offset = OtherRecord type

-- whether bytes may follow what was read
abbrev pub may_follow : Found → Bool
may_follow found.Security = true
may_follow (found.OtherRecord type) = true
may_follow _ = false

-- the first long head, or `None` in an administrative record, whose heads are not judged
abbrev pub if_judged : Found → Option ℕ → Option ℕ
if_judged found.StatusReport long = None
if_judged (found.OtherRecord type) long = None
if_judged _ long = long

-- What the data says, if its item ends before `offset`. Bytes after the item are a fault, unless
-- they may follow it.
abbrev pub item_ended : Found → Draft → List ℕ → ℕ → Result BlockData Stop
item_ended found draft bytes offset =
    if may_follow found then Ok (data_from found draft offset)
    else alone bytes offset (data_from found draft offset)

-- ---- a status report, from the end on

-- the rest after the fields of a fragment, if `reading` is the reading of them
abbrev pub after_fragment : Draft → List ℕ → ReadAt (Option (ℕ × ℕ)) → Result BlockData Stop
after_fragment draft bytes reading = do
  (fragment, offset) ← reading
  item_ended found.StatusReport
      (record draft { report = record draft.report { fragment = fragment } }) bytes offset

-- the rest from the sequence number on
unfoldable pub sequence_left : Draft → List ℕ → ℕ → Result BlockData Stop
sequence_left draft bytes offset = do
  (sequence, offset) ← row_at unsigned bytes offset
  after_fragment (record draft { report = record draft.report { sequence = sequence } }) bytes
      (fragment_at draft.is_fragment bytes offset)

-- the rest from the creation time on
unfoldable pub time_left : Draft → List ℕ → ℕ → Result BlockData Stop
time_left draft bytes offset = do
  (time, offset) ← row_at unsigned bytes offset
  sequence_left (record draft { report = record draft.report { time = time } }) bytes offset

-- the rest from the creation timestamp on, an array of the time and the sequence number
unfoldable pub timestamp_left : Draft → List ℕ → ℕ → Result BlockData Stop
timestamp_left draft bytes offset = do
  (_, offset) ← row_at pair bytes offset
  time_left draft bytes offset

-- ---- endpoint IDs

-- the rest after the endpoint ID of this owner
abbrev pub owner_left : Owner → Draft → List ℕ → ℕ → Result BlockData Stop
owner_left owner.PreviousNode draft bytes offset = item_ended found.PreviousNode draft bytes offset
owner_left owner.Security draft bytes offset = item_ended found.Security draft bytes offset
owner_left owner.Report draft bytes offset = timestamp_left draft bytes offset

-- The rest from an endpoint ID on. `reading` is the reading of this endpoint ID alone.
abbrev pub by_eid : Owner → Draft → List ℕ → ReadAt Eid → Result BlockData Stop
by_eid owner draft bytes reading = do
  (eid, offset) ← reading
  owner_left owner (with_eid eid draft) bytes offset

-- ---- status assertions

-- the rest from the reason of a status report on
unfoldable pub reason_left : Draft → List ℕ → ℕ → Result BlockData Stop
reason_left draft bytes offset = do
  (reason, offset) ← row_at unsigned bytes offset
  by_eid owner.Report (record draft { report = record draft.report { reason = reason } }) bytes
      (eid_at bytes offset)

-- the rest after the first four assertions and some others, if `left` more assertions follow
unfoldable pub others_left : ℕ → Draft → List ℕ → ℕ → Result BlockData Stop
others_left left draft bytes offset = do
  (others, offset) ← items_at assertion_at left bytes offset
  reason_left (fold with_times draft others) bytes offset

-- ---- the rest from the assertion of each status on

-- The rest from the assertion of deletion on. `reading` is the reading of this assertion alone.
abbrev pub deleted_left : Draft → List ℕ → ReadAt Assertion → Result BlockData Stop
deleted_left draft bytes reading = do
  (deleted, offset) ← reading
  others_left draft.others (with_assertion status.Deleted deleted draft) bytes offset

-- The rest from the assertion of delivery on. `reading` is the reading of this assertion alone.
abbrev pub delivered_left : Draft → List ℕ → ReadAt Assertion → Result BlockData Stop
delivered_left draft bytes reading = do
  (delivered, offset) ← reading
  deleted_left (with_assertion status.Delivered delivered draft) bytes (assertion_at bytes offset)

-- The rest from the assertion of forwarding on. `reading` is the reading of this assertion alone.
abbrev pub forwarded_left : Draft → List ℕ → ReadAt Assertion → Result BlockData Stop
forwarded_left draft bytes reading = do
  (forwarded, offset) ← reading
  delivered_left (with_assertion status.Forwarded forwarded draft) bytes (assertion_at bytes offset)

-- The rest from the assertion of reception on. `reading` is the reading of this assertion alone.
abbrev pub received_left : Draft → List ℕ → ReadAt Assertion → Result BlockData Stop
received_left draft bytes reading = do
  (received, offset) ← reading
  forwarded_left (with_assertion status.Received received draft) bytes (assertion_at bytes offset)

-- The rest from the assertion of this status on. `reading` is the reading of this assertion alone.
abbrev pub by_assertion : Status → Draft → List ℕ → ReadAt Assertion → Result BlockData Stop
by_assertion status.Received draft bytes reading = received_left draft bytes reading
by_assertion status.Forwarded draft bytes reading = forwarded_left draft bytes reading
by_assertion status.Delivered draft bytes reading = delivered_left draft bytes reading
by_assertion status.Deleted draft bytes reading = deleted_left draft bytes reading
by_assertion (status.Other left) draft bytes reading = do
  (other, offset) ← reading
  others_left left (with_times draft other) bytes offset

-- ---- the Boolean of a status assertion, and what follows it

-- A status assertion, if `reading` is the reading of its Boolean. If `has_time`, a time follows the
-- Boolean.
abbrev pub boolean_left : Bool → List ℕ → ReadAt Bool → ReadAt Assertion
boolean_left has_time bytes reading = do
  (asserted, offset) ← reading
  if has_time then asserted_at bytes offset else Ok (if asserted then Yes else No, offset)

-- the Boolean of a status assertion, which begins at `offset`
unfoldable pub boolean_at : Bool → List ℕ → ℕ → ReadAt Bool
boolean_at has_time bytes offset = do
  (head, next) ← head_at bytes offset
  outcome_at offset next (assertion has_time (next - offset) head)

-- the rest from the array of the status assertions on
unfoldable pub assertions_left : Draft → List ℕ → ℕ → Result BlockData Stop
assertions_left draft bytes offset = do
  (assertions, offset) ← row_at four_or_more bytes offset
  received_left (with_others (assertions - 4) draft) bytes (assertion_at bytes offset)

-- the rest from the array of the status report on
unfoldable pub report_left : Draft → List ℕ → ℕ → Result BlockData Stop
report_left draft bytes offset = do
  (elements, offset) ← row_at four_or_six bytes offset
  assertions_left (record draft { is_fragment = elements == 6 }) bytes offset

-- ---- a security block

-- the rest from the flags of the security context on
unfoldable pub flags_left : Draft → List ℕ → ℕ → Result BlockData Stop
flags_left draft bytes offset = do
  (flags, offset) ← row_at unsigned bytes offset
  by_eid owner.Security (with_flags flags draft) bytes (eid_at bytes offset)

-- the rest from the ID of the security context on
unfoldable pub context_left : Draft → List ℕ → ℕ → Result BlockData Stop
context_left draft bytes offset = do
  (context, offset) ← row_at integer bytes offset
  flags_left (with_context context draft) bytes offset

-- the rest after the targets, if `reading` is the reading of those that were left
abbrev pub after_targets : Draft → List ℕ → ReadAt (List ℕ) → Result BlockData Stop
after_targets draft bytes reading = do
  (targets, offset) ← reading
  context_left (fold with_target draft targets) bytes offset

-- the rest of a security block, if `left` targets are left
unfoldable pub targets_left : ℕ → Draft → List ℕ → ℕ → Result BlockData Stop
targets_left left draft bytes offset =
    after_targets draft bytes (items_at (row_at unsigned) left bytes offset)

-- ---- the rest after each unsigned integer, and from each head on

-- the rest from the hop limit on
unfoldable pub limit_left : Draft → List ℕ → ℕ → Result BlockData Stop
limit_left draft bytes offset = do
  (limit, offset) ← row_at unsigned bytes offset
  (count, offset) ← row_at unsigned bytes offset
  item_ended (found.HopCount limit count) draft bytes offset

-- the rest from the type code of an administrative record on
unfoldable pub type_left : Draft → List ℕ → ℕ → Result BlockData Stop
type_left draft bytes offset = do
  (type, offset) ← row_at unsigned bytes offset
  if type == 1 then report_left draft bytes offset
      else item_ended (found.OtherRecord type) draft bytes offset

-- the rest after an unsigned integer, which has this meaning and this value
abbrev pub number_left : Number → Draft → ℕ → List ℕ → ℕ → Result BlockData Stop
number_left number.Age draft age bytes offset = item_ended (found.BundleAge age) draft bytes offset
number_left number.HopLimit draft limit bytes offset = do
  (count, offset) ← row_at unsigned bytes offset
  item_ended (found.HopCount limit count) draft bytes offset
number_left (number.HopCount limit) draft count bytes offset =
    item_ended (found.HopCount limit count) draft bytes offset
number_left (number.Target left) draft target bytes offset =
    targets_left left (with_target draft target) bytes offset
number_left number.ContextFlags draft flags bytes offset =
    by_eid owner.Security (with_flags flags draft) bytes (eid_at bytes offset)
number_left number.RecordType draft type bytes offset =
    if type == 1 then report_left draft bytes offset
    else item_ended (found.OtherRecord type) draft bytes offset
number_left (number.AssertedTime status) draft time bytes offset =
    by_assertion status draft bytes (Ok (YesAt time, offset))
number_left number.Reason draft reason bytes offset =
    by_eid owner.Report (record draft { report = record draft.report { reason = reason } }) bytes
    (eid_at bytes offset)
number_left number.CreationTime draft time bytes offset =
    sequence_left (record draft { report = record draft.report { time = time } }) bytes offset
number_left number.Sequence draft sequence bytes offset =
    after_fragment (record draft { report = record draft.report { sequence = sequence } }) bytes
    (fragment_at draft.is_fragment bytes offset)
number_left number.FragmentOffset draft start bytes offset = do
  (size, offset) ← row_at unsigned bytes offset
  item_ended found.StatusReport
      (record draft { report = record draft.report { fragment = Some (start, size) } }) bytes offset
number_left (number.FragmentLength start) draft size bytes offset =
    item_ended found.StatusReport
    (record draft { report = record draft.report { fragment = Some (start, size) } }) bytes offset
number_left (number.Allocator owner) draft allocator bytes offset =
    by_eid owner draft bytes (node_left (Some allocator) bytes offset)
number_left (number.Node owner allocator) draft node bytes offset =
    by_eid owner draft bytes (service_left allocator node bytes offset)
number_left (number.Service owner allocator node) draft service bytes offset =
    by_eid owner draft bytes (Ok (numbered allocator node service, offset))

-- the rest after the head of this array of two elements
abbrev pub pair_left : Pair → Draft → List ℕ → ℕ → Result BlockData Stop
pair_left (pair_.Eid owner) draft bytes offset = by_eid owner draft bytes (scheme_left bytes offset)
pair_left pair_.HopCount draft bytes offset = limit_left draft bytes offset
pair_left pair_.Record draft bytes offset = type_left draft bytes offset
pair_left pair_.Timestamp draft bytes offset = time_left draft bytes offset

-- the rest from the head that is due, which begins at `offset`
unfoldable pub due_left : Due → Draft → List ℕ → ℕ → Result BlockData Stop
due_left (due.Number which) draft bytes offset = do
  (value, offset) ← row_at unsigned bytes offset
  number_left which draft value bytes offset
due_left (due.Pair which) draft bytes offset = do
  (_, offset) ← row_at pair bytes offset
  pair_left which draft bytes offset
due_left (due.Scheme owner) draft bytes offset = by_eid owner draft bytes (scheme_left bytes offset)
due_left (due.DtnPart owner) draft bytes offset =
    by_eid owner draft bytes (specific_at Dtn bytes offset)
due_left (due.IpnPart owner) draft bytes offset =
    by_eid owner draft bytes (specific_at Ipn bytes offset)
due_left due.Targets draft bytes offset = do
  (count, offset) ← row_at array bytes offset
  targets_left count (with_targets count draft) bytes offset
due_left due.ContextId draft bytes offset = context_left draft bytes offset
due_left due.Report draft bytes offset = report_left draft bytes offset
due_left due.Assertions draft bytes offset = assertions_left draft bytes offset
due_left (due.Assertion status) draft bytes offset =
    by_assertion status draft bytes (assertion_at bytes offset)
due_left (due.Asserted status has_time) draft bytes offset =
    by_assertion status draft bytes (boolean_left has_time bytes
    (boolean_at has_time bytes offset))

-- The rest at a stage, when `count` bytes were seen. The head that is due begins at `offset`. The
-- rest of a name begins after the bytes seen. An item that was read ended before `offset`. The
-- fault of malformed data stays.
unfoldable pub stage_left : DataStage → Draft → List ℕ → ℕ → ℕ → Result BlockData DataFault
stage_left (Head which) draft bytes offset count = located bytes (due_left which draft bytes offset)
stage_left (Name owner left) draft bytes offset count =
    located bytes (by_eid owner draft bytes (name_left (name_of draft.eid) left bytes count))
stage_left (Read found) draft bytes offset count =
    located bytes (item_ended found draft bytes offset)
stage_left (Failed fault) draft bytes offset count = Err fault

-- The rest after a complete head that begins at `offset` and ends before `next`. The first argument
-- is what the head leads to, or its fault.
abbrev pub goes_on : Result (DataStage × Draft) BundleFault → List ℕ → ℕ → ℕ
    → Result BlockData DataFault
goes_on (Ok (stage, draft)) bytes offset next = stage_left stage draft bytes next next
goes_on (Err fault) bytes offset next = Err (fault_at bytes fault offset)
