-- What the block-type-specific data of a canonical block says (RFC 9171 section 4.3.2), or why it
-- is malformed. Offsets count from the first byte of the data.

use Rattle.std.specs.Prelude.{ℕ, zero, suc, ◌-◌, ◌==◌, Bool, true, false, List, [], ◌∷◌, length, take, drop, Result, Ok, Err, if◌then◌else◌}
use Rattle.std.specs.List.{list_any}
use Rattle.link_cbor.specs.Head.{HeadFront, Whole, head_front, is_indefinite}
use Rattle.link_bundle_types.specs.declared.{eid.Eid.Eid, fault.BundleFault.BundleFault}
use Rattle.link_bundle_types.specs.declared.fault.BundleFault.TheVariants.{Trailing, WrongKind, BadScheme, BadSpecificPart, EidTooLong}
use Rattle.link_bundle_heads.specs.Rows.{◌>>=◌, unsigned, array, pair}
use Rattle.link_bundle_blocks.specs.Reading.{ReadAt, Stop, stopped, head_at, outcome_at, row_at}
use Rattle.link_bundle_blocks.specs.EndpointId.{eid_at}
use Rattle.link_bundle_blocks.specs.Primary.{fragment_at}
use Rattle.link_bundle_data.specs.declared.kind.DataKind.{DataKind}
use Rattle.link_bundle_data.specs.declared.kind.DataKind.TheVariants as kind
use Rattle.link_bundle_data.specs.declared.values.Assertion.{Assertion}
use Rattle.link_bundle_data.specs.declared.values.Assertion.TheVariants.{No, Yes, YesAt}
use Rattle.link_bundle_data.specs.declared.values.{DataFault.DataFault, SecurityBlock.SecurityBlock, Report.Report}
use Rattle.link_bundle_data.specs.DataRows.{integer, assertion, four_or_six, four_or_more, one_or_two}

-- what the data of a block says
pub data BlockData : Type 0 where
  -- the node that forwarded the bundle
  PreviousNode : Eid → BlockData
  -- the age in milliseconds
  BundleAge : ℕ → BlockData
  -- the hop limit and the hop count
  HopCount : ℕ → ℕ → BlockData
  -- the beginning of an abstract security block, its first targets, and the security source
  Security : SecurityBlock → List ℕ → Eid → BlockData
  -- a status report, and the source of the bundle that it is about
  StatusReport : Report → Eid → BlockData
  -- an administrative record of another type, by its type code
  OtherRecord : ℕ → BlockData

-- `found`, which was read up to an offset, or the fault of trailing bytes if the data goes on
unfoldable pub alone : List ℕ → ℕ → BlockData → Result BlockData Stop
alone bytes offset found =
    if offset == length bytes then Ok found else Err (stopped Trailing offset)

-- as many items as the number says, each read by `item_at`, and the offset after them
unfoldable pub items_at : {A : Type 0} → (List ℕ → ℕ → ReadAt A) → ℕ → List ℕ → ℕ → ReadAt (List A)
items_at item_at zero bytes offset = Ok ([], offset)
items_at item_at (suc left) bytes offset = do
  (item, offset) ← item_at bytes offset
  (items, offset) ← items_at item_at left bytes offset
  Ok (item ∷ items, offset)

-- the previous node block (RFC 9171 section 4.4.1)
unfoldable pub previous_node : List ℕ → Result BlockData Stop
previous_node bytes = do
  (node, offset) ← eid_at bytes 0
  alone bytes offset (PreviousNode node)

-- the bundle age block (RFC 9171 section 4.4.2)
unfoldable pub bundle_age : List ℕ → Result BlockData Stop
bundle_age bytes = do
  (age, offset) ← row_at unsigned bytes 0
  alone bytes offset (BundleAge age)

-- the hop count block (RFC 9171 section 4.4.3)
unfoldable pub hop_count : List ℕ → Result BlockData Stop
hop_count bytes = do
  (_, offset) ← row_at pair bytes 0
  (limit, offset) ← row_at unsigned bytes offset
  (count, offset) ← row_at unsigned bytes offset
  alone bytes offset (HopCount limit count)

-- The beginning of an abstract security block (RFC 9172 section 3.6): its targets, the ID and the
-- flags of its security context, and its source. No array encloses these items. What follows the
-- source is not read, so `size` is the offset after it. The first 64 targets are kept.
unfoldable pub security : List ℕ → Result BlockData Stop
security bytes = do
  (count, offset) ← row_at array bytes 0
  (targets, offset) ← items_at (row_at unsigned) count bytes offset
  (context, offset) ← row_at integer bytes offset
  (flags, offset) ← row_at unsigned bytes offset
  (source, offset) ← eid_at bytes offset
  Ok (
      Security (record {
        targets = count;
        targets_primary = list_any (λ target. target == 0) targets;
        context = context;
        flags = flags;
        size = offset;
      }) (take 64 targets) source
      )

-- The assertion of a status with a time. The time begins at `offset`.
abbrev pub asserted_at : List ℕ → ℕ → ReadAt Assertion
asserted_at bytes offset = do
  (time, offset) ← row_at unsigned bytes offset
  Ok (YesAt time, offset)

-- A status assertion (RFC 9171 section 6.1.1): an array of a Boolean, or of true and a time. The
-- head of the Boolean is judged with its length.
unfoldable pub assertion_at : List ℕ → ℕ → ReadAt Assertion
assertion_at bytes offset = do
  (count, start) ← row_at one_or_two bytes offset
  (head, next) ← head_at bytes start
  (asserted, offset) ← outcome_at start next (assertion (count == 2) (next - start) head)
  if count == 2 then asserted_at bytes offset else Ok (if asserted then Yes else No, offset)

-- whether a status is asserted, with and without a time

abbrev pub is_timed : Assertion → Bool
is_timed (YesAt time) = true
is_timed _ = false

abbrev pub is_untimed : Assertion → Bool
is_untimed Yes = true
is_untimed _ = false

-- A status report (RFC 9171 section 6.1.1) that begins at an offset. Of the assertions after the
-- first four, only `timed` and `untimed` are kept. The source, `time` and `sequence` belong to the
-- bundle that the report is about. If that bundle is a fragment, the report has six elements. The
-- last two are the fragment's offset and the length of its payload.
unfoldable pub report_at : List ℕ → ℕ → Result BlockData Stop
report_at bytes offset = do
  (elements, offset) ← row_at four_or_six bytes offset
  (assertions, offset) ← row_at four_or_more bytes offset
  (received, offset) ← assertion_at bytes offset
  (forwarded, offset) ← assertion_at bytes offset
  (delivered, offset) ← assertion_at bytes offset
  (deleted, offset) ← assertion_at bytes offset
  (others, offset) ← items_at assertion_at (assertions - 4) bytes offset
  (reason, offset) ← row_at unsigned bytes offset
  (source, offset) ← eid_at bytes offset
  (_, offset) ← row_at pair bytes offset
  (time, offset) ← row_at unsigned bytes offset
  (sequence, offset) ← row_at unsigned bytes offset
  (fragment, offset) ← fragment_at (elements == 6) bytes offset
  alone bytes offset (
      StatusReport (record {
        received = received;
        forwarded = forwarded;
        delivered = delivered;
        deleted = deleted;
        timed = list_any is_timed (received ∷ forwarded ∷ delivered ∷ deleted ∷ others);
        untimed = list_any is_untimed (received ∷ forwarded ∷ delivered ∷ deleted ∷ others);
        reason = reason;
        time = time;
        sequence = sequence;
        fragment = fragment;
      }) source
      )

-- An administrative record (RFC 9171 section 6.1), which is the payload: an array of its type code
-- and its content. The content of a type other than 1 is not read.
unfoldable pub administrative_record : List ℕ → Result BlockData Stop
administrative_record bytes = do
  (_, offset) ← row_at pair bytes 0
  (type, offset) ← row_at unsigned bytes offset
  if type == 1 then report_at bytes offset else Ok (OtherRecord type)

-- what data of this kind says, or the stop
abbrev pub reading_of : DataKind → List ℕ → Result BlockData Stop
reading_of kind.PreviousNode bytes = previous_node bytes
reading_of kind.BundleAge bytes = bundle_age bytes
reading_of kind.HopCount bytes = hop_count bytes
reading_of kind.Security bytes = security bytes
reading_of kind.Record bytes = administrative_record bytes

-- Whether an item with this fault exceeds a limit of this toolkit: its length is indefinite, its
-- endpoint scheme is neither dtn nor ipn, or its dtn name is long. RFC 9171 may permit such an item
-- (sections 4.1 and 4.2.5.1). Only the fault and the head at which the item fails decide: an array
-- of indefinite length exceeds a limit, even if a number is due there.
abbrev pub exceeds_limit : BundleFault → HeadFront → Bool
exceeds_limit BadScheme front = true
exceeds_limit EidTooLong front = true
exceeds_limit WrongKind (Whole head size) = is_indefinite head
exceeds_limit BadSpecificPart (Whole head size) = is_indefinite head
exceeds_limit _ front = false

-- The fault of a block's data, if its reading stops with `fault` at `offset`. The offset is where a
-- refused head begins, where the bytes end if they cut the item short, or where bytes follow the
-- item. The definition `exceeds_limit` judges the fault and the head there.
abbrev pub fault_at : List ℕ → BundleFault → ℕ → DataFault
fault_at bytes fault offset =
    record { offset = offset; is_limit = exceeds_limit fault (head_front (drop offset bytes)) }

-- the result of a reading, with its stop as the fault of the data
abbrev pub located : List ℕ → Result BlockData Stop → Result BlockData DataFault
located bytes (Ok found) = Ok found
located bytes (Err stop) = Err (fault_at bytes stop.fault stop.offset)

-- what data of this kind says, or why it is malformed
unfoldable pub data_of : DataKind → List ℕ → Result BlockData DataFault
data_of kind bytes = located bytes (reading_of kind bytes)
