-- How the data of the stream makes up the output of `unpack`, and how the report cuts the output,
-- without `--keep-going` and with it.
use Rattle.std.specs.Prelude.{◌≡◌, ℕ, ◌+◌, ◌≤◌, Bool, true, false, List, [], ◌∷◌, ◌++◌, length, Option, Some, None}
use Rattle.std.specs.List.{flat_map}
use Rattle.link_tool_option_types.specs.declared.wanted.Wanted.{Wanted}
use Rattle.link_wire.specs.Stream.{Entry, reading_of, heads_of}
use Rattle.link_wire.specs.declared.message.Message.{Message}
use Rattle.link_transfer.specs.Event.{event_of}
use Rattle.link_transfer.specs.Order.{is_stray, refusal, with_taken}
use Rattle.link_transfer.specs.declared.fault.OrderFault.{OrderFault}
use Rattle.link_report.specs.Fault.{fault_text}
use Rattle.link_report.specs.declared.fault.Fault.TheVariants.{Order}
use Rattle.link_report.specs.Transfer.{transfer_text}
use Rattle.link_report.specs.declared.transfer.TransferEntry.{TransferEntry}
use Rattle.link_run.specs.Made.{StreamStop, stop_of}
use Rattle.link_run_judge.specs.Transfers.{Transfer}
use Rattle.link_run_over_transfers.specs.Walk.{stop_by}
use Rattle.link_tools_laws.specs.Transfers.{Ordered, ordered, transfers_of, settled, unpacked_of}
use Rattle.link_run_judge.specs.Unpacking.{parts_of, entry_of, unpacking_of, unpack_tool}
use Rattle.link_tools_laws.specs.RoundTrip.{all}

-- the same options, with `--keep-going`
abbrev pub going_on : Wanted → Wanted
going_on wanted =
    record { only = wanted.only; payload = wanted.payload; keep_going = true }

-- the same options, without `--keep-going`
abbrev pub stopping : Wanted → Wanted
stopping wanted =
    record { only = wanted.only; payload = wanted.payload; keep_going = false }

-- ---- the output

-- the data of a segment, as far as it is there
abbrev pub data_of : Entry → List ℕ
data_of head = head.content

-- the heads of a stream before the first that is not in order, and that one, if there is one
abbrev pub order_of : List ℕ → Ordered
order_of bytes = ordered (heads_of (reading_of bytes))

-- the output of `unpack` without options is the data of the accepted segments, in order
abbrev pub UnpacksToAllData : List ℕ → Type 0
UnpacksToAllData bytes =
    ((unpack_tool all).whole bytes).texts.output ≡ flat_map data_of (order_of bytes).heads

-- a head and the rest, or the rest alone if the head is stray
abbrev pub prepended_unless : (stray : Bool) → Entry → List Entry → List Entry
prepended_unless true head rest = rest
prepended_unless false head rest = head ∷ rest

-- these heads without stray segments, if they come after the messages `before`
unfoldable pub taken_after : List Message → List Entry → List Entry
taken_after before [] = []
taken_after before (head ∷ more) =
    prepended_unless (is_stray before (event_of head.message)) head
    (taken_after (with_taken before head.message) more)

-- the output of `unpack` with `--keep-going` is the data of the segments that are not stray, in
-- order
abbrev pub UnpacksToNonStrayData : List ℕ → Type 0
UnpacksToNonStrayData bytes =
    ((unpack_tool (going_on all)).whole bytes).texts.output
    ≡ flat_map data_of (taken_after [] (heads_of (reading_of bytes)))

-- ---- the report

-- The entries of the report's lines for these transfers. The list of transfers begins with the
-- latest, and the list of entries ends with it.
unfoldable pub entries_of : Wanted → List Transfer → List TransferEntry
entries_of wanted [] = []
entries_of wanted (latest ∷ earlier) =
    entries_of wanted earlier ++ entry_of wanted latest (length (parts_of wanted earlier)) ∷ []

-- in the output, the first entry begins at `start`, and each other one where the one before it ends
unfoldable pub AreOutputPartsEndToEnd : (start : ℕ) → List TransferEntry → Type 0
AreOutputPartsEndToEnd start [] = Unit {0}
AreOutputPartsEndToEnd start (entry ∷ more) = (entry.start ≡ start)
    × AreOutputPartsEndToEnd (start + entry.written) more

-- the number of bytes in the output that the lines of these entries describe
unfoldable pub total_written : List TransferEntry → ℕ
total_written [] = 0
total_written (entry ∷ more) = entry.written + total_written more

-- where the stream stops without `--keep-going`: at the head that is refused, or else where its
-- reading stops
abbrev pub stream_stop : List ℕ → Option StreamStop
stream_stop bytes = stop_by (order_of bytes).refused (reading_of bytes).end

-- The transfers that have a line. An open transfer is abandoned at a clean end, and has its line.
-- At a fault it has no line, since it might have gone on.
abbrev pub lined : Option StreamStop → List Transfer → List Transfer
lined None transfers = transfers
lined (Some stop) transfers = settled transfers

-- the transfers that have a line in the report without `--keep-going`, the latest first
abbrev pub reported : List ℕ → List Transfer
reported bytes = lined (stream_stop bytes) (transfers_of (order_of bytes).heads)

-- the line of the fault at which a stream stops, if there is one
abbrev pub stop_line : Option StreamStop → List ℕ
stop_line None = []
stop_line (Some stop) = fault_text stop.fault

-- Each of these transfers has a line, which describes a part of the output. These parts follow one
-- another from the beginning of the output. The rest is the part of a transfer that has no line.
pub record LinesDivideOutput (wanted : Wanted) (output : List ℕ) (transfers : List Transfer)
    : Type 0 where
  pub follow : AreOutputPartsEndToEnd 0 (entries_of wanted transfers)
  -- the transfer that has no line, if there is one: it is the latest, and the last in the output
  pub left : List Transfer
  pub one : length left ≤ 1
  pub whole : output ≡ parts_of wanted (left ++ transfers)
  pub size : length (parts_of wanted transfers) ≡ total_written (entries_of wanted transfers)

-- The report without `--keep-going` is the lines of the transfers that have one, and then the line
-- of the fault, if there is one. The lines divide the output into the parts of their transfers.
pub record ReportDividesOutput (wanted : Wanted) (bytes : List ℕ) : Type 0 where
  pub lines : ((unpack_tool wanted).whole bytes).texts.report
      ≡ flat_map transfer_text (entries_of wanted (reported bytes))
      ++ stop_line (stream_stop bytes)
  pub divides : LinesDivideOutput wanted ((unpack_tool wanted).whole bytes).texts.output
      (reported bytes)

-- ---- a report with the lines of heads that are not in order

-- a line of the report: of a head that is not in order, or of a transfer
pub data ReportLine : Type 0 where
  OfHead : (offset : ℕ) (fault : OrderFault) → ReportLine
  OfTransfer : (entry : TransferEntry) → ReportLine

-- the text of a line
abbrev pub line_text : ReportLine → List ℕ
line_text (OfHead offset fault) = fault_text (Order offset fault)
line_text (OfTransfer entry) = transfer_text entry

-- the entry of a line of a transfer, as a list; `[]` for a line of a head
abbrev pub entry_in : ReportLine → List TransferEntry
entry_in (OfHead offset fault) = []
entry_in (OfTransfer entry) = entry ∷ []

-- the offset and the fault of a line of a head, as a list; `[]` for a line of a transfer
abbrev pub fault_in : ReportLine → List (ℕ × OrderFault)
fault_in (OfHead offset fault) = (offset, fault) ∷ []
fault_in (OfTransfer entry) = []

-- the offset and the fault of a head, or nothing if it is in order
abbrev pub fault_at : (offset : ℕ) → Option OrderFault → List (ℕ × OrderFault)
fault_at offset None = []
fault_at offset (Some fault) = (offset, fault) ∷ []

-- the offsets and faults of the heads that are not in order, if the heads come after `before`
unfoldable pub faults_after : List Message → List Entry → List (ℕ × OrderFault)
faults_after before [] = []
faults_after before (head ∷ more) =
    fault_at head.offset (refusal before (event_of head.message))
    ++ faults_after (with_taken before head.message) more

-- the transfers that have a line in the report with `--keep-going`, the latest first
abbrev pub reported_on : Wanted → List ℕ → List Transfer
reported_on wanted bytes =
    let reading = reading_of bytes in
    lined (stop_of reading.end) (unpacked_of wanted (heads_of reading)).transfers

-- The report with `--keep-going` is the lines of the heads that are not in order and of the
-- transfers that have one. If the reading stops at a fault, the line of this fault is the last. The
-- lines of the transfers divide the output.
pub record ReportDividesOutputKeepGoing (wanted : Wanted) (bytes : List ℕ) : Type 0 where
  pub lines : List ReportLine
  pub report : ((unpack_tool wanted).whole bytes).texts.report
      ≡ flat_map line_text lines ++ stop_line (stop_of (reading_of bytes).end)
  pub faults : flat_map fault_in lines ≡ faults_after [] (heads_of (reading_of bytes))
  pub entries : flat_map entry_in lines ≡ entries_of wanted (reported_on wanted bytes)
  pub divides : LinesDivideOutput wanted ((unpack_tool wanted).whole bytes).texts.output
      (reported_on wanted bytes)

-- ---- heads that are all in order

-- if no head is refused, `keep_going` changes nothing of what `unpack` makes of the stream
abbrev pub IsKeepGoingIdleIfInOrder : Wanted → List ℕ → Type 0
IsKeepGoingIdleIfInOrder wanted bytes =
    (order_of bytes).refused ≡ None
    → unpacking_of (going_on wanted) bytes ≡ unpacking_of (stopping wanted) bytes
