-- What `unpack` writes for a recorded stream: what it says of each event of the walk over
-- transfers.
use Rattle.std.specs.Prelude.{ℕ, Bool, true, false, not, ◌&&◌, ◌==◌, is_some, List, [], ◌∷◌, ◌++◌, length, Option, Some, None, if◌then◌else◌}
use Rattle.std.specs.List.{fold}
use Rattle.link_wire.specs.declared.message.Message.{Message}
use Rattle.link_bundle_blocks.specs.Bundle.{verdict, payload_in}
use Rattle.link_transfer.specs.Announced.{announced_of}
use Rattle.link_transfer.specs.declared.{fault.OrderFault.OrderFault, joiner.Turn.Turn}
use Rattle.link_report.specs.Fault.{fault_text}
use Rattle.link_report.specs.declared.fault.Fault.TheVariants.{Order}
use Rattle.link_report.specs.Judgement.{judged_transfer}
use Rattle.link_report.specs.Transfer.{transfer_text}
use Rattle.link_report.specs.declared.judgement.Judgement.{Judgement}
use Rattle.link_report.specs.declared.judgement.Judgement.TheVariants.{Abandoned, BadLengthItem, LengthDiffers, Bad, Good}
use Rattle.link_report.specs.declared.transfer.TransferEntry.{TransferEntry}
use Rattle.link_run.specs.Made.{Made, tool_of}
use Rattle.link_run.specs.Run.{Tool}
use Rattle.link_run_over_transfers.specs.Walk.{Head, WalkEvent, ContactHeader, MessageHead, Data, Whole, LeftOpen, abandons, closes, Telling, told_of}
use Rattle.link_run_judge.specs.Transfers.{Transfer, continued, after_message}
use Rattle.link_tool_option_types.specs.declared.wanted.Wanted.{Wanted}

-- ---- the output

-- whether the transfer `id` is selected; without an ID to select, all are
abbrev pub is_selected : Option ℕ → ℕ → Bool
is_selected None id = true
is_selected (Some only) id = only == id

-- The bytes of a transfer that are written. If it is selected, they are its data, or only the
-- payload of its bundle.
abbrev pub part_of : Wanted → Transfer → List ℕ
part_of wanted transfer =
    if is_selected wanted.only transfer.first.id
    then (if wanted.payload then payload_in transfer.content else transfer.content)
    else []

-- the written bytes of all transfers; the latest transfer is first in the list
unfoldable pub parts_of : Wanted → List Transfer → List ℕ
parts_of wanted [] = []
parts_of wanted (latest ∷ earlier) = parts_of wanted earlier ++ part_of wanted latest

-- ---- the report

-- The judgement in the line of a transfer. A transfer gets its line when it is closed or abandoned,
-- so one that is not closed was abandoned. A transfer that is left open at the end of the stream
-- counts as abandoned.
abbrev pub judgement_of : Transfer → Judgement
judgement_of transfer =
    judged_transfer (not transfer.closed) (announced_of transfer.first.items.items)
    (length transfer.content)
    (verdict transfer.content)

-- the entry for the line of a transfer, whose bytes begin at offset `start` of the output
abbrev pub entry_of : Wanted → Transfer → (start : ℕ) → TransferEntry
entry_of wanted transfer start = record {
  id = transfer.first.id;
  start = start;
  written = length (part_of wanted transfer);
  length = length transfer.content;
  judgement = judgement_of transfer;
}

-- The line of a transfer that comes after the transfers `earlier`. In the output, the bytes of this
-- transfer begin where the bytes of `earlier` end.
abbrev pub line_of : Wanted → Transfer → List Transfer → List ℕ
line_of wanted transfer earlier =
    transfer_text (entry_of wanted transfer (length (parts_of wanted earlier)))

-- whether this is the judgement on a good bundle
abbrev pub is_good : Judgement → Bool
is_good Abandoned = false
is_good BadLengthItem = false
is_good (LengthDiffers announced) = false
is_good (Bad fault offset) = false
is_good (Good info) = true

-- the line of a head that is not in order, at this offset; a head without a fault has no text
abbrev pub order_line : (offset : ℕ) → Option OrderFault → List ℕ
order_line offset None = []
order_line offset (Some fault) = fault_text (Order offset fault)

-- ---- what is said of events

-- what was told so far
pub record Told : Type 0 where
  -- the transfers, the latest first
  pub transfers : List Transfer
  -- the lines of the heads that were not in order, and of the transfers that are over
  pub report : List ℕ
  -- whether all heads were in order, and all transfers that have their line are good
  pub good : Bool

abbrev pub none_told : Told
none_told = record { transfers = []; report = []; good = true }

-- The line of the latest transfer, if the line is due. If it is not, or there is no transfer, there
-- is no text.
abbrev pub line_due : Wanted → (due : Bool) → List Transfer → List ℕ
line_due wanted false transfers = []
line_due wanted true [] = []
line_due wanted true (latest ∷ earlier) = line_of wanted latest earlier

-- Whether the latest transfer is good, if its line is due. If the line is not due, or there is no
-- transfer, this is true.
abbrev pub good_due : (due : Bool) → List Transfer → Bool
good_due false transfers = true
good_due true [] = true
good_due true (latest ∷ earlier) = is_good (judgement_of latest)

-- If the line of the latest transfer is due, it is written. If that transfer is not good then, not
-- all is good. If the line is not due, nothing changes.
abbrev pub with_line : Wanted → (due : Bool) → Told → Told
with_line wanted due told = record {
  transfers = told.transfers;
  report = told.report ++ line_due wanted due told.transfers;
  good = told.good && good_due due told.transfers;
}

-- The transfers after the head of a message. A segment begins a transfer or continues the latest.
-- No data is added, since it comes later. A stray segment, whose turn is `None`, changes nothing.
abbrev pub transfers_at : Option Turn → List Transfer → Message → List Transfer
transfers_at None transfers message = transfers
transfers_at (Some turn) transfers message = after_message transfers message []

-- if the head has a fault, its line is written, and not all is good
abbrev pub with_order : Head → Told → Told
with_order head told = record {
  transfers = told.transfers;
  report = told.report ++ order_line head.offset head.fault;
  good = told.good && not (is_some head.fault);
}

-- what was told, with the transfers after one more head, whose data comes later
abbrev pub with_transfers : Head → Told → Told
with_transfers head told =
    record told { transfers = transfers_at head.turn told.transfers head.message }

-- One more head: first the line of its fault, then the line of the transfer that it abandons, and
-- then the line of the transfer that it ends.
abbrev pub told_head : Wanted → Told → Head → Told
told_head wanted told head =
    with_line wanted (closes head)
    (with_transfers head (with_line wanted (abandons head.turn) (with_order head told)))

-- the latest transfer has more data, and `closed` is whether it is closed now
abbrev pub told_more : Told → List ℕ → (closed : Bool) → Told
told_more told content closed =
    record told { transfers = continued told.transfers content closed }

-- What was told after one more event. `Whole` closes the latest transfer. `LeftOpen` does not, so
-- its line says that it was abandoned.
abbrev pub told_event : Wanted → Told → WalkEvent → Told
told_event wanted told (ContactHeader contact) = told
told_event wanted told (MessageHead head) = told_head wanted told head
told_event wanted told (Data byte) = told_more told (byte ∷ []) false
told_event wanted told Whole = with_line wanted true (told_more told [] true)
told_event wanted told LeftOpen = with_line wanted true told

-- what was told of these events, from the first
unfoldable pub told_after : Wanted → List WalkEvent → Told
told_after wanted events = fold (told_event wanted) none_told events

-- ---- a stream

-- What `unpack` says of a stream. It goes on after a fault of the order only with `keep_going`. It
-- is told of a head only if this is out of order, or begins or ends a transfer.
abbrev pub unpack_telling : Wanted → Telling
unpack_telling wanted = record {
  manner = record { goes_on = wanted.keep_going; all_heads = false };
  texts = λ events.
      let told = told_after wanted events in
      record { output = parts_of wanted told.transfers; report = told.report };
  good = λ events. (told_after wanted events).good;
}

-- what `unpack` makes of a stream
abbrev pub unpacking_of : Wanted → List ℕ → Made
unpacking_of wanted bytes = told_of (unpack_telling wanted) bytes

abbrev pub unpack_tool : Wanted → Tool
unpack_tool wanted = tool_of (unpacking_of wanted)
