-- The transfers of a whole recorded stream (RFC 9174 section 5.2), and what `unpack` makes of them.
-- The definition of `unpack` goes event by event. This goes by the list of heads.
use Rattle.std.specs.Prelude.{ℕ, Bool, true, false, not, ◌&&◌, is_some, List, [], ◌∷◌, ◌++◌, Option, Some, None, if◌then◌else◌}
use Rattle.std.specs.List.{fold, list_all}
use Rattle.link_tool_option_types.specs.declared.wanted.Wanted.{Wanted}
use Rattle.link_wire.specs.Stream.{Entry, End, Reading, reading_of, heads_of}
use Rattle.link_wire.specs.declared.message.Message.{Message}
use Rattle.link_transfer.specs.Event.{event_of}
use Rattle.link_transfer.specs.Order.{begins, is_segment, is_stray, refusal, with_taken}
use Rattle.link_transfer.specs.declared.{event.Event.Event, fault.OrderFault.OrderFault}
use Rattle.link_run.specs.Made.{Made, stop_of}
use Rattle.link_run_over_transfers.specs.Walk.{stop_by}
use Rattle.link_run_judge.specs.Transfers.{Transfer, after_message}
use Rattle.link_run_judge.specs.Unpacking.{parts_of, judgement_of, line_of, is_good, order_line}

-- ---- order

-- The heads before the first that is not in order, and the offset and the fault of that one. If all
-- are in order, `heads` contains all.
pub record Ordered : Type 0 where
  pub heads : List Entry
  pub refused : Option (ℕ × OrderFault)

-- One more head, before the heads `rest`. If it is not in order, it is dropped with all heads after
-- it, and only its offset and its fault are kept.
abbrev pub ordered_by : Option OrderFault → Entry → Ordered → Ordered
ordered_by (Some fault) head rest = record { heads = []; refused = Some (head.offset, fault) }
ordered_by None head rest = record { heads = head ∷ rest.heads; refused = rest.refused }

-- The heads before the first that is not in order, and that one. The messages `before` come before
-- them. All messages before a head decide whether the head is in order.
unfoldable pub ordered_after : List Message → List Entry → Ordered
ordered_after before [] = record { heads = []; refused = None }
ordered_after before (head ∷ more) =
    ordered_by (refusal before (event_of head.message)) head
    (ordered_after (before ++ head.message ∷ []) more)

-- the heads of a whole stream before the first that is not in order, and that one
unfoldable pub ordered : List Entry → Ordered
ordered heads = ordered_after [] heads

-- ---- transfers

-- the transfers of heads that are in order, the latest first
unfoldable pub transfers_of : List Entry → List Transfer
transfers_of heads =
    fold (λ transfers head. after_message transfers head.message head.content) [] heads

-- the transfers that are over: all, except the latest if it is not closed
abbrev pub settled : List Transfer → List Transfer
settled [] = []
settled (latest ∷ earlier) = if latest.closed then latest ∷ earlier else earlier

-- A line for each transfer. The list begins with the latest transfer, and the text ends with its
-- line.
unfoldable pub lines_of : Wanted → List Transfer → List ℕ
lines_of wanted [] = []
lines_of wanted (latest ∷ earlier) = lines_of wanted earlier ++ line_of wanted latest earlier

-- whether all transfers are good
unfoldable pub are_good : List Transfer → Bool
are_good transfers = list_all (λ transfer. is_good (judgement_of transfer)) transfers

-- ---- a stream that stops at a fault of the order

-- What `unpack` makes of heads without `--keep-going`. The stream stops at the first head that is
-- not in order, or else where its reading stops. In `texts`, an open transfer has no line, since it
-- may go on. If the stream ends between two messages, the open transfer is abandoned, and `ended`
-- has its line.
abbrev pub unpacking_by : Wanted → End → Ordered → Made
unpacking_by wanted end order =
    let transfers = transfers_of order.heads in
    record {
      texts = record {
        output = parts_of wanted transfers;
        report = lines_of wanted (settled transfers);
      };
      stop = stop_by order.refused end;
      ended = record { output = parts_of wanted transfers; report = lines_of wanted transfers };
      good = are_good transfers;
    }

-- ---- a stream that goes on after a fault of the order

-- what `unpack` makes of the heads so far, and what it needs for the next head
pub record UnpackedSoFar : Type 0 where
  -- the messages on which the order of the next head depends: stray segments are left out
  pub taken : List Message
  -- the transfers, the latest first
  pub transfers : List Transfer
  -- the lines of the heads that were not in order, and of the transfers that are over
  pub report : List ℕ
  -- whether every head was in order
  pub in_order : Bool

-- before the first head
abbrev pub none_unpacked : UnpackedSoFar
none_unpacked = record { taken = []; transfers = []; report = []; in_order = true }

-- the line of the latest transfer, if it is not closed, and so is abandoned now
abbrev pub abandoned_line : Wanted → List Transfer → List ℕ
abandoned_line wanted [] = []
abandoned_line wanted (latest ∷ earlier) =
    if latest.closed then [] else line_of wanted latest earlier

-- the line of the latest transfer if it is closed
abbrev pub closed_line : Wanted → List Transfer → List ℕ
closed_line wanted [] = []
closed_line wanted (latest ∷ earlier) =
    if latest.closed then line_of wanted latest earlier else []

-- A stray segment changes no transfer. Any other head changes the transfers as if it were in order.
abbrev pub transfers_with : (stray : Bool) → List Transfer → Entry → List Transfer
transfers_with true transfers head = transfers
transfers_with false transfers head = after_message transfers head.message head.content

-- the lines of the transfer that a head abandons, and of the one that it closes
abbrev pub transfer_lines : (stray : Bool) → Wanted → Event → (before after : List Transfer)
    → List ℕ
transfer_lines true wanted event before after = []
transfer_lines false wanted event before after =
    (if begins event then abandoned_line wanted before else [])
    ++ (if is_segment event then closed_line wanted after else [])

-- What `unpack` makes of one more head. The report gets the line of the head's fault, if there is
-- one, and then the lines of the transfers that the head abandons or closes.
abbrev pub with_head : Wanted → UnpackedSoFar → Entry → UnpackedSoFar
with_head wanted before head =
    let event = event_of head.message in
    let fault = refusal before.taken event in
    let stray = is_stray before.taken event in
    let transfers = transfers_with stray before.transfers head in
    record {
      taken = with_taken before.taken head.message;
      transfers = transfers;
      report =
          (before.report ++ order_line head.offset fault)
          ++ transfer_lines stray wanted event before.transfers transfers;
      in_order = before.in_order && not (is_some fault);
    }

-- what `unpack` makes of these heads with `--keep-going`
unfoldable pub unpacked_of : Wanted → List Entry → UnpackedSoFar
unpacked_of wanted heads = fold (with_head wanted) none_unpacked heads

-- What `unpack` makes of heads with `--keep-going`. The stream stops only where its reading stops.
-- In `texts`, an open transfer has no line, since it may go on. If the stream ends between two
-- messages, the open transfer is abandoned, and `ended` has its line.
abbrev pub going_on_by : Wanted → End → UnpackedSoFar → Made
going_on_by wanted end unpacked = record {
  texts = record { output = parts_of wanted unpacked.transfers; report = unpacked.report };
  stop = stop_of end;
  ended = record {
    output = parts_of wanted unpacked.transfers;
    report = unpacked.report ++ abandoned_line wanted unpacked.transfers;
  };
  good = are_good unpacked.transfers && unpacked.in_order;
}

-- ---- what is wanted

-- what `unpack` makes of this reading; with `keep_going`, it goes on after a fault of the order
abbrev pub made_of : (keep_going : Bool) → Wanted → Reading → Made
made_of false wanted reading = unpacking_by wanted reading.end (ordered (heads_of reading))
made_of true wanted reading = going_on_by wanted reading.end (unpacked_of wanted (heads_of reading))

-- what `unpack` makes of a stream, by its transfers
unfoldable pub by_transfers : Wanted → List ℕ → Made
by_transfers wanted bytes = made_of wanted.keep_going wanted (reading_of bytes)
