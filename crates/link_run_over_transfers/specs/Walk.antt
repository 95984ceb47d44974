-- What a recorded stream tells of its transfers (RFC 9174 section 5.2): events, one after another.
-- A tool over transfers says something of each event.
use Rattle.std.specs.Prelude.{ℕ, ◌+◌, Bool, true, false, not, ◌&&◌, ◌||◌, ◌==◌, is_some, List, [], ◌∷◌, ◌++◌, map, length, Option, Some, None, if◌then◌else◌}
use Rattle.std.specs.List.{fold}
use Rattle.link_wire.specs.Message.{data_length}
use Rattle.link_wire.specs.Stream.{Entry, End, Reading, reading_of, heads_of}
use Rattle.link_wire.specs.declared.message.{Contact.Contact, Message.Message}
use Rattle.link_transfer.specs.Event.{event_of}
use Rattle.link_transfer.specs.Order.{refusal, effect_of, open_of, with_taken}
use Rattle.link_transfer.specs.declared.{fault.OrderFault.OrderFault, joiner.Turn.Turn}
use Rattle.link_transfer.specs.declared.joiner.Turn.TheVariants as turn
use Rattle.link_report.specs.declared.fault.Fault.TheVariants.{Order}
use Rattle.link_run.specs.Made.{StreamStop, Made, stop_of}
use Rattle.link_run.specs.Run.{Texts}
use Rattle.link_run_over_transfers.specs.declared.consumer.Manner.{Manner}

-- ---- heads

-- the head of a message, after the messages before it
pub record Head : Type 0 where
  pub offset : ℕ
  pub message : Message
  -- why the message is not in order, if it is not
  pub fault : Option OrderFault
  -- what it does to the transfers; a stray segment does nothing
  pub turn : Option Turn

-- the head of this message after the messages before it
abbrev pub head_at : (before : List Message) → (offset : ℕ) → Message → Head
head_at before offset message = record {
  offset = offset;
  message = message;
  fault = refusal before (event_of message);
  turn = effect_of before (event_of message);
}

-- whether the message is the last segment of its transfer
abbrev pub is_last : Option Turn → Bool
is_last (Some (turn.Begin abandoned last)) = last
is_last (Some (turn.Continue last)) = last
is_last _ = false

-- whether the message begins a transfer
abbrev pub is_beginning : Option Turn → Bool
is_beginning (Some (turn.Begin abandoned last)) = true
is_beginning _ = false

-- whether the message abandons the transfer that is open
abbrev pub abandons : Option Turn → Bool
abandons (Some (turn.Begin abandoned last)) = is_some abandoned
abandons _ = false

-- Whether the transfer is over with this head. It is if the message is the last segment, and has no
-- data.
abbrev pub closes : Head → Bool
closes head = is_last head.turn && (data_length head.message == 0)

-- whether the head is in order, and neither begins nor ends a transfer
abbrev pub is_plain : Head → Bool
is_plain head = not (is_some head.fault) && (not (is_beginning head.turn) && not (closes head))

-- ---- events

pub data WalkEvent : Type 0 where
  ContactHeader : Contact → WalkEvent
  -- A head may abandon the open transfer, begin one, and end its own.
  MessageHead : Head → WalkEvent
  -- a byte of the open transfer's data
  Data : (byte : ℕ) → WalkEvent
  -- all data of the open transfer has come
  Whole : WalkEvent
  -- the stream has ended between two messages, and the transfer is still open
  LeftOpen : WalkEvent

abbrev pub data_events : List ℕ → List WalkEvent
data_events bytes = map Data bytes

-- the number of bytes of data that an event is: one or none
abbrev pub data_size_of : WalkEvent → ℕ
data_size_of (Data byte) = 1
data_size_of _ = 0

-- the number of bytes of data among these events
unfoldable pub data_size : List WalkEvent → ℕ
data_size events = fold (λ size event. size + data_size_of event) 0 events

-- Whether a transfer is open after a head with this effect. `closing` is whether the head ends its
-- transfer, and `was` is whether a transfer was open before.
abbrev pub open_with : Option Turn → (closing was : Bool) → Bool
open_with None closing was = was
open_with (Some turn.Other) closing was = was
open_with (Some _) closing was = not closing

-- whether a transfer is open after an event; `was` is whether one was open before
abbrev pub open_after_event : Bool → WalkEvent → Bool
open_after_event was (ContactHeader contact) = was
open_after_event was (MessageHead head) = open_with head.turn (closes head) was
open_after_event was (Data byte) = was
open_after_event was Whole = false
open_after_event was LeftOpen = false

-- whether a transfer is open after these events
unfoldable pub has_open : List WalkEvent → Bool
has_open events = fold open_after_event false events

-- ---- the events of a stream

-- the events of the heads so far, and what the walk needs for the next head
pub record Walked : Type 0 where
  -- the messages on which the order of the next head depends: stray segments are left out
  pub taken : List Message
  pub events : List WalkEvent
  -- the offset and the fault of the head at which the run ends
  pub refused : Option (ℕ × OrderFault)

-- the event of a head; a tool that is not told of all heads is not told of a plain one
abbrev pub head_events : (all_heads : Bool) → Head → List WalkEvent
head_events all_heads head =
    if all_heads || not (is_plain head) then MessageHead head ∷ [] else []

-- The events of a segment's data. `content` is what has come of it, and `size` is its whole length.
-- The last byte of the last segment ends the transfer. If that segment has no data, its head has
-- ended the transfer before. With `None`, the segment is stray, and its data is no event. With
-- `Other`, the message is no segment, and has no data.
abbrev pub content_events : Option Turn → (size : ℕ) → (content : List ℕ) → List WalkEvent
content_events None size content = []
content_events (Some turn.Other) size content = []
content_events (Some turn) size content =
    data_events content
    ++ (if is_last (Some turn) && (not (size == 0) && (length content == size))
    then Whole ∷ []
    else [])

-- the walk after a head that it takes, with the data that has come of the message
abbrev pub taken_with : Manner → Walked → Entry → Walked
taken_with manner before entry =
    let head = head_at before.taken entry.offset entry.message in
    record {
      taken = with_taken before.taken entry.message;
      events = before.events
          ++ (head_events manner.all_heads head
          ++ content_events head.turn (data_length entry.message) entry.content);
      refused = None;
    }

-- The walk after one more head. A head without a fault is taken. At one with this fault, the run
-- ends or goes on, as the manner says.
abbrev pub with_judged : Option OrderFault → Manner → Walked → Entry → Walked
with_judged None manner before entry = taken_with manner before entry
with_judged (Some fault) manner before entry =
    if manner.goes_on
    then taken_with manner before entry
    else record before { refused = Some (entry.offset, fault) }

-- after the head at which the run ends, nothing is taken
abbrev pub with_entry_unless : Option (ℕ × OrderFault) → Manner → Walked → Entry → Walked
with_entry_unless None manner before entry =
    with_judged (refusal before.taken (event_of entry.message)) manner before entry
with_entry_unless (Some refused) manner before entry = before

-- one more head; nothing changes after a head at which the run has ended
abbrev pub with_next : Manner → Walked → Entry → Walked
with_next manner before entry = with_entry_unless before.refused manner before entry

-- the event of a contact header, if that is whole
abbrev pub contact_events : Option Contact → List WalkEvent
contact_events None = []
contact_events (Some contact) = ContactHeader contact ∷ []

-- before the first head: only the contact header, if it is whole, is an event
abbrev pub none_walked : Option Contact → Walked
none_walked contact = record { taken = []; events = contact_events contact; refused = None }

-- the events of a contact header and of the heads after it
unfoldable pub walked_of : Manner → Option Contact → List Entry → Walked
walked_of manner contact heads = fold (with_next manner) (none_walked contact) heads

-- the events of a reading
abbrev pub walked : Manner → Reading → Walked
walked manner reading = walked_of manner reading.contact (heads_of reading)

-- ---- a tool over transfers

-- what a tool says of the events so far, and whether everything in them is good
pub record Telling : Type 0 where
  pub manner : Manner
  pub texts : List WalkEvent → Texts
  pub good : List WalkEvent → Bool

-- the event of a transfer that is still open when the stream ends between two messages
abbrev pub end_events : List Message → List WalkEvent
end_events taken = if is_some (open_of taken) then LeftOpen ∷ [] else []

-- A stream stops at the head at which the run ends, or else where its reading stops. The fault of
-- that head lasts when more bytes come.
abbrev pub stop_by : Option (ℕ × OrderFault) → End → Option StreamStop
stop_by (Some (offset, fault)) end = Some (record { fault = Order offset fault; lasts = true })
stop_by None end = stop_of end

-- What a tool makes of a stream. `ended` and `good` are about a stream that ends here: then an open
-- transfer is one more event.
abbrev pub told_by : Telling → End → Walked → Made
told_by telling end walked =
    let all = walked.events ++ end_events walked.taken in
    record {
      texts = telling.texts walked.events;
      stop = stop_by walked.refused end;
      ended = telling.texts all;
      good = telling.good all;
    }

-- what a tool makes of a stream
unfoldable pub told_of : Telling → List ℕ → Made
told_of telling bytes =
    let reading = reading_of bytes in
    told_by telling reading.end (walked telling.manner reading)
