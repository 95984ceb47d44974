-- Relations, but for Tells: what a consumer is told of an event, and what it writes.
use Rattle.std.specs.Prelude.{◌≡◌, ℕ, ◌+◌, ◌^◌, ◌<◌, Bool, true, false, is_some, List, [], ◌∷◌, ◌++◌, length, Some, None, Result, OnOk, if◌then◌else◌}
use Rattle.link_wire.specs.Device.{Output}
use Rattle.link_wire.specs.Inner.{inner_segment}
use Rattle.link_wire.specs.MessageBuffer.{IfSegmentItemsHaveTotals, message_of}
use Rattle.link_wire.specs.declared.{IoFault.IoFault, message.Message.Message}
use Rattle.link_transfer.specs.Order.{open_of}
use Rattle.link_transfer.specs.declared.joiner.Turn.TheVariants.{Continue}
use Rattle.link_run.specs.Run.{Texts, ◌then◌}
use Rattle.link_run.specs.Writers.{AfterWrite}
use Rattle.link_run.specs.declared.writers.Writers.{Writers}
use Rattle.link_run_over_transfers.specs.Walk.{Head, head_at, WalkEvent, ContactHeader, MessageHead, Whole, LeftOpen, data_events, data_size, has_open, head_events, Telling}
use Rattle.link_run_over_transfers.specs.declared.consumer.{Manner.Manner, EventView.EventView}
use Rattle.link_run_over_transfers.specs.declared.consumer.EventView.TheVariants as view
use Rattle.link_run_over_transfers.specs.declared.head.HeadView.{HeadView}

-- the head that a view is of
abbrev pub viewed_head : HeadView → Head
viewed_head head = record {
  offset = head.offset;
  message = message_of head.message.now;
  fault = head.fault;
  turn = head.turn;
}

-- The head may come after the events `before`. It is judged after the messages `taken`. A transfer
-- is open after these messages if and only if one is open after the events.
pub record HeadComes (before : List WalkEvent) (head : Head) : Type 0 where
  pub taken : List Message
  pub is : head ≡ head_at taken head.offset head.message
  pub opened : has_open before ≡ is_some (open_of taken)

-- the head of a segment in the middle of the open transfer: in order, and without flags
abbrev pub inner_head : (offset id size : ℕ) → Head
inner_head offset id size = record {
  offset = offset;
  message = inner_segment id size;
  fault = None;
  turn = Some (Continue false);
}

-- After these events, a tool may be told of a segment in the middle of the open transfer, with all
-- of its data. Only a tool that is told of all heads is told in this way. `few` bounds the data of
-- all events.
pub record InnerComes (manner : Manner) (before : List WalkEvent) (head : Head) (size : ℕ)
    : Type 0 where
  pub told : manner.all_heads ≡ true
  pub id : ℕ
  pub is : head ≡ inner_head head.offset id size
  pub comes : HeadComes before head
  pub opened : has_open before ≡ true
  pub few : data_size before + size < 2 ^ 63

-- the events of some data, and of the end of its transfer if `whole`
abbrev pub data_ends : List ℕ → (whole : Bool) → List WalkEvent
data_ends bytes whole = data_events bytes ++ (if whole then Whole ∷ [] else [])

-- a segment in the middle of the open transfer, with all of its data
abbrev pub inner_events : (all_heads : Bool) → Head → List ℕ → List WalkEvent
inner_events all_heads head bytes = head_events all_heads head ++ data_ends bytes false

-- the events that a tool is told of at once
abbrev pub viewed_events : EventView → List WalkEvent
viewed_events (view.Contact contact) = ContactHeader contact.now ∷ []
viewed_events (view.Head head) = MessageHead (viewed_head head) ∷ []
viewed_events (view.Inner head bytes) = MessageHead (viewed_head head) ∷ data_ends bytes.now false
viewed_events (view.Data bytes whole) = data_ends bytes.now whole
viewed_events view.LeftOpen = LeftOpen ∷ []

-- Whether a tool may be told of this after these events. The contact header comes first. Data comes
-- only if a transfer is open, and all data together has at most 2^63 - 1 bytes. `LeftOpen` also
-- comes only if a transfer is open.
abbrev pub MayCome : Manner → (before : List WalkEvent) → EventView → Type 0
MayCome manner before (view.Contact contact) = before ≡ []
MayCome manner before (view.Head head) = HeadComes before (viewed_head head)
MayCome manner before (view.Inner head bytes) =
    InnerComes manner before (viewed_head head) (length bytes.now)
MayCome manner before (view.Data bytes whole) =
    (has_open before ≡ true) × (data_size before + length bytes.now < 2 ^ 63)
MayCome manner before view.LeftOpen = has_open before ≡ true

-- if this event shows the head of a segment, the segment's buffer contains the total of each
-- Transfer Length item of 8 bytes (`IfSegmentItemsHaveTotals`)
abbrev pub IfHeadItemsHaveTotals : EventView → Type 0
IfHeadItemsHaveTotals (view.Head head) = IfSegmentItemsHaveTotals head.message.now
IfHeadItemsHaveTotals (view.Inner head bytes) = IfSegmentItemsHaveTotals head.message.now
IfHeadItemsHaveTotals event = Unit {0}

module _ {W E : Type 0} (out_look : W → Output) (report_look : E → Output)
    (telling : Telling) (knows : List WalkEvent → Type 0) (before added : List WalkEvent)
    (old new : Writers W E) where
  -- The events `added` follow the events `before`. What is said of them was written, and the tool
  -- `knows` all these events; or a writer failed while writing it.
  pub record Tells (result : Result (Unit {0}) IoFault) : Type 0 where
    pub texts : Texts
    pub said : telling.texts before then texts ≡ telling.texts (before ++ added)
    pub wrote : AfterWrite out_look report_look old new texts result
    pub known : OnOk result (knows (before ++ added))
