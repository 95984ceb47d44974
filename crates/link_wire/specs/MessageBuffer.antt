-- The message that a buffer holds.
use Rattle.std.specs.Prelude.{ℕ, [], if◌then◌else◌}
use Rattle.arrayvec.specs.ArrayVec.{ArrayVec}
use Rattle.link_wire.specs.Codes.{is_start}
use Rattle.link_wire.specs.Message.{HaveTotalsIfLengthItems}
use Rattle.link_wire.specs.declared.message.{Item.Item, Fields.Fields}
use Rattle.link_wire.specs.declared.message.Fields.TheVariants as fields
use Rattle.link_wire.specs.declared.message.Message.{Message}
use Rattle.link_wire.specs.declared.message.Message.TheVariants.{SessInit, Segment, Ack, Refuse, Keepalive, SessTerm, MsgReject}
use Rattle.link_wire.specs.declared.message.MessageBuffer.{MessageBuffer}

-- the items of a segment, which has them only with START (section 5.2.2)
abbrev pub segment_items : ℕ → ArrayVec Item → ArrayVec Item
segment_items flags items = if is_start flags then items else record { items = [] }

-- the message with these numbers, this node ID and these items
abbrev pub message_with : Fields → ArrayVec ℕ → ArrayVec Item → Message
message_with (fields.SessInit interval segment_mru transfer_mru) node items =
    SessInit interval segment_mru transfer_mru node items
message_with (fields.Segment flags id size) node items =
    Segment (record { flags = flags; id = id; items = segment_items flags items; length = size })
message_with (fields.Ack flags id size) node items = Ack flags id size
message_with (fields.Refuse reason id) node items = Refuse reason id
message_with fields.Keepalive node items = Keepalive
message_with (fields.SessTerm flags reason) node items = SessTerm flags reason
message_with (fields.MsgReject reason header) node items = MsgReject reason header

-- the message that a buffer holds
abbrev pub message_of : MessageBuffer → Message
message_of buffer = message_with buffer.fields buffer.node buffer.items

-- If the message is a segment, `HaveTotalsIfLengthItems` holds of the items in the buffer. This
-- includes a segment without START, which shows no items.
abbrev pub IfSegmentItemsHaveTotalsBy : Fields → ArrayVec Item → Type 0
IfSegmentItemsHaveTotalsBy (fields.Segment flags id size) items =
    HaveTotalsIfLengthItems items.items
IfSegmentItemsHaveTotalsBy _ items = Unit {0}

-- `IfSegmentItemsHaveTotalsBy` for the fields and items of a buffer
abbrev pub IfSegmentItemsHaveTotals : MessageBuffer → Type 0
IfSegmentItemsHaveTotals buffer = IfSegmentItemsHaveTotalsBy buffer.fields buffer.items
