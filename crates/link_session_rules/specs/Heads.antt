-- The heads of the messages that one entity sends, in order (RFC 9174). Every rule is judged by a
-- head and the heads before it. Those that are out of order and stray segments are among them.
use Rattle.std.specs.Prelude.{ℕ, Bool, true, false, ◌||◌, ◌==◌, List, [], ◌∷◌, map, reverse, is_some, Option, Some, None, if◌then◌else◌}
use Rattle.link_wire.specs.Codes.{is_start}
use Rattle.link_wire.specs.Codes as codes
use Rattle.link_wire.specs.declared.message.{Item.Item, SegmentHead.SegmentHead, Message.Message}
use Rattle.link_wire.specs.declared.message.Message.TheVariants.{SessInit, Segment, Ack, Refuse, Keepalive, SessTerm, MsgReject}
use Rattle.link_wire.specs.MessageBuffer.{message_of}
use Rattle.link_transfer.specs.declared.{fault.OrderFault.OrderFault, joiner.Turn.Turn}
use Rattle.link_session_rules.specs.declared.{head.JudgedHeadView.JudgedHeadView, session.Parameters.Parameters}

-- the head of a message, with the judgement of its order
pub record HeadWithOrder : Type 0 where
  pub message : Message
  -- why the message is not in order, if it is not
  pub fault : Option OrderFault
  -- what it does to the transfers; a stray segment does nothing
  pub turn : Option Turn

-- the judged head that a view shows
abbrev pub viewed_head : JudgedHeadView → HeadWithOrder
viewed_head head =
    record { message = message_of head.message.now; fault = head.fault; turn = head.turn }

-- the messages of these heads, in order
abbrev pub messages_of : List HeadWithOrder → List Message
messages_of heads = map (λ head. head.message) heads

-- the messages of these heads, the newest first
abbrev pub newest : List HeadWithOrder → List Message
newest heads = reverse (messages_of heads)

-- Whether a test passed at one of these messages, which are in a list, the newest first. The test
-- judges a message. Its first argument is the list of the messages before this message.
abbrev pub held : (List Message → Message → Bool) → List Message → Bool
held test [] = false
held test (latest ∷ older) = test older latest || held test older

-- ---- what a message is

-- the type byte of a message (section 4.5)
abbrev pub type_of : Message → ℕ
type_of (Segment segment) = codes.xfer_segment
type_of (Ack flags id size) = codes.xfer_ack
type_of (Refuse reason id) = codes.xfer_refuse
type_of Keepalive = codes.keepalive
type_of (SessTerm flags reason) = codes.sess_term
type_of (MsgReject reason header) = codes.msg_reject
type_of (SessInit interval segment_mru transfer_mru node items) = codes.sess_init

-- the head of a message that is a segment
abbrev pub segment_of : Message → Option SegmentHead
segment_of (Segment segment) = Some segment
segment_of message = None

-- the ID of the transfer that a segment with START begins (section 5.2.2)
abbrev pub start_id : Message → Option ℕ
start_id (Segment segment) = if is_start segment.flags then Some segment.id else None
start_id message = None

-- whether a message is a segment with START
abbrev pub begins_transfer : Message → Bool
begins_transfer message = is_some (start_id message)

abbrev pub is_sess_term : Message → Bool
is_sess_term (SessTerm flags reason) = true
is_sess_term message = false

abbrev pub is_keepalive : Message → Bool
is_keepalive Keepalive = true
is_keepalive message = false

-- whether a message is a SESS_INIT with interval 0, which says that its sender sends no KEEPALIVE
-- (section 4.7)
abbrev pub disables_keepalive : Message → Bool
disables_keepalive (SessInit interval segment_mru transfer_mru node items) = interval == 0
disables_keepalive message = false

-- the parameters of a session that a SESS_INIT sets, beside its node ID and its items (section 4.6)
abbrev pub parameters_of : Message → Option Parameters
parameters_of (SessInit interval segment_mru transfer_mru node items) = Some (record {
  interval = interval;
  segment_mru = segment_mru;
  transfer_mru = transfer_mru;
})
parameters_of message = None

abbrev pub is_sess_init : Message → Bool
is_sess_init message = is_some (parameters_of message)

-- whether a message is part of a transfer, or answers one (section 5.2)
abbrev pub is_of_transfer : Message → Bool
is_of_transfer (Segment segment) = true
is_of_transfer (Ack flags id size) = true
is_of_transfer (Refuse reason id) = true
is_of_transfer message = false

-- the extension items of a SESS_INIT or of a segment (sections 4.8 and 5.2.5)
abbrev pub items_of : Message → List Item
items_of (SessInit interval segment_mru transfer_mru node items) = items.items
items_of (Segment segment) = segment.items.items
items_of message = []
