-- The part of a message that the rules on the order of messages use.
use Rattle.link_wire.specs.declared.message.Message.{Message}
use Rattle.link_wire.specs.declared.message.Message.TheVariants as message
use Rattle.link_transfer.specs.declared.event.Event.{Event}
use Rattle.link_transfer.specs.declared.event.Event.TheVariants as event

-- The event of a message. Acknowledgements and refusals (RFC 9174 sections 5.2.3 and 5.2.4) concern
-- transfers in the other direction.
abbrev pub event_of : Message → Event
event_of (message.SessInit keepalive segment_mru transfer_mru node items) = event.SessInit
event_of (message.SessTerm flags reason) = event.SessTerm
event_of (message.Segment head) = event.Segment head.flags head.id
event_of (message.Ack flags id size) = event.Other
event_of (message.Refuse reason id) = event.Other
event_of message.Keepalive = event.Other
event_of (message.MsgReject reason header) = event.Other
