-- The numbers of messages and of a session are in their ranges, and show the event.
use Rattle.std.proofs.Common.{◌≡◌}
use Rattle.link_wire.specs.declared.message.Message.{Message}
use Rattle.link_wire.specs.declared.message.Message.TheVariants as message
use Rattle.link_transfer.specs.Event.{event_of}
use Rattle.link_ffi_numbers.specs.Order.{event_by, HasNumbers}
use Rattle.link_ffi_numbers.specs.declared.recording.Message as numbers

pub same_event : (message : Message) (it : numbers.Message) → HasNumbers message it
    → event_of message ≡ event_by it
same_event (message.SessInit interval segment_mru transfer_mru node items) it has = rw has.same
same_event (message.Segment head) it has = rw (has.same, has.same_flags, has.same_id)
same_event (message.Ack own acked size) it has = rw has.same
same_event (message.Refuse reason refused) it has = rw has.same
same_event message.Keepalive it has = rw has.same
same_event (message.SessTerm own reason) it has = rw has.same
same_event (message.MsgReject reason header) it has = rw has.same
