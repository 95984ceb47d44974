-- The order of messages as numbers.
use Rattle.std.specs.Prelude.{◌≡◌, ℕ, ◌≤◌, nat_le, Bool, true, false, ◌==◌, ◌&&◌, List, Option, Some, None, Result, Ok, Err, if◌then◌else◌}
use Rattle.link_wire.specs.declared.message.Message.{Message}
use Rattle.link_wire.specs.declared.message.Message.TheVariants as message
use Rattle.link_transfer.specs.Order.{has_sess_init, has_sess_term, open_of}
use Rattle.link_transfer.specs.declared.event.Event.{Event}
use Rattle.link_transfer.specs.declared.event.Event.TheVariants as event
use Rattle.link_transfer.specs.declared.fault.OrderFault.{OrderFault}
use Rattle.link_transfer.specs.declared.fault.OrderFault.TheVariants.{SecondSessInit, SegmentBeforeSessInit, NoSuchOpenTransfer, StartRepeatsOpenId, StartAfterSessTerm}
use Rattle.link_transfer.specs.declared.joiner.Turn as effect
use Rattle.link_transfer.specs.declared.joiner.Turn.TheVariants.{Other, Begin, Continue}
use Rattle.link_ffi_numbers.specs.Status.{status_ok, status_fault}
use Rattle.link_ffi_numbers.specs.declared.order.{Order.Order, Turn.Turn}
use Rattle.link_ffi_numbers.specs.declared.recording.Message as numbers

-- the code of a fault of the order of messages
abbrev pub order_code : OrderFault → ℕ
order_code SecondSessInit = 51
order_code SegmentBeforeSessInit = 52
order_code NoSuchOpenTransfer = 53
order_code StartRepeatsOpenId = 54
order_code StartAfterSessTerm = 55

-- the event of a message with these numbers: kind 7 is SESS_INIT, 5 is SESS_TERM, and 1 is
-- XFER_SEGMENT
abbrev pub event_by : numbers.Message → Event
event_by it =
    if it.kind == 7 then event.SessInit
    else if it.kind == 5 then event.SessTerm
    else if it.kind == 1 then event.Segment it.flags it.id
    else event.Other

-- The message has this kind, and its flags fit in one byte. Unless it is a segment, the judgement
-- of its order depends on nothing else.
pub record IsOfKind (wanted : ℕ) (it : numbers.Message) : Type 0 where
  pub same : it.kind ≡ wanted
  pub byte : it.flags ≤ 255

-- the message is an XFER_SEGMENT with these flags and this ID; the order depends on nothing else
pub record IsSegment (flags id : ℕ) (it : numbers.Message) : Type 0 where
  pub same : it.kind ≡ 1
  pub same_flags : it.flags ≡ flags
  pub same_id : it.id ≡ id
  pub byte : flags ≤ 255

-- the numbers `it` are those of the message, as far as the order depends on them
abbrev pub HasNumbers : Message → numbers.Message → Type 0
HasNumbers (message.SessInit interval segment_mru transfer_mru node items) it = IsOfKind 7 it
HasNumbers (message.Segment head) it = IsSegment head.flags head.id it
HasNumbers (message.Ack own acked size) it = IsOfKind 2 it
HasNumbers (message.Refuse reason refused) it = IsOfKind 3 it
HasNumbers message.Keepalive it = IsOfKind 4 it
HasNumbers (message.SessTerm own reason) it = IsOfKind 5 it
HasNumbers (message.MsgReject reason header) it = IsOfKind 6 it

-- a Boolean, as a number
abbrev pub bit : Bool → ℕ
bit true = 1
bit false = 0

-- the numbers of a message that does nothing to the transfers
abbrev pub no_turn : Turn
no_turn = record { fault = 0; turn = 0; last = 0; abandons = 0; abandoned = 0 }

-- the first segment of a transfer, as numbers; the `Option` is the ID of the transfer that it
-- abandons, if one is open
abbrev pub begin_shown : Option ℕ → Bool → Turn
begin_shown None last = record no_turn { turn = 1; last = bit last }
begin_shown (Some transfer) last =
    record no_turn { turn = 1; last = bit last; abandons = 1; abandoned = transfer }

-- what an accepted message does to the transfers, as numbers
abbrev pub turn_shown : effect.Turn → Turn
turn_shown Other = no_turn
turn_shown (Begin transfer last) = begin_shown transfer last
turn_shown (Continue last) = record no_turn { turn = 2; last = bit last }

-- the ID of the open transfer, or `None` if none is open; `transfer` is read only if `is_open` is 1
abbrev pub transfer_by : (is_open transfer : ℕ) → Option ℕ
transfer_by is_open transfer = if is_open == 1 then Some transfer else None

-- the numbers are those of a session that has had exactly these messages
pub record IsOrderAt (order : Order) (before : List Message) : Type 0 where
  pub initiated : order.initiated ≡ bit (has_sess_init before)
  pub terminated : order.terminated ≡ bit (has_sess_term before)
  pub transfer : transfer_by order.is_open order.transfer ≡ open_of before
  pub is_bit : order.is_open ≤ 1

-- whether the kind is 1 to 7, the flags fit in one byte, and each bit of `order` is 0 or 1
abbrev pub is_in_range : Order → numbers.Message → Bool
is_in_range order it =
    nat_le 1 it.kind && (nat_le it.kind 7 && (nat_le it.flags 255
    && (nat_le order.initiated 1 && (nat_le order.terminated 1 && nat_le order.is_open 1))))

-- `answer` and `status` are what a call returns for a message with this judgement; a refused
-- message does nothing
abbrev pub ReturnsTurn : Result effect.Turn OrderFault → Turn → ℕ → Type 0
ReturnsTurn (Ok turn) answer status = (status ≡ status_ok) × (answer ≡ turn_shown turn)
ReturnsTurn (Err fault) answer status =
    (status ≡ status_fault) × (answer ≡ record no_turn { fault = order_code fault })

-- what a message that was taken does to the transfers, as numbers; `None` is a stray segment, which
-- does nothing and has `turn` 3
abbrev pub effect_shown : Option effect.Turn → Turn
effect_shown (Some turn) = turn_shown turn
effect_shown None = record no_turn { turn = 3 }

-- the code of a fault of the order and TCPCLKIT_FAULT, or 0 and TCPCLKIT_OK if there is no fault
abbrev pub fault_shown : Option OrderFault → ℕ × ℕ
fault_shown None = (0, 0)
fault_shown (Some fault) = (order_code fault, 4)

-- The turn that is returned for a message that was taken, even out of order: the code of the fault
-- of the order, or 0, and what the message does.
pub record ReturnsTakenTurn (fault : Option OrderFault) (effect : Option effect.Turn)
    (answer : Turn) (status : ℕ) : Type 0 where
  pub numbers : answer ≡ record (effect_shown effect) { fault = (fault_shown fault).0 }
  pub gives : status ≡ (fault_shown fault).1
