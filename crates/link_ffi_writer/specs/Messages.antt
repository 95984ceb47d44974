-- The message that numbers describe.
use Rattle.std.specs.Prelude.{◌≡◌, ◌≢◌, ℕ, ◌==◌, Bool, ◌&&◌, nat_lt, List, Option, Some, None, option_map, if◌then◌else◌}
use Rattle.std.specs.Option.{option_and_then}
use Rattle.link_wire_writer.specs.MessageBytes.{item_of}
use Rattle.link_wire_writer.specs.ReadsBack.{FieldsFit}
use Rattle.link_report.specs.declared.reason.ReasonOf.{ReasonOf}
use Rattle.link_report.specs.declared.reason.ReasonOf.TheVariants as reasons
use Rattle.link_ffi_numbers.specs.Fault.{no_fault}
use Rattle.link_ffi_numbers.specs.Recording.{fields_shown}
use Rattle.link_ffi_numbers.specs.declared.recording.Message.{Message}
use Rattle.link_wire.specs.declared.message.Fields.{Fields}
use Rattle.link_wire.specs.declared.message.Fields.TheVariants.{SessInit, Segment, Ack, Refuse, Keepalive, SessTerm, MsgReject}

-- The kind and the numbers of a message alone. Its fault and the offsets and lengths that say where
-- its parts lie are set to 0.
abbrev pub plain : Message → Message
plain it =
    record it {
      fault = no_fault;
      node_offset = 0;
      node_length = 0;
      items_offset = 0;
      items_length = 0;
      data_offset = 0;
      data_seen = 0;
      next = 0;
    }

-- Each field fits, and `it` shows the kind and the numbers of a message with these fields. A number
-- that this kind of message does not have is 0.
pub record HasFields (it : Message) (fields : Fields) : Type 0 where
  pub fit : FieldsFit fields
  pub shown : plain it ≡ fields_shown fields

-- no message has these numbers
abbrev pub IsNoMessage : Message → Type 0
IsNoMessage it = (fields : Fields) → FieldsFit fields → plain it ≢ fields_shown fields

-- What a call says of the message with these numbers: its fields, or `None` if no message has them.
abbrev pub FindsFields : Message → Option Fields → Type 0
FindsFields it (Some fields) = HasFields it fields
FindsFields it None = IsNoMessage it

-- the number if it fits in one byte, or else `None`
abbrev pub byte : ℕ → Option ℕ
byte number = if nat_lt number 256 then Some number else None

-- the number if it fits in two bytes, or else `None`
abbrev pub two_bytes : ℕ → Option ℕ
two_bytes number = if nat_lt number 65536 then Some number else None

-- The fields of a message of this kind. Numbers that this kind does not use are not read. The
-- result is `None` if the kind is unknown, or if a number is too large for its field.
unfoldable pub fields_of : Message → Option Fields
fields_of it =
    if it.kind == 1 then option_map (λ flags. Segment flags it.id it.data_length) (byte it.flags)
    else if it.kind == 2 then option_map (λ flags. Ack flags it.id it.acknowledged) (byte it.flags)
    else if it.kind == 3 then option_map (λ reason. Refuse reason it.id) (byte it.reason)
    else if it.kind == 4 then Some Keepalive
    else if it.kind == 5
    then option_and_then (λ flags. option_map (λ reason. SessTerm flags reason) (byte it.reason))
    (byte it.flags)
    else if it.kind == 6
    then option_and_then (λ reason. option_map (λ header. MsgReject reason header) (byte it.header))
    (byte it.reason)
    else if it.kind == 7
    then option_map (λ interval. SessInit interval it.segment_mru it.transfer_mru)
    (two_bytes it.keepalive)
    else None

-- whether two messages have the same kind and the same numbers
unfoldable pub has_same : (first second : Message) → Bool
has_same first second =
    first.kind == second.kind && (first.flags == second.flags && (first.reason == second.reason
    && (first.header == second.header && (first.id == second.id
    && (first.acknowledged == second.acknowledged && (first.keepalive == second.keepalive
    && (first.segment_mru == second.segment_mru && (first.transfer_mru == second.transfer_mru
    && first.data_length == second.data_length))))))))

-- the bytes of an item with these flags and this type, or `None` if a number is out of its range
abbrev pub item_by : (flags kind : ℕ) → (value : List ℕ) → Option (List ℕ)
item_by flags kind value =
    if nat_lt flags 256 && nat_lt kind 65536 then item_of flags kind value else None

-- the message with this type byte, if it has a reason: XFER_REFUSE, SESS_TERM or MSG_REJECT
abbrev pub reason_of_by : (kind : ℕ) → Option ReasonOf
reason_of_by kind =
    if kind == 3 then Some reasons.Refuse
    else if kind == 5 then Some reasons.SessTerm
    else if kind == 6 then Some reasons.MsgReject
    else None
