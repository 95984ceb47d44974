-- A contact header, a message and an extension item as numbers.
use Rattle.std.specs.Prelude.{◌≡◌, ℕ, ◌+◌, ◌-◌, ◌^◌, ◌==◌, ◌&&◌, ◌||◌, Bool, nat_le, min, List, length, Option, Some, None, Ok, Err, if◌then◌else◌}
use Rattle.link_wire.specs.InSlice.{MessageLies, ItemLies}
use Rattle.link_wire.specs.Message.{item_head_at, total_at}
use Rattle.link_wire.specs.Part.{Part, ◌>>=◌}
use Rattle.link_wire.specs.declared.fault.{WireFault.WireFault, WireFault.TheVariants.Truncated}
use Rattle.link_wire.specs.declared.message.Contact as wire
use Rattle.link_wire.specs.declared.message.Fields.{Fields}
use Rattle.link_wire.specs.declared.message.Fields.TheVariants.{SessInit, Segment, Ack, Refuse, Keepalive, SessTerm, MsgReject}
use Rattle.link_wire.specs.declared.message.{ListOf.ListOf, ListOf.TheVariants.Session, ListOf.TheVariants.Transfer}
use Rattle.link_wire.specs.declared.message.Message as read
use Rattle.link_wire.specs.declared.slices.{ItemAt.ItemAt, MessageAt.MessageAt, Span.Span}
use Rattle.link_ffi_numbers.specs.Fault.{no_fault, wire_status, wire_fault}
use Rattle.link_ffi_numbers.specs.Status.{status_ok, status_data_truncated}
use Rattle.link_ffi_numbers.specs.declared.{fault.Fault.Fault, recording.Contact.Contact}
use Rattle.link_ffi_numbers.specs.declared.recording.{Item.Item, Message.Message}

-- A field that does not apply to a status, or to a kind of message, is 0. tcpclkit.h names the
-- kinds of each field.

-- a contact header with these flags, without a fault
abbrev pub contact_shown : (flags : ℕ) → Contact
contact_shown flags = record { fault = no_fault; flags = flags }

-- a fault in place of a contact header
abbrev pub no_contact : Fault → Contact
no_contact fault = record { fault = fault; flags = 0 }

-- `answer` and `status` are what a call returns for this reading of the contact header
pub record ReturnsContact (part : Part wire.Contact) (answer : Contact) (status : ℕ) : Type 0 where
  pub whole : (contact : wire.Contact) (rest : List ℕ) → part ≡ Ok (contact, rest)
      → (status ≡ status_ok) × (answer ≡ contact_shown contact.flags)
  pub fault : (fault : WireFault) → part ≡ Err fault
      → (status ≡ wire_status fault) × (answer ≡ no_contact (wire_fault fault 0))

-- a message of no kind
abbrev pub nothing : Message
nothing =
    record {
      fault = no_fault;
      kind = 0;
      flags = 0;
      reason = 0;
      header = 0;
      id = 0;
      acknowledged = 0;
      keepalive = 0;
      segment_mru = 0;
      transfer_mru = 0;
      node_offset = 0;
      node_length = 0;
      items_offset = 0;
      items_length = 0;
      data_offset = 0;
      data_length = 0;
      data_seen = 0;
      next = 0;
    }

-- a fault in place of a message
abbrev pub no_message : Fault → Message
no_message fault = record nothing { fault = fault }

-- the kind and the numbers of a message, without where its parts lie and how much data is there
abbrev pub fields_shown : Fields → Message
fields_shown (SessInit interval segment_mru transfer_mru) =
    record nothing {
      kind = 7;
      keepalive = interval;
      segment_mru = segment_mru;
      transfer_mru = transfer_mru;
    }
fields_shown (Segment flags id size) =
    record nothing { kind = 1; flags = flags; id = id; data_length = size }
fields_shown (Ack flags id size) =
    record nothing { kind = 2; flags = flags; id = id; acknowledged = size }
fields_shown (Refuse reason id) = record nothing { kind = 3; reason = reason; id = id }
fields_shown Keepalive = record nothing { kind = 4 }
fields_shown (SessTerm flags reason) =
    record nothing { kind = 5; flags = flags; reason = reason }
fields_shown (MsgReject reason header) =
    record nothing { kind = 6; reason = reason; header = header }

-- the span of a part that the message does not have
abbrev pub nowhere : Span
nowhere = record { offset = 0; length = 0 }

-- where the node ID of a message is; only a SESS_INIT has one
abbrev pub node_of : Fields → Span → Span
node_of (SessInit interval segment_mru transfer_mru) node = node
node_of _ node = nowhere

-- where the items of a message are; only a SESS_INIT and a segment have a list
abbrev pub items_of : Fields → Span → Span
items_of (SessInit interval segment_mru transfer_mru) items = items
items_of (Segment flags id size) items = items
items_of _ items = nowhere

-- the number of data bytes of a message, by its head; 0 if it is no segment
abbrev pub size_of : MessageAt → ℕ
size_of found = (fields_shown found.fields).data_length

-- no fault, or `Truncated` at the offset of the message if its data ends after the first `size`
-- bytes
abbrev pub data_fault : (size offset : ℕ) → MessageAt → Fault
data_fault size offset found =
    if nat_le (size_of found) (size - found.end) then no_fault else wire_fault Truncated offset

-- The message at `offset` among `size` bytes, with the offsets of its parts. `next` is the offset
-- after all of its data, also if the bytes end before that. It is at most 2^64 - 1.
abbrev pub message_shown : (size offset : ℕ) → MessageAt → Message
message_shown size offset found =
    record (fields_shown found.fields) {
      fault = data_fault size offset found;
      node_offset = (node_of found.fields found.node).offset;
      node_length = (node_of found.fields found.node).length;
      items_offset = (items_of found.fields found.items).offset;
      items_length = (items_of found.fields found.items).length;
      data_offset = found.end;
      data_seen = min (size_of found) (size - found.end);
      next = min (found.end + size_of found) (2 ^ 64 - 1);
    }

-- TCPCLKIT_OK, or TCPCLKIT_DATA_TRUNCATED if the first `size` bytes end inside the message's data
abbrev pub data_status : ℕ → MessageAt → ℕ
data_status size found =
    if nat_le (size_of found) (size - found.end) then status_ok else status_data_truncated

-- `part` is the message that was read. The numbers describe it, and its node ID, its items and its
-- data lie where the numbers say.
pub record DescribesMessage (bytes : List ℕ) (offset : ℕ) (part : Part read.Message)
    (answer : Message) (status : ℕ) : Type 0 where
  pub found : MessageAt
  pub lies : MessageLies bytes part found
  pub numbers : answer ≡ message_shown (length bytes) offset found
  pub gives : status ≡ data_status (length bytes) found

-- `answer` and `status` are what a call returns for this reading of the message at the offset
pub record ReturnsMessage (bytes : List ℕ) (offset : ℕ) (part : Part read.Message)
    (answer : Message) (status : ℕ) : Type 0 where
  pub whole : (message : read.Message) (rest : List ℕ) → part ≡ Ok (message, rest)
      → DescribesMessage bytes offset part answer status
  pub fault : (fault : WireFault) → part ≡ Err fault
      → (status ≡ wire_status fault) × (answer ≡ no_message (wire_fault fault offset))

-- which list the extension items of a message form: the list of a SESS_INIT (kind 7), or the list
-- of a segment
abbrev pub list_of : Message → ListOf
list_of it = if it.kind == 7 then Session else Transfer

-- the offset after the extension items of a message
abbrev pub items_end : Message → ℕ
items_end it = it.items_offset + it.items_length

-- Whether the message has a list of items among `size` bytes, and the offset is in the list or at
-- its end. Only a SESS_INIT (kind 7) and a segment (kind 1) have a list.
abbrev pub has_list_at : (size : ℕ) → Message → (offset : ℕ) → Bool
has_list_at size it offset =
    (it.kind == 7 || it.kind == 1) && (nat_le it.items_length 65536
    && (nat_le (items_end it) size
    && (nat_le it.items_offset offset && nat_le offset (items_end it))))

-- 1 and the total, or two zeros if there is none
abbrev pub total_shown : Option ℕ → ℕ × ℕ
total_shown None = (0, 0)
total_shown (Some total) = (1, total)

-- a fault in place of an item
abbrev pub no_item : Fault → Item
no_item fault =
    record {
      fault = fault;
      flags = 0;
      item_type = 0;
      value_offset = 0;
      value_length = 0;
      has_total = 0;
      total = 0;
      next = 0;
    }

-- an item with the offset of its value
abbrev pub item_shown : ItemAt → Item
item_shown found =
    record {
      fault = no_fault;
      flags = found.item.flags;
      item_type = found.item.kind;
      value_offset = found.value;
      value_length = found.item.length;
      has_total = (total_shown found.item.total).0;
      total = (total_shown found.item.total).1;
      next = found.value + found.item.length;
    }

-- The reading of the extension item at the start of `bytes`. Its list ends after `left` bytes. The
-- value read is the total of a Transfer Length item, or `None` for any other item.
abbrev pub item_part : ListOf → ℕ → List ℕ → Part (Option ℕ)
item_part owner left bytes = item_head_at left bytes >>= λ (head, rest). total_at owner head.kind head.length rest

-- The numbers describe the item at `offset`, and its value lies where they say. The list of the
-- item has `left` bytes from `offset` on.
pub record DescribesItem (owner : ListOf) (bytes : List ℕ) (offset left : ℕ) (answer : Item)
    (status : ℕ) : Type 0 where
  pub found : ItemAt
  pub lies : ItemLies owner bytes left offset found
  pub numbers : answer ≡ item_shown found
  pub gives : status ≡ status_ok

-- `answer` and `status` are what a call returns for this reading of the item at `offset`. The list
-- of the item has `left` bytes from there on.
pub record ReturnsItem (owner : ListOf) (bytes : List ℕ) (offset left : ℕ)
    (part : Part (Option ℕ)) (answer : Item) (status : ℕ) : Type 0 where
  pub whole : (total : Option ℕ) (rest : List ℕ) → part ≡ Ok (total, rest)
      → DescribesItem owner bytes offset left answer status
  pub fault : (fault : WireFault) → part ≡ Err fault
      → (status ≡ wire_status fault) × (answer ≡ no_item (wire_fault fault offset))
