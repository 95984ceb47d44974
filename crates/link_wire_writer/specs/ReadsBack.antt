-- The laws of the writers of messages: what was written is read as these fields.
use Rattle.std.specs.Prelude.{◌≡◌, ℕ, ◌^◌, ◌<◌, ◌≤◌, true, List, [], ◌++◌, length, map, Result, Ok, Err}
use Rattle.std.specs.List.{All, flat_map}
use Rattle.arrayvec.specs.ArrayVec.{ArrayVec}
use Rattle.link_wire.specs.Limits.{longest_list, most_items}
use Rattle.link_wire.specs.Message.{message_at, items_of}
use Rattle.link_wire.specs.MessageBuffer.{message_with}
use Rattle.link_wire.specs.Spelled.{total_of}
use Rattle.link_wire.specs.declared.fault.WireFault.{WireFault}
use Rattle.link_wire.specs.declared.message.{Item.Item, ListOf.ListOf, ListOf.TheVariants.{Session, Transfer}}
use Rattle.link_wire.specs.declared.message.Fields.{Fields}
use Rattle.link_wire.specs.declared.message.Fields.TheVariants.{SessInit, Segment, Ack, Refuse, Keepalive, SessTerm, MsgReject}
use Rattle.link_wire.specs.declared.message.Message.{Message}
use Rattle.link_wire_writer.specs.MessageBytes.{message_bytes, item_bytes, is_writable}

-- each number fits in its field
abbrev pub FieldsFit : Fields → Type 0
FieldsFit (SessInit interval segment_mru transfer_mru) =
    (interval < 2 ^ 16) × (segment_mru < 2 ^ 64) × (transfer_mru < 2 ^ 64)
FieldsFit (Segment flags id size) = (flags < 2 ^ 8) × (id < 2 ^ 64) × (size < 2 ^ 64)
FieldsFit (Ack flags id size) = (flags < 2 ^ 8) × (id < 2 ^ 64) × (size < 2 ^ 64)
FieldsFit (Refuse reason id) = (reason < 2 ^ 8) × (id < 2 ^ 64)
FieldsFit Keepalive = Unit {0}
FieldsFit (SessTerm flags reason) = (flags < 2 ^ 8) × (reason < 2 ^ 8)
FieldsFit (MsgReject reason header) = (reason < 2 ^ 8) × (header < 2 ^ 8)

-- ---- messages

-- the items that were read; none after a fault
abbrev pub items_or_none : Result (ArrayVec Item × List ℕ) WireFault → ArrayVec Item
items_or_none (Ok (items, rest)) = items
items_or_none (Err fault) = record { items = [] }

-- the items that are read from the bytes of a message's list
abbrev pub items_in : Fields → (items : List ℕ) → ArrayVec Item
items_in (SessInit interval segment_mru transfer_mru) items =
    items_or_none (items_of Session (length items) items)
items_in fields items = items_or_none (items_of Transfer (length items) items)

-- the message with these fields, this node ID, and these items
abbrev pub written_message : Fields → (node items : List ℕ) → Message
written_message fields node items =
    message_with fields (record { items = node }) (items_in fields items)

-- The head that was written is read as this message, whatever bytes follow it. The bytes that
-- follow (`more`) are left.
abbrev pub MessageReadsBack : Type 0
MessageReadsBack =
    (fields : Fields) (node items more : List ℕ) → FieldsFit fields →
    is_writable fields node items ≡ true → message_at (message_bytes fields node items ++ more)
    ≡ Ok (written_message fields node items, more)

-- ---- items

-- an extension item to write: its flags, its type, and the bytes of its value
pub record NewItem : Type 0 where
  pub flags : ℕ
  pub kind : ℕ
  pub value : List ℕ

-- the flags and the type of an item fit in their fields
abbrev pub ItemFieldsFit : NewItem → Type 0
ItemFieldsFit item = (item.flags < 2 ^ 8) × (item.kind < 2 ^ 16)

-- the bytes of items one after another
abbrev pub items_bytes : List NewItem → List ℕ
items_bytes items = flat_map (λ (item : NewItem). item_bytes item.flags item.kind item.value) items

-- An item as it is read. Its value is not kept, except the total length in a Transfer Length item.
abbrev pub read_item : (owner : ListOf) → NewItem → Item
read_item owner item = record {
  flags = item.flags;
  kind = item.kind;
  length = length item.value;
  total = total_of owner item.kind (length item.value) item.value;
}

-- Items that were written one after another are read as these items, if a list may have them: at
-- most 64, in at most 65,536 bytes.
abbrev pub ItemsReadBack : Type 0
ItemsReadBack =
    (owner : ListOf) (items : List NewItem) → All ItemFieldsFit items → length items ≤ most_items →
    length (items_bytes items) ≤ longest_list →
    items_of owner (length (items_bytes items)) (items_bytes items)
    ≡ Ok (record { items = map (read_item owner) items }, [])
