-- The messages of TCPCLv4 (RFC 9174), read from a list of bytes field by field, in written order.
-- The first field that is missing or breaks its rule gives the fault.
use Rattle.std.specs.Prelude.{◌≡◌, ℕ, zero, suc, ◌+◌, ◌-◌, Bool, false, ◌&&◌, List, [], ◌∷◌, All, slice_index, Option, Some, None, IsSome, Ok, Err, nat_lt, ◌==◌, if◌then◌else◌}
use Rattle.arrayvec.specs.ArrayVec.{ArrayVec}
use Rattle.byteorder.specs.Endian.{big_number}
use Rattle.link_wire.specs.Codes.{magic, tcpcl_version, xfer_segment, xfer_ack, xfer_refuse, keepalive, sess_term, msg_reject, sess_init, is_start, item_head, transfer_length, total_size}
use Rattle.link_wire.specs.Limits.{longest_node, longest_list, most_items}
use Rattle.link_wire.specs.Part.{Part, ◌>>=◌, bytes_at, number_at}
use Rattle.link_wire.specs.declared.fault.WireFault.TheVariants.{BadMagic, BadVersion, UnknownType, NodeIdTooLong, ListTooLong, TooManyItems, ItemsOverrun}
use Rattle.link_wire.specs.declared.message.{Contact.Contact, Item.Item, ListOf.ListOf}
use Rattle.link_wire.specs.declared.message.ListOf.TheVariants.{Session, Transfer}
use Rattle.link_wire.specs.declared.{list.ItemHead.ItemHead, message.Message.Message}
use Rattle.link_wire.specs.declared.message.Message.TheVariants.{SessInit, Segment, Ack, Refuse, Keepalive, SessTerm, MsgReject}

-- the contact header with these six bytes, judged by its version; `bytes` follow it
abbrev pub contact_by : (header bytes : List ℕ) → Part Contact
contact_by header bytes =
    if slice_index header 4 == tcpcl_version
    then Ok (record { flags = slice_index header 5 }, bytes)
    else Err (BadVersion (slice_index header 4))

-- the contact header (section 4.2), of six bytes: `dtn!`, the version, and the flags
unfoldable pub contact_at : List ℕ → Part Contact
contact_at bytes = do
  (header, bytes) ← bytes_at 6 bytes
  if big_number 4 header == magic then contact_by header bytes else Err BadMagic

-- the bytes of a node ID
unfoldable pub node_bytes_at : ℕ → List ℕ → Part (ArrayVec ℕ)
node_bytes_at size bytes = do
  (node, bytes) ← bytes_at size bytes
  Ok (record { items = node }, bytes)

-- a node ID (section 4.6): its length, which is limited, and its bytes
unfoldable pub node_at : List ℕ → Part (ArrayVec ℕ)
node_at bytes = do
  (size, bytes) ← number_at 2 bytes
  if nat_lt longest_node size then Err (NodeIdTooLong size) else node_bytes_at size bytes

-- the next `n` bytes, which are skipped
unfoldable pub skipped_at : ℕ → List ℕ → Part (Unit {0})
skipped_at n bytes = do
  (skipped, bytes) ← bytes_at n bytes
  Ok (tt, bytes)

-- `owner` is what an extension list belongs to: a session (SESS_INIT) or a transfer (XFER_SEGMENT)

-- whether the value of an item is a total length: the item is in a transfer's list, and has the
-- type and the size of a Transfer Length item (section 5.2.5.1)
abbrev pub is_total_length : ListOf → ℕ → ℕ → Bool
is_total_length Session kind size = false
is_total_length Transfer kind size = kind == transfer_length && size == total_size

-- the value of an extension item, which is kept only if it is a total length
unfoldable pub total_at : ListOf → ℕ → ℕ → List ℕ → Part (Option ℕ)
total_at owner kind size bytes =
    if is_total_length owner kind size
    then (do
      (total, bytes) ← number_at total_size bytes
      Ok (Some total, bytes))
    else (do
      (value, bytes) ← skipped_at size bytes
      Ok (None, bytes))

-- If an item of a transfer's list has the type and the size of a Transfer Length item, the total in
-- its value was kept. `HasTotalIfLengthItem` holds of every other item.
abbrev pub HasTotalIfLengthItem : Item → Type 0
HasTotalIfLengthItem item = item.kind ≡ transfer_length → item.length ≡ total_size
    → IsSome item.total

-- `HasTotalIfLengthItem` holds of each item of a transfer's list
abbrev pub HaveTotalsIfLengthItems : List Item → Type 0
HaveTotalsIfLengthItems items = All HasTotalIfLengthItem items

-- The head of the next extension item (section 4.8): its flags, type and length. The list has
-- `left` more bytes, and the item has to end within them.
unfoldable pub item_head_at : ℕ → List ℕ → Part ItemHead
item_head_at left bytes =
    if nat_lt left item_head
    then Err ItemsOverrun
    else (do
      (flags, bytes) ← number_at 1 bytes
      (kind, bytes) ← number_at 2 bytes
      (size, bytes) ← number_at 2 bytes
      if nat_lt (left - item_head) size
          then Err ItemsOverrun
          else Ok (record { flags = flags; kind = kind; length = size }, bytes))

-- The items of a list that has `left` more bytes; at most `room` more items may come. They have to
-- fill these bytes exactly. If bytes are left and no more items may come, the head of the next item
-- is read first. So a fault of that head comes before `TooManyItems`.
unfoldable pub items_at : ListOf → ℕ → ℕ → List ℕ → Part (List Item)
items_at owner zero left bytes =
    if left == 0
    then Ok ([], bytes)
    else (do
      _ ← item_head_at left bytes
      Err TooManyItems)
items_at owner (suc room) left bytes =
    if left == 0
    then Ok ([], bytes)
    else (do
      (head, bytes) ← item_head_at left bytes
      (total, bytes) ← total_at owner head.kind head.length bytes
      (others, bytes) ← items_at owner room (left - (item_head + head.length)) bytes
      Ok (
        record {
          flags = head.flags;
          kind = head.kind;
          length = head.length;
          total = total;
        } ∷ others,
        bytes,
      ))

-- the items of a list of `size` bytes
unfoldable pub items_of : ListOf → ℕ → List ℕ → Part (ArrayVec Item)
items_of owner size bytes = do
  (items, bytes) ← items_at owner most_items size bytes
  Ok (record { items = items }, bytes)

-- an extension list: its length in bytes (section 4.6), which is limited, and its items (4.8)
unfoldable pub list_at : ListOf → List ℕ → Part (ArrayVec Item)
list_at owner bytes = do
  (size, bytes) ← number_at 4 bytes
  if nat_lt longest_list size then Err (ListTooLong size) else items_of owner size bytes

-- the extension list of a segment (section 5.2.2), which has one only with START
unfoldable pub segment_items_at : ℕ → List ℕ → Part (ArrayVec Item)
segment_items_at flags bytes =
    if is_start flags then list_at Transfer bytes else Ok (record { items = [] }, bytes)

-- XFER_SEGMENT without its data (section 5.2.2)
unfoldable pub segment_at : List ℕ → Part Message
segment_at bytes = do
  (flags, bytes) ← number_at 1 bytes
  (id, bytes) ← number_at 8 bytes
  (items, bytes) ← segment_items_at flags bytes
  (size, bytes) ← number_at 8 bytes
  Ok (Segment (record { flags = flags; id = id; items = items; length = size }), bytes)

-- XFER_ACK (section 5.2.3)
unfoldable pub ack_at : List ℕ → Part Message
ack_at bytes = do
  (flags, bytes) ← number_at 1 bytes
  (id, bytes) ← number_at 8 bytes
  (size, bytes) ← number_at 8 bytes
  Ok (Ack flags id size, bytes)

-- XFER_REFUSE (section 5.2.4)
unfoldable pub refuse_at : List ℕ → Part Message
refuse_at bytes = do
  (reason, bytes) ← number_at 1 bytes
  (id, bytes) ← number_at 8 bytes
  Ok (Refuse reason id, bytes)

-- SESS_TERM (section 6.1)
unfoldable pub sess_term_at : List ℕ → Part Message
sess_term_at bytes = do
  (flags, bytes) ← number_at 1 bytes
  (reason, bytes) ← number_at 1 bytes
  Ok (SessTerm flags reason, bytes)

-- MSG_REJECT (section 5.1.2)
unfoldable pub msg_reject_at : List ℕ → Part Message
msg_reject_at bytes = do
  (reason, bytes) ← number_at 1 bytes
  (header, bytes) ← number_at 1 bytes
  Ok (MsgReject reason header, bytes)

-- SESS_INIT (section 4.6)
unfoldable pub sess_init_at : List ℕ → Part Message
sess_init_at bytes = do
  (interval, bytes) ← number_at 2 bytes
  (segment_mru, bytes) ← number_at 8 bytes
  (transfer_mru, bytes) ← number_at 8 bytes
  (node, bytes) ← node_at bytes
  (items, bytes) ← list_at Session bytes
  Ok (SessInit interval segment_mru transfer_mru node items, bytes)

-- the fields after a message's type byte (section 4.5)
unfoldable pub fields_at : ℕ → List ℕ → Part Message
fields_at kind bytes =
    if kind == xfer_segment then segment_at bytes
    else if kind == xfer_ack then ack_at bytes
    else if kind == xfer_refuse then refuse_at bytes
    else if kind == keepalive then Ok (Keepalive, bytes)
    else if kind == sess_term then sess_term_at bytes
    else if kind == msg_reject then msg_reject_at bytes
    else if kind == sess_init then sess_init_at bytes
    else Err (UnknownType kind)

-- a message, without the data of a segment
unfoldable pub message_at : List ℕ → Part Message
message_at bytes = do
  (kind, bytes) ← number_at 1 bytes
  fields_at kind bytes

-- the number of data bytes after the message's head
abbrev pub data_length : Message → ℕ
data_length (Segment head) = head.length
data_length message = 0
