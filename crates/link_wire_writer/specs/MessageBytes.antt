-- The bytes of a contact header, of messages and of extension items (RFC 9174), from their fields.
use Rattle.std.specs.Prelude.{ℕ, ◌+◌, Bool, ◌&&◌, nat_le, ◌==◌, List, [], ◌++◌, length, Option, Some, None, is_ok, if◌then◌else◌}
use Rattle.link_wire.specs.Codes.{xfer_segment, xfer_ack, xfer_refuse, keepalive, sess_term, msg_reject, sess_init, is_start}
use Rattle.link_wire.specs.Limits.{longest_node, longest_list}
use Rattle.link_wire.specs.Message.{items_of}
use Rattle.link_wire.specs.declared.message.{ListOf.ListOf, ListOf.TheVariants.{Session, Transfer}}
use Rattle.link_wire.specs.declared.message.Fields.{Fields}
use Rattle.link_wire.specs.declared.message.Fields.TheVariants.{SessInit, Segment, Ack, Refuse, Keepalive, SessTerm, MsgReject}
use Rattle.link_writing.specs.Numbers.{be}

-- `node` are the bytes of a node ID, and `items` those of the items of an extension list. `node` is
-- empty for a message without a node ID, and `items` for a message without a list.

-- a node ID (section 4.6): its length, and its bytes
abbrev pub node_bytes : (node : List ℕ) → List ℕ
node_bytes node = be 2 (length node) ++ node

-- an extension list (section 4.6): its length in bytes, and its items
abbrev pub list_bytes : (items : List ℕ) → List ℕ
list_bytes items = be 4 (length items) ++ items

-- the extension list of a segment, which has one only with START (section 5.2.2)
abbrev pub segment_list_bytes : (flags : ℕ) (items : List ℕ) → List ℕ
segment_list_bytes flags items = if is_start flags then list_bytes items else []

-- The head of a message: its type byte (section 4.5) and its fields, without the data of a segment.
-- The cases are SESS_INIT (section 4.6), XFER_SEGMENT (5.2.2), XFER_ACK (5.2.3), XFER_REFUSE
-- (5.2.4), KEEPALIVE (5.1.1), SESS_TERM (6.1) and MSG_REJECT (5.1.2).
unfoldable pub message_bytes : Fields → (node items : List ℕ) → List ℕ
message_bytes (SessInit interval segment_mru transfer_mru) node items =
    be 1 sess_init ++ be 2 interval ++ be 8 segment_mru ++ be 8 transfer_mru
    ++ node_bytes node ++ list_bytes items
message_bytes (Segment flags id size) node items =
    be 1 xfer_segment ++ be 1 flags ++ be 8 id ++ segment_list_bytes flags items ++ be 8 size
message_bytes (Ack flags id size) node items = be 1 xfer_ack ++ be 1 flags ++ be 8 id ++ be 8 size
message_bytes (Refuse reason id) node items = be 1 xfer_refuse ++ be 1 reason ++ be 8 id
message_bytes Keepalive node items = be 1 keepalive
message_bytes (SessTerm flags reason) node items = be 1 sess_term ++ be 1 flags ++ be 1 reason
message_bytes (MsgReject reason header) node items =
    be 1 msg_reject ++ be 1 reason ++ be 1 header

-- an extension item (section 4.8): its flags, its type, the length of its value, and its value
unfoldable pub item_bytes : (flags kind : ℕ) (value : List ℕ) → List ℕ
item_bytes flags kind value = be 1 flags ++ be 2 kind ++ be 2 (length value) ++ value

-- ---- what is written: nothing that a reader of this toolkit refuses

-- whether these bytes are extension items and nothing else: at most 64, in at most 65,536 bytes
abbrev pub are_items : (owner : ListOf) (items : List ℕ) → Bool
are_items owner items =
    nat_le (length items) longest_list && is_ok (items_of owner (length items) items)

abbrev pub is_empty : List ℕ → Bool
is_empty bytes = length bytes == 0

-- whether a message with these fields may have this node ID and these items
unfoldable pub is_writable : Fields → (node items : List ℕ) → Bool
is_writable (SessInit interval segment_mru transfer_mru) node items =
    nat_le (length node) longest_node && are_items Session items
is_writable (Segment flags id size) node items =
    is_empty node && (if is_start flags then are_items Transfer items else is_empty items)
is_writable _ node items = is_empty node && is_empty items

-- the bytes of a message, or `None` if it may not have this node ID or these items
abbrev pub message_of : Fields → (node items : List ℕ) → Option (List ℕ)
message_of fields node items =
    if is_writable fields node items then Some (message_bytes fields node items) else None

-- The bytes of an item, or `None` if they are more than a list may have. Five bytes precede the
-- value.
abbrev pub item_of : (flags kind : ℕ) (value : List ℕ) → Option (List ℕ)
item_of flags kind value =
    if nat_le (5 + length value) longest_list then Some (item_bytes flags kind value) else None
