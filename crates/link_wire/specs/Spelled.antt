-- How the contact header and the messages of TCPCLv4 are spelled as bytes (RFC 9174), field by
-- field in written order. Nothing here reads: a list of bytes is a spelling, or it is not.
use Rattle.std.specs.Prelude.{◌≡◌, ℕ, ◌^◌, ◌<◌, ◌≤◌, Bool, true, false, List, [], ◌∷◌, ◌++◌, length, Option, Some, None, if◌then◌else◌}
use Rattle.arrayvec.specs.ArrayVec.{ArrayVec}
use Rattle.byteorder.specs.Endian.{big_number}
use Rattle.link_io.specs.Bytes.{AreBytes}
use Rattle.link_wire.specs.Codes.{tcpcl_version, xfer_segment, xfer_ack, xfer_refuse, keepalive, sess_term, msg_reject, sess_init, is_start, total_size}
use Rattle.link_wire.specs.Limits.{longest_node, longest_list, most_items}
use Rattle.link_wire.specs.Message.{is_total_length, data_length}
use Rattle.link_wire.specs.declared.message.{Contact.Contact, Item.Item, ListOf.ListOf}
use Rattle.link_wire.specs.declared.message.ListOf.TheVariants.{Session, Transfer}
use Rattle.link_wire.specs.declared.message.Message.{Message}
use Rattle.link_wire.specs.declared.message.Message.TheVariants.{SessInit, Segment, Ack, Refuse, Keepalive, SessTerm, MsgReject}
use Rattle.link_writing.specs.Numbers.{be}

-- a property of lists of bytes: that they spell something
abbrev pub BytesProperty : Type 1
BytesProperty = List ℕ → Type 0

-- one spelling, followed by another
pub record FollowedBy (first second : BytesProperty) (bytes : List ℕ) : Type 0 where
  pub before : List ℕ
  pub after : List ℕ
  pub is_first : first before
  pub is_second : second after
  pub parts : bytes ≡ before ++ after

infixr 30 ◌⨾◌
abbrev pub ◌⨾◌ : BytesProperty → BytesProperty → BytesProperty
(first ⨾ second) bytes = FollowedBy first second bytes

-- unsigned numbers of one, two, four and eight bytes
abbrev pub U8 : ℕ → BytesProperty
U8 n bytes = (n < 2 ^ 8) × (bytes ≡ be 1 n)

abbrev pub U16 : ℕ → BytesProperty
U16 n bytes = (n < 2 ^ 16) × (bytes ≡ be 2 n)

abbrev pub U32 : ℕ → BytesProperty
U32 n bytes = (n < 2 ^ 32) × (bytes ≡ be 4 n)

abbrev pub U64 : ℕ → BytesProperty
U64 n bytes = (n < 2 ^ 64) × (bytes ≡ be 8 n)

-- exactly these bytes
abbrev pub These : List ℕ → BytesProperty
These content bytes = AreBytes content × (bytes ≡ content)

-- the contact header (section 4.2): `dtn!`, version 4, and the flags
abbrev pub ContactSpelled : Contact → BytesProperty
ContactSpelled contact bytes =
    (contact.flags < 2 ^ 8)
    × (bytes ≡ 0x64 ∷ 0x74 ∷ 0x6e ∷ 0x21 ∷ tcpcl_version ∷ contact.flags ∷ [])

-- a node ID (section 4.6): its length, and its bytes
abbrev pub NodeSpelled : ArrayVec ℕ → BytesProperty
NodeSpelled node bytes =
    (length node.items ≤ longest_node) × (U16 (length node.items) ⨾ These node.items) bytes

-- the fields of an extension item before its value (sections 4.8 and 5.2.5): flags, type and length
abbrev pub ItemHeadSpelled : (flags kind size : ℕ) → BytesProperty
ItemHeadSpelled flags kind size = U8 flags ⨾ U16 kind ⨾ U16 size

-- the number in the value of a Transfer Length item (section 5.2.5.1); no other item has one
abbrev pub total_of : (owner : ListOf) (kind size : ℕ) → List ℕ → Option ℕ
total_of owner kind size value =
    if is_total_length owner kind size then Some (big_number total_size value) else None

-- an extension item's value: any bytes, as many as the item's length
abbrev pub ValueSpelled : (owner : ListOf) (kind size : ℕ) → Option ℕ → BytesProperty
ValueSpelled owner kind size total value =
    AreBytes value × (length value ≡ size) × (total ≡ total_of owner kind size value)

-- an extension item, of a transfer's list or of a session's
abbrev pub ItemSpelled : (owner : ListOf) → Item → BytesProperty
ItemSpelled owner item =
    ItemHeadSpelled item.flags item.kind item.length ⨾ ValueSpelled owner
    item.kind item.length item.total

-- items one after another
abbrev pub ItemsSpelled : (owner : ListOf) → List Item → BytesProperty
ItemsSpelled owner [] bytes = bytes ≡ []
ItemsSpelled owner (item ∷ items) bytes = (ItemSpelled owner item ⨾ ItemsSpelled owner items) bytes

-- an extension list: its length in bytes, and its items, which fill those bytes
pub record ListSpelled (owner : ListOf) (items : ArrayVec Item) (bytes : List ℕ) : Type 0 where
  pub body : List ℕ
  pub is_body : ItemsSpelled owner items.items body
  pub few : length items.items ≤ most_items
  pub short : length body ≤ longest_list
  pub is_list : (U32 (length body) ⨾ These body) bytes

-- the extension list of a segment, which has one only with START
abbrev pub SegmentItemsSpelled : (start : Bool) → ArrayVec Item → BytesProperty
SegmentItemsSpelled true items bytes = ListSpelled Transfer items bytes
SegmentItemsSpelled false items bytes = (items.items ≡ []) × (bytes ≡ [])

-- The head of a message: its type byte (section 4.5) and its fields, without the data of a segment.
-- The cases are XFER_SEGMENT (section 5.2.2), XFER_ACK (5.2.3), XFER_REFUSE (5.2.4), KEEPALIVE
-- (5.1.1), SESS_TERM (6.1), MSG_REJECT (5.1.2) and SESS_INIT (4.6).
abbrev pub HeadSpelled : Message → BytesProperty
HeadSpelled (Segment head) =
    U8 xfer_segment ⨾ U8 head.flags ⨾ U64 head.id ⨾ SegmentItemsSpelled (is_start head.flags)
    head.items ⨾ U64 head.length
HeadSpelled (Ack flags id size) = U8 xfer_ack ⨾ U8 flags ⨾ U64 id ⨾ U64 size
HeadSpelled (Refuse reason id) = U8 xfer_refuse ⨾ U8 reason ⨾ U64 id
HeadSpelled Keepalive = U8 keepalive
HeadSpelled (SessTerm flags reason) = U8 sess_term ⨾ U8 flags ⨾ U8 reason
HeadSpelled (MsgReject reason header) = U8 msg_reject ⨾ U8 reason ⨾ U8 header
HeadSpelled (SessInit interval segment_mru transfer_mru node items) =
    U8 sess_init ⨾ U16 interval ⨾ U64 segment_mru ⨾ U64 transfer_mru ⨾ NodeSpelled node ⨾
    ListSpelled Session items

-- A message and its data. A segment has as many bytes of data as its head says, and every other
-- message has none.
abbrev pub Spelled : Message → (content : List ℕ) → BytesProperty
Spelled message content bytes =
    (length content ≡ data_length message) × (HeadSpelled message ⨾ These content) bytes
