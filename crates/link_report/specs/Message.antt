-- The lines of the contact header and of the messages.
use Rattle.std.specs.Prelude.{ℕ, if◌then◌else◌, List, [], ◌++◌, length, codes, decimal}
use Rattle.std.specs.List.{flat_map}
use Rattle.link_wire.specs.Codes.{is_start}
use Rattle.link_wire.specs.declared.message.{Contact.Contact, Item.Item, Message.Message}
use Rattle.link_wire.specs.declared.message.Message.TheVariants.{SessInit, Segment, Ack, Refuse, Keepalive, SessTerm, MsgReject}
use Rattle.link_report.specs.Reason.{refuse_names, term_names, reject_names, name_in}
use Rattle.link_report.specs.Text.{hex2, hex4, escaped, number_text, newline}

-- the flags of a contact header or a message, which are one byte, with their label
unfoldable pub flags_text : ℕ → List ℕ
flags_text flags = codes " flags=" ++ hex2 flags

-- the code of a reason and its name, with their label
unfoldable pub reason_text : ℕ → List ℕ → List ℕ
reason_text reason name = codes " reason=" ++ hex2 reason ++ codes "/" ++ name

-- an extension item: its flags, its type and the length of its value in bytes (RFC 9174 section
-- 4.8)
unfoldable pub item_text : Item → List ℕ
item_text item =
    codes " item=" ++ hex2 item.flags ++ codes ":" ++ hex4 item.kind
    ++ number_text (codes ":") item.length

-- an extension list: the number of items, and each of them
unfoldable pub items_text : List Item → List ℕ
items_text items = number_text (codes " items=") (length items) ++ flat_map item_text items

-- the parameters of a SESS_INIT (RFC 9174 section 4.6), before its extension items
unfoldable pub parameters_text : ℕ → ℕ → ℕ → List ℕ → List ℕ
parameters_text keepalive segment_mru transfer_mru node =
    number_text (codes " sess-init keepalive=") keepalive
    ++ number_text (codes " segment-mru=") segment_mru
    ++ number_text (codes " transfer-mru=") transfer_mru ++ codes " node=" ++ escaped node

-- the items of a segment with START (RFC 9174 section 5.2.5), and nothing for other segments
unfoldable pub start_items_text : ℕ → List Item → List ℕ
start_items_text flags items = if is_start flags then items_text items else []

-- a segment (RFC 9174 section 5.2.2)
unfoldable pub segment_text : ℕ → ℕ → List Item → ℕ → List ℕ
segment_text flags id items size =
    codes " xfer-segment" ++ flags_text flags ++ number_text (codes " id=") id
    ++ start_items_text flags items ++ number_text (codes " length=") size

-- the part of a message's line between its offset and its newline (RFC 9174 sections 4.6 and 5.1.1
-- to 6.1)
unfoldable pub body_text : Message → List ℕ
body_text (SessInit keepalive segment_mru transfer_mru node items) =
    parameters_text keepalive segment_mru transfer_mru node.items ++ items_text items.items
body_text (Segment head) = segment_text head.flags head.id head.items.items head.length
body_text (Ack flags id length) =
    codes " xfer-ack" ++ flags_text flags ++ number_text (codes " id=") id
    ++ number_text (codes " length=") length
body_text (Refuse reason id) =
    codes " xfer-refuse" ++ reason_text reason (name_in refuse_names reason)
    ++ number_text (codes " id=") id
body_text Keepalive = codes " keepalive"
body_text (SessTerm flags reason) =
    codes " sess-term" ++ flags_text flags ++ reason_text reason (name_in term_names reason)
body_text (MsgReject reason header) =
    codes " msg-reject" ++ reason_text reason (name_in reject_names reason)
    ++ codes " header=" ++ hex2 header

-- the line of the contact header (RFC 9174 section 4.2)
unfoldable pub contact_text : Contact → List ℕ
contact_text contact = codes "0 contact version=4" ++ flags_text contact.flags ++ newline

-- the line of a message whose type byte is at this offset
unfoldable pub message_text : ℕ → Message → List ℕ
message_text offset message = decimal offset ++ body_text message ++ newline
