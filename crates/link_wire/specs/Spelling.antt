-- The bytes that the `put_` calls append (RFC 9174), one spelling for each message. The only
-- extension item that they append is a Transfer Length item without flags.
use Rattle.std.specs.Prelude.{ℕ, ◌+◌, Bool, true, false, List, [], ◌∷◌, ◌++◌, length, Option, Some, None}
use Rattle.link_wire.specs.Codes.{tcpcl_version, xfer_segment, sess_term, sess_init, is_start, transfer_length, total_size}
use Rattle.link_wire.specs.declared.message.{Item.Item, Message.Message}
use Rattle.link_wire.specs.declared.message.Message.TheVariants.{SessInit, Segment}
use Rattle.link_writing.specs.Numbers.{be}

-- a contact header (section 4.2): `dtn!`, the version, and the flags
unfoldable pub contact_bytes : (flags : ℕ) → List ℕ
contact_bytes flags = 0x64 ∷ 0x74 ∷ 0x6e ∷ 0x21 ∷ tcpcl_version ∷ flags ∷ []

-- a SESS_INIT (section 4.6) with this node ID, and with an empty list of session extension items
unfoldable pub sess_init_bytes : (interval segment_mru transfer_mru : ℕ) (node : List ℕ) → List ℕ
sess_init_bytes interval segment_mru transfer_mru node =
    be 1 sess_init ++ be 2 interval ++ be 8 segment_mru ++ be 8 transfer_mru
    ++ (be 2 (length node) ++ node) ++ be 4 0

-- a Transfer Length item (section 5.2.5.1): no flag, its type, its value's length, and the total
unfoldable pub total_bytes : (total : ℕ) → List ℕ
total_bytes total = be 1 0 ++ be 2 transfer_length ++ be 2 total_size ++ be 8 total

-- The list of transfer extension items (section 5.2.5), after its length in bytes. It is empty, or
-- has one item of 13 bytes, which announces the total.
unfoldable pub announce_bytes : Option ℕ → List ℕ
announce_bytes None = be 4 0
announce_bytes (Some total) = be 4 13 ++ total_bytes total

-- the extension list of a segment, which has one only with START (section 5.2.2)
abbrev pub list_bytes : (start : Bool) → Option ℕ → List ℕ
list_bytes true announce = announce_bytes announce
list_bytes false announce = []

-- an XFER_SEGMENT without its data (section 5.2.2)
unfoldable pub segment_head_bytes : (flags id size : ℕ) (announce : Option ℕ) → List ℕ
segment_head_bytes flags id size announce =
    be 1 xfer_segment ++ be 1 flags ++ be 8 id ++ list_bytes (is_start flags) announce ++ be 8 size

-- a SESS_TERM (section 6.1)
unfoldable pub sess_term_bytes : (flags reason : ℕ) → List ℕ
sess_term_bytes flags reason = be 1 sess_term ++ be 1 flags ++ be 1 reason

-- the number of bytes of `announce_bytes`: 4 for the length of the list, and 13 for the item
abbrev pub announce_size : Option ℕ → ℕ
announce_size None = 4
announce_size (Some total) = 17

-- the number of bytes of the extension list of a segment, which has one only with START
abbrev pub list_size : (start : Bool) → Option ℕ → ℕ
list_size true announce = announce_size announce
list_size false announce = 0

-- the number of bytes of the head of a segment: 18 for its type, flags, ID and length, and its list
abbrev pub segment_head_size : (flags : ℕ) (announce : Option ℕ) → ℕ
segment_head_size flags announce = 18 + list_size (is_start flags) announce

-- the items that `announce_bytes` spells
abbrev pub announced : Option ℕ → List Item
announced None = []
announced (Some total) =
    record { flags = 0; kind = transfer_length; length = total_size; total = Some total } ∷ []

-- the message whose head `segment_head_bytes` spells
abbrev pub segment_with : (flags id size : ℕ) (announce : Option ℕ) → Message
segment_with flags id size announce =
    Segment (record {
      flags = flags;
      id = id;
      items = record { items = announced announce };
      length = size;
    })

-- the message that `sess_init_bytes` spells
abbrev pub sess_init_with : (interval segment_mru transfer_mru : ℕ) (node : List ℕ) → Message
sess_init_with interval segment_mru transfer_mru node =
    SessInit interval segment_mru transfer_mru (record { items = node }) (record { items = [] })
