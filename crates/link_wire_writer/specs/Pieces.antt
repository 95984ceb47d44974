-- Relations: the pieces of which a message is written. The promises need none of these definitions.
use Rattle.std.specs.Prelude.{ℕ, List, [], ◌++◌, if◌then◌else◌}
use Rattle.link_wire.specs.Codes.{xfer_segment, xfer_ack, xfer_refuse, keepalive, sess_term, msg_reject, sess_init, is_start}
use Rattle.link_wire.specs.declared.message.Fields.{Fields}
use Rattle.link_wire.specs.declared.message.Fields.TheVariants.{SessInit, Segment, Ack, Refuse, Keepalive, SessTerm, MsgReject}
use Rattle.link_writing.specs.Numbers.{be}
use Rattle.link_wire_writer.specs.MessageBytes.{node_bytes}

-- a SESS_INIT up to the items of its list, which have `list` bytes
abbrev pub init_front : (interval segment_mru transfer_mru : ℕ) (node : List ℕ) (list : ℕ) → List ℕ
init_front interval segment_mru transfer_mru node list =
    be 1 sess_init ++ be 2 interval ++ be 8 segment_mru ++ be 8 transfer_mru ++ node_bytes node
    ++ be 4 list

-- A message up to the items of its list, which have `list` bytes. Without a list, it is a segment
-- up to the length of its data, or all of another message.
abbrev pub front_of : Fields → (node : List ℕ) → (list : ℕ) → List ℕ
front_of (SessInit interval segment_mru transfer_mru) node list =
    init_front interval segment_mru transfer_mru node list
front_of (Segment flags id size) node list =
    be 1 xfer_segment ++ be 1 flags ++ be 8 id ++ (if is_start flags then be 4 list else [])
front_of (Ack flags id size) node list = be 1 xfer_ack ++ be 1 flags ++ be 8 id ++ be 8 size
front_of (Refuse reason id) node list = be 1 xfer_refuse ++ be 1 reason ++ be 8 id
front_of Keepalive node list = be 1 keepalive
front_of (SessTerm flags reason) node list = be 1 sess_term ++ be 1 flags ++ be 1 reason
front_of (MsgReject reason header) node list = be 1 msg_reject ++ be 1 reason ++ be 1 header

-- The bytes of a message after the items of its list. They are the length of a segment's data, and
-- other messages have none.
abbrev pub tail_of : Fields → List ℕ
tail_of (Segment flags id size) = be 8 size
tail_of _ = []
