-- The constants of the wire format (RFC 9174). They are written here again, so a change of a
-- constant of the code changes no definition.
use Rattle.std.specs.Prelude.{ℕ, Bool, ◌==◌, bit_and}

-- the four bytes `dtn!` with which a contact header begins (section 4.2), as a number
abbrev pub magic : ℕ
magic = 0x64746e21

-- the version in a contact header (section 4.2)
abbrev pub tcpcl_version : ℕ
tcpcl_version = 4

-- the type bytes of messages (section 4.5)
abbrev pub xfer_segment : ℕ
xfer_segment = 1

abbrev pub xfer_ack : ℕ
xfer_ack = 2

abbrev pub xfer_refuse : ℕ
xfer_refuse = 3

abbrev pub keepalive : ℕ
keepalive = 4

abbrev pub sess_term : ℕ
sess_term = 5

abbrev pub msg_reject : ℕ
msg_reject = 6

abbrev pub sess_init : ℕ
sess_init = 7

-- whether the flags of an XFER_SEGMENT have END: it is the last of its transfer (section 5.2.2)
abbrev pub is_end : ℕ → Bool
is_end flags = bit_and flags 1 == 1

-- whether the flags of an XFER_SEGMENT have START: it is the first of its transfer
abbrev pub is_start : ℕ → Bool
is_start flags = bit_and flags 2 == 2

-- the number of bytes of an extension item before its value (section 4.8)
abbrev pub item_head : ℕ
item_head = 5

-- the type of a Transfer Length item (section 5.2.5.1)
abbrev pub transfer_length : ℕ
transfer_length = 1

-- the number of bytes in the value of a Transfer Length item
abbrev pub total_size : ℕ
total_size = 8
