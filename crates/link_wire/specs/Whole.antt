-- Relations: whole messages that are passed over in the window (a head with its data, or quiet
-- messages).
use Rattle.std.specs.Prelude.{◌≡◌, ℕ, ◌+◌, ◌^◌, ◌<◌, ◌≤◌, Bool, true, false, List, [], ◌∷◌, ◌++◌, All, length, take, ◌==◌, if◌then◌else◌}
use Rattle.link_io.specs.Device.{Input}
use Rattle.link_io.specs.Source.{Takes}
use Rattle.link_wire.specs.Codes.{xfer_ack, xfer_refuse, keepalive, msg_reject}
use Rattle.link_wire.specs.Getting.{IsPart}
use Rattle.link_wire.specs.Limits.{window_size}
use Rattle.link_wire.specs.Message.{message_at, data_length}
use Rattle.link_wire.specs.Session.{source_of, joined, IsSessionAt}
use Rattle.link_wire.specs.Stream.{Clean, Entry, Stream, stream_at, reading_of}
use Rattle.link_wire.specs.declared.message.Message.{Message}
use Rattle.link_wire.specs.declared.message.Message.TheVariants.{Ack, Refuse, Keepalive, MsgReject}
use Rattle.link_wire.specs.declared.session.Session.{Session}

-- these messages, and then a stream
abbrev pub followed : List Entry → Stream → Stream
followed entries rest = record { entries = entries ++ rest.entries; end = rest.end }

-- Whatever bytes follow, these bytes are read as these whole messages, one after another.
pub record AreMessages (offset : ℕ) (bytes : List ℕ) (entries : List Entry) : Type 0 where
  pub all : (more : List ℕ)
      → stream_at offset (bytes ++ more) ≡ followed entries (stream_at (offset + length bytes) more)

-- a message without data that changes neither the order nor the transfers of its sender
abbrev pub is_quiet : Message → Bool
is_quiet (Ack flags id size) = true
is_quiet (Refuse reason id) = true
is_quiet Keepalive = true
is_quiet (MsgReject reason header) = true
is_quiet _ = false

-- the message of the entry is quiet
abbrev pub IsQuiet : Entry → Type 0
IsQuiet entry = is_quiet entry.message ≡ true

-- these bytes, which begin at the offset, are quiet messages, one after another
pub record AreQuietMessages (offset : ℕ) (bytes : List ℕ) : Type 0 where
  pub entries : List Entry
  pub quiet : All IsQuiet entries
  pub are : AreMessages offset bytes entries

-- The length of a quiet message with this type byte. For a type byte that no quiet message has, it
-- is 2^63, which is more bytes than a slice can have.
abbrev pub quiet_size : ℕ → ℕ
quiet_size kind =
    if kind == xfer_ack
    then 18
    else (if kind == xfer_refuse
    then 10
    else (if kind == keepalive then 1 else (if kind == msg_reject then 3 else 2 ^ 63)))

-- the first `size` bytes of the window are a quiet message
pub record HasQuietMessageFirst (window : List ℕ) (size : ℕ) : Type 0 where
  pub message : Message
  pub quiet : is_quiet message ≡ true
  pub none : data_length message ≡ 0
  pub within : size ≤ length window
  pub is : IsPart message_at (take size window) message

module _ {R : Type 0} (look : R → Input) (old new : Session R) (history : List ℕ) where
  -- the session gave these bytes, and they are these whole messages
  pub record PassedMessages (given : List ℕ) (entries : List Entry) : Type 0 where
    pub takes : Takes look (source_of old) (source_of new) given
    pub reading : reading_of (history ++ given)
        ≡ joined (reading_of history) (record { entries = entries; end = Clean })
    pub at : IsSessionAt look new (history ++ given)

  -- The session gave this whole message with its data. All of it lay in the window.
  pub record GivenWholeMessage (offset : ℕ) (message : Message) : Type 0 where
    pub given : List ℕ
    pub content : List ℕ
    pub some : 0 < length given
    pub size : length given ≤ window_size
    pub offset_is : offset ≡ length history
    pub passed : PassedMessages given
        (record { offset = offset; message = message; content = content } ∷ [])

  -- the session gave quiet messages that have `count` bytes together; 0 means none
  pub record PassedQuietMessages (count : ℕ) : Type 0 where
    pub given : List ℕ
    pub entries : List Entry
    pub size : length given ≡ count
    pub quiet : All IsQuiet entries
    pub passed : PassedMessages given entries
