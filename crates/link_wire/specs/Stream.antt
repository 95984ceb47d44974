-- The reading of a whole recorded stream (RFC 9174 section 4): a contact header, and then messages
-- one after another.
use Rattle.std.specs.Prelude.{ℕ, zero, suc, ◌+◌, ◌-◌, List, [], ◌∷◌, ◌++◌, length, take, drop, Option, Some, None, Result, Ok, Err, nat_lt, if◌then◌else◌}
use Rattle.link_wire.specs.Message.{contact_at, message_at, data_length}
use Rattle.link_wire.specs.declared.{fault.WireFault.WireFault, message.Contact.Contact}
use Rattle.link_wire.specs.declared.message.Message.{Message}

-- a whole message: the offset of its type byte, and its data, which only a segment has
pub record Entry : Type 0 where
  pub offset : ℕ
  pub message : Message
  pub content : List ℕ

-- how a stream ends: between two messages, inside the data of the segment at `offset`, or at the
-- first fault, in the message at `offset`
pub data End : Type 0 where
  Clean : End
  Cut : (offset : ℕ) (message : Message) (content : List ℕ) → End
  Fault : (offset : ℕ) (fault : WireFault) → End

-- the whole messages from an offset on, and how the stream ends
pub record Stream : Type 0 where
  pub entries : List Entry
  pub end : End

-- a stream without further messages, which ends in this way
abbrev pub ended : End → Stream
ended end = record { entries = []; end = end }

-- one whole message, and then the stream `rest`
abbrev pub with_entry : Entry → Stream → Stream
with_entry entry rest = record { entries = entry ∷ rest.entries; end = rest.end }

-- The stream of a message whose data begins the bytes. If the bytes end inside the data, the stream
-- ends there. Otherwise `rest` is the stream after the data.
abbrev pub with_data_of : ℕ → Message → List ℕ → Stream → Stream
with_data_of offset message bytes rest =
    if nat_lt (length bytes) (data_length message)
    then ended (Cut offset message bytes)
    else with_entry (record {
      offset = offset;
      message = message;
      content = take (data_length message) bytes;
    }) rest

-- The stream that begins with a message that was read, or with its fault. `size` is the number of
-- bytes from the offset on. So the length of the head is `size` less the number of bytes after it.
-- `next` reads what is at a later offset.
abbrev pub stream_by : (ℕ → List ℕ → Stream) → ℕ → ℕ → Result (Message × List ℕ) WireFault → Stream
stream_by next offset size (Err fault) = ended (Fault offset fault)
stream_by next offset size (Ok (message, bytes)) =
    with_data_of offset message bytes
    (next (offset + (size - length bytes) + data_length message)
    (drop (data_length message) bytes))

-- The messages from an offset on, at most `count` of them. In the second case bytes are left, but
-- no more messages may come. This case does not occur if `count` is the number of bytes, since each
-- message has at least one byte.
unfoldable pub messages_at : ℕ → ℕ → List ℕ → Stream
messages_at count offset [] = ended Clean
messages_at zero offset (byte ∷ bytes) = ended Clean
messages_at (suc count) offset (byte ∷ bytes) =
    stream_by (messages_at count) offset (length (byte ∷ bytes)) (message_at (byte ∷ bytes))

-- The stream of these bytes, which begin at the offset. It cannot have more messages than bytes.
unfoldable pub stream_at : ℕ → List ℕ → Stream
stream_at offset bytes = messages_at (length bytes) offset bytes

-- the reading of a recorded stream
pub record Reading : Type 0 where
  pub contact : Option Contact
  pub entries : List Entry
  pub end : End

-- The reading of a stream, by what was read of its contact header. A fault of the contact header
-- has offset 0. The messages begin at offset 6.
abbrev pub reading_by : Result (Contact × List ℕ) WireFault → Reading
reading_by (Err fault) = record { contact = None; entries = []; end = Fault 0 fault }
reading_by (Ok (contact, bytes)) =
    let rest = stream_at 6 bytes in
    record { contact = Some contact; entries = rest.entries; end = rest.end }

-- the reading of a recorded stream, from its first byte on
unfoldable pub reading_of : List ℕ → Reading
reading_of bytes = reading_by (contact_at bytes)

-- ---- heads

-- the head of a segment whose data is incomplete, with the data so far
abbrev pub cut_heads : End → List Entry
cut_heads Clean = []
cut_heads (Cut offset message content) =
    record { offset = offset; message = message; content = content } ∷ []
cut_heads (Fault offset fault) = []

-- all whole heads: those of whole messages, and that of a segment whose data is incomplete
abbrev pub heads_of : Reading → List Entry
heads_of reading = reading.entries ++ cut_heads reading.end
