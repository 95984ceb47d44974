-- The law of a whole stream: of any sequence of messages, what was written is read back.
use Rattle.std.specs.Prelude.{◌≡◌, ℕ, ◌+◌, ◌^◌, ◌<◌, true, List, [], ◌∷◌, ◌++◌, length, Some}
use Rattle.std.specs.List.{All, flat_map}
use Rattle.link_wire.specs.Message.{data_length}
use Rattle.link_wire.specs.Spelling.{contact_bytes}
use Rattle.link_wire.specs.Stream.{Entry, Clean, reading_of}
use Rattle.link_wire.specs.declared.message.Fields.{Fields}
use Rattle.link_wire_writer.specs.MessageBytes.{message_bytes, is_writable}
use Rattle.link_wire_writer.specs.ReadsBack.{FieldsFit, written_message}

-- a message with its node ID, its items and its data, which only a segment has
pub record Sent : Type 0 where
  pub fields : Fields
  pub node : List ℕ
  pub items : List ℕ
  pub content : List ℕ

-- the bytes of a message, and then those of its data
abbrev pub sent_message : Sent → List ℕ
sent_message sent = message_bytes sent.fields sent.node sent.items ++ sent.content

-- the numbers fit, the node ID and the items are writable, and the data has the announced length
pub record IsSendable (sent : Sent) : Type 0 where
  pub fit : FieldsFit sent.fields
  pub writable : is_writable sent.fields sent.node sent.items ≡ true
  pub size : length sent.content ≡ data_length (written_message sent.fields sent.node sent.items)

-- the bytes of a contact header with these flags, and then those of the messages
abbrev pub sent_stream : (flags : ℕ) → List Sent → List ℕ
sent_stream flags messages = contact_bytes flags ++ flat_map sent_message messages

-- the messages with their offsets, of which the first is `offset`
unfoldable pub sent_entries : (offset : ℕ) → List Sent → List Entry
sent_entries offset [] = []
sent_entries offset (sent ∷ more) =
    record {
      offset = offset;
      message = written_message sent.fields sent.node sent.items;
      content = sent.content;
    } ∷ sent_entries (offset + length (sent_message sent)) more

-- The stream is read as these messages, and ends after the last of them. The tool `list` shows this
-- reading. The first message begins at offset 6, since a contact header has 6 bytes.
abbrev pub StreamReadsBack : Type 0
StreamReadsBack =
    (flags : ℕ) (messages : List Sent) → flags < 2 ^ 8 → All IsSendable messages →
    reading_of (sent_stream flags messages)
    ≡ record {
      contact = Some (record { flags = flags });
      entries = sent_entries 6 messages;
      end = Clean;
    }
