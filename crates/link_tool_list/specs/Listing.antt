-- What `list` writes for a recorded stream.
use Rattle.std.specs.{Prelude.{ℕ, true, List, [], ◌++◌, Option, Some, None}, List.flat_map}
use Rattle.link_wire.specs.Stream.{Entry, Reading, reading_of}
use Rattle.link_wire.specs.declared.message.Contact.{Contact}
use Rattle.link_report.specs.Message.{contact_text, message_text}
use Rattle.link_run.specs.Made.{Made, tool_of, stop_of}
use Rattle.link_run.specs.Run.{Tool}
use Rattle.link_run.specs.Writers.{on_output}

-- the line of the contact header, if the stream has one
abbrev pub contact_lines : Option Contact → List ℕ
contact_lines None = []
contact_lines (Some contact) = contact_text contact

-- a line for each message
unfoldable pub message_lines : List Entry → List ℕ
message_lines entries = flat_map (λ entry. message_text entry.offset entry.message) entries

-- the line of the contact header, and then those of the messages
abbrev pub listed_lines : Reading → List ℕ
listed_lines reading = contact_lines reading.contact ++ message_lines reading.entries

-- The output has a line for each whole message. If no fault stops the stream, everything is good.
abbrev pub listing_by : Reading → Made
listing_by reading = record {
  texts = on_output (listed_lines reading);
  stop = stop_of reading.end;
  ended = on_output (listed_lines reading);
  good = true;
}

-- what `list` makes of a stream
unfoldable pub listing_of : List ℕ → Made
listing_of bytes = listing_by (reading_of bytes)

-- the tool that makes `listing_of` of its input
abbrev pub list_tool : Tool
list_tool = tool_of listing_of
