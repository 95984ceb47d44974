-- A stream of messages that were written is read as it was.
use Rattle.std.proofs.Common.{◌≡◌, ℕ, ◌+◌, List, [], ◌∷◌, length, refl, ap, sym, ◌∙◌}
use Rattle.std.specs.List.{All, flat_map}
use Rattle.std.proofs.lemmas.{List.Elements.{All-head, All-tail}}
use Rattle.link_wire.proofs.{Sound.only_contact, Spellings.contact_spelled}
use Rattle.link_wire.proofs.{Streams.stream_at-nil, Wholes.one_message}
use Rattle.link_wire.specs.Spelling.{contact_bytes}
use Rattle.link_wire.specs.{Stream.{Entry, Clean, stream_at, reading_of}, Whole.followed}
use Rattle.link_wire_writer.proofs.Messages.{message_there}
use Rattle.link_wire_writer.specs.MessageBytes.{message_bytes}
use Rattle.link_wire_writer.specs.ReadsBack.{written_message}
use Rattle.link_wire_writer.specs.Sent.{Sent, IsSendable, sent_message, sent_entries, StreamReadsBack}

stream_there : (offset : ℕ) (messages : List Sent) → All IsSendable messages
    → stream_at offset (flat_map sent_message messages)
    ≡ record { entries = sent_entries offset messages; end = Clean }
unfolding sent_entries
stream_there offset [] all = stream_at-nil offset
stream_there offset (sent ∷ messages) all =
    let is = All-head IsSendable sent messages all in
    let message = written_message sent.fields sent.node sent.items in
    let entry : Entry = record { offset = offset; message = message; content = sent.content } in
    let one = one_message offset (message_bytes sent.fields sent.node sent.items) sent.content message
    (λ more. message_there sent.fields sent.node sent.items more is.fit is.writable) (sym is.size) in
    one.all (flat_map sent_message messages)
    ∙ ap (followed (entry ∷ [])) (stream_there (offset + length (sent_message sent)) messages
    (All-tail IsSendable sent messages all))

pub stream_back : StreamReadsBack
unfolding reading_of
stream_back flags messages fits all =
    let contact = (only_contact (record { flags = flags })).by (contact_bytes flags)
    (contact_spelled flags fits) (flat_map sent_message messages) in
    rw (contact, stream_there 6 messages all) refl
