-- Every list of bytes has exactly one reading.
use Rattle.std.proofs.Common.{◌≡◌, ℕ, zero, suc, ◌+◌, ◌<◌, ◌≤◌, true, List, [], ◌∷◌, ◌++◌, length, take, drop, Option, Some, None, Result, Ok, Err, nat_lt, arith, refl, ap, sym, ◌∙◌, subst, append_assoc, length-append, length-drop, ⊎_elim}
use Rattle.std.proofs.lemmas.Bool.{cases_lt, lt-ltb, le-ltb}
use Rattle.std.proofs.lemmas.{List.{take-append-drop, length-take-le}, List.Elements.{All-drop, All-take}}
use Rattle.link_io.specs.Bytes.{IsByte, AreBytes}
use Rattle.link_wire.specs.Part.{Part}
use Rattle.link_wire.proofs.Shrinks.{shrinks_message}
use Rattle.link_wire.specs.Message.{contact_at, message_at, data_length}
use Rattle.link_wire.specs.Spelled.{BytesProperty, ContactSpelled, HeadSpelled}
use Rattle.link_wire.proofs.Sound.{Only, both, only_contact, only_message}
use Rattle.link_wire.proofs.Complete.{AreBytes-after, found_contact, found_message}
use Rattle.link_wire.specs.SpelledStream.{HasNoSpelledPrefix, IsStream, IsReadingBy, IsReadingOf}
use Rattle.link_wire.specs.Stream.{Entry, End, Clean, Cut, Fault, Stream, ended, with_entry, with_data_of, stream_at, Reading, reading_by, reading_of}
use Rattle.link_wire.proofs.{Streams.{stream_at-nil, stream_at-head, stream_at-fault}, Wholes.one_message}
use Rattle.link_wire.specs.Whole.{AreMessages}
use Rattle.link_wire.specs.declared.{fault.WireFault.WireFault, message.Contact.Contact}
use Rattle.link_wire.specs.declared.message.Message.{Message}

only_stream : (entries : List Entry) (end : End) (offset : ℕ) (bytes : List ℕ)
    → IsStream entries end offset bytes
    → stream_at offset bytes ≡ record { entries = entries; end = end }
only_stream [] Clean offset bytes is = ap (stream_at offset) is ∙ stream_at-nil offset
only_stream [] (Cut at message content) offset bytes is =
    let head = is.2.before in
    let known = (only_message message).by head is.2.is_first in
    let whole : bytes ≡ head ++ content = is.2.parts ∙ ap (λ all. head ++ all) is.2.is_second.1 in
    let short : nat_lt (length content) (data_length message) ≡ true = lt-ltb (length content) (data_length message) is.1 in
    ap (stream_at offset) whole ∙ stream_at-head offset head message known content ∙ rw (short, is.0) refl
only_stream [] (Fault at fault) offset [] is = absurd (is.1 refl)
only_stream [] (Fault at fault) offset (b ∷ bytes) is = stream_at-fault offset b bytes fault is.3 ∙ ap (λ place. ended (Fault place fault)) (sym is.0)
only_stream (entry ∷ entries) end offset bytes is =
    let head = is.is_entry.1.before in
    let known = (only_message entry.message).by head is.is_entry.1.is_first in
    let before : is.before ≡ head ++ entry.content = is.is_entry.1.parts ∙ ap (λ all. head ++ all) is.is_entry.1.is_second.1 in
    let here : Entry = record entry { offset = offset } in
    let one : AreMessages offset is.before (here ∷ []) =
    rw before (one_message offset head entry.content entry.message known (sym is.is_entry.0)) in
    ap (stream_at offset) is.parts ∙ one.all is.after
    ∙ ap (with_entry here) (only_stream entries end (offset + length is.before) is.after is.is_rest)
    ∙ ap (λ at. record { entries = record entry { offset = at } ∷ entries; end = end })
    (sym is.offset_is)

only_by : (contact : Option Contact) (entries : List Entry) (end : End) (bytes : List ℕ)
    → IsReadingBy contact entries end bytes
    → reading_of bytes ≡ record { contact = contact; entries = entries; end = end }
unfolding reading_of
only_by (Some contact) entries end bytes is =
    let known = (only_contact contact).by is.before is.is_first is.after in
    let streams : stream_at 6 is.after ≡ record { entries = entries; end = end } = only_stream entries end 6 is.after is.is_second in
    ap (λ all. reading_by (contact_at all)) is.parts ∙ ap reading_by known
    ∙ ap (λ (rest : Stream). record { contact = Some contact; entries = rest.entries; end = rest.end }) streams
only_by None entries end bytes is =
    ap reading_by is.2.2 ∙ rw (is.0, is.2.1) refl

-- any reading of the bytes is the reading that is defined
pub only_reading : (bytes : List ℕ) (reading : Reading) → IsReadingOf bytes reading
    → reading ≡ reading_of bytes
only_reading bytes reading is = sym (only_by reading.contact reading.entries reading.end bytes is)

-- if reading a part gives a fault, the bytes begin with no spelling of the part
none_begins : {A : Type 0} (part : List ℕ → Part A) (value : A) (spelled : BytesProperty)
    (bytes : List ℕ) (fault : WireFault) → Only part value spelled → part bytes ≡ Err fault
    → HasNoSpelledPrefix spelled bytes
none_begins part value spelled bytes fault only is = λ before more spells same.
    let never = sym is ∙ ap part same ∙ only.by before spells more in absurd (cc)

-- the bytes from an offset on spell this stream
abbrev SpellsStream : ℕ → List ℕ → Stream → Type 0
SpellsStream offset bytes stream = IsStream stream.entries stream.end offset bytes

-- a head that was read, and the bytes after it
module _ (offset : ℕ) (message : Message) (head rest : List ℕ) (spells : HeadSpelled message head)
    (are : AreBytes rest) where
  with_data-stands : (later : ℕ → List ℕ → Stream)
      → (let after = drop (data_length message) rest in (at : ℕ)
      → SpellsStream at after (later at after))
      → SpellsStream offset (head ++ rest)
      (with_data_of offset message rest
      (later (offset + length head + data_length message) (drop (data_length message) rest)))
  with_data-stands later stands = ⊎_elim
      (λ less.
      rw (lt-ltb (length rest) (data_length message) less)
      (refl, less, both head rest spells (are, refl)))
      (λ enough.
      let size = length-take-le (data_length message) rest enough in
      let content = take (data_length message) rest in
      let after = drop (data_length message) rest in
      let place : offset + length head + data_length message ≡ offset + length (head ++ content) = omega (arith, length-append head content) in
      rw (le-ltb (length rest) (data_length message) enough) (record {
        offset_is = refl;
        before = head ++ content;
        after = after;
        is_entry = (size, both head content spells (All-take IsByte (data_length message) rest are, refl));
        is_rest = rw (← place) (stands (offset + length head + data_length message));
        parts = ap (λ all. head ++ all) (sym (take-append-drop (data_length message) rest)) ∙ sym (append_assoc head content after);
      }))
      (cases_lt (length rest) (data_length message))

stream_at-bad : (offset : ℕ) (bytes : List ℕ) (fault : WireFault) → 0 < length bytes
    → message_at bytes ≡ Err fault → stream_at offset bytes ≡ ended (Fault offset fault)
stream_at-bad offset [] fault some is = absurd (omega arith)
stream_at-bad offset (b ∷ bytes) fault some is = stream_at-fault offset b bytes fault is

module _ (offset : ℕ) (bytes : List ℕ) where
  head_stands : 0 < length bytes → AreBytes bytes
      → ((at : ℕ) (after : List ℕ) → length after < length bytes → AreBytes after
      → SpellsStream at after (stream_at at after))
      → (read : Result (Message × List ℕ) WireFault) → message_at bytes ≡ read
      → SpellsStream offset bytes (stream_at offset bytes)
  head_stands some are next (Err fault) is =
      rw (stream_at-bad offset bytes fault some is)
      (refl, (λ none. let never : length bytes ≡ 0 = ap length none in absurd (omega arith)), (λ message. none_begins message_at message (HeadSpelled message) bytes fault (only_message message) is), is)
  head_stands some are next (Ok (message, rest)) is =
      let fewer = shrinks_message.by bytes message rest is in
      let found = found_message.by bytes message rest are is in
      let after = AreBytes-after found.before rest (subst AreBytes found.parts are) in
      let known = (only_message message).by found.before found.is in
      let size = data_length message in
      rw (found.parts, stream_at-head offset found.before message known rest)
      (with_data-stands offset message found.before rest found.is after stream_at
      (λ at. next at (drop size rest) (omega (arith, length-drop size rest))
      (All-drop IsByte size rest after)))

-- at most `count` bytes spell the stream that is read from them
stream_stands : (count offset : ℕ) (bytes : List ℕ) → length bytes ≤ count → AreBytes bytes
    → SpellsStream offset bytes (stream_at offset bytes)
stream_stands count offset [] few are = rw (stream_at-nil offset) refl
stream_stands zero offset (b ∷ bytes) few are = absurd (omega arith)
stream_stands (suc count) offset (b ∷ bytes) few are =
    head_stands offset (b ∷ bytes) (omega arith) are (λ at after fewer. stream_stands count at after (omega arith)) (message_at (b ∷ bytes)) refl

reading_by-stands : (bytes : List ℕ) → AreBytes bytes → (read : Result (Contact × List ℕ) WireFault)
    → contact_at bytes ≡ read → IsReadingOf bytes (reading_by read)
reading_by-stands bytes are (Err fault) is =
    (refl, (λ contact. none_begins contact_at contact (ContactSpelled contact) bytes fault (only_contact contact) is), (fault, refl, is))
reading_by-stands bytes are (Ok (contact, rest)) is =
    let found = found_contact.by bytes contact rest are is in
    let after = AreBytes-after found.before rest (subst AreBytes found.parts are) in
    record {
      before = found.before;
      after = rest;
      is_first = found.is;
      is_second = stream_stands (length rest) 6 rest (omega arith) after;
      parts = found.parts;
    }

-- the reading that is defined is a reading of the bytes
pub a_reading : (bytes : List ℕ) → AreBytes bytes → IsReadingOf bytes (reading_of bytes)
unfolding reading_of
a_reading bytes are = reading_by-stands bytes are (contact_at bytes) refl
