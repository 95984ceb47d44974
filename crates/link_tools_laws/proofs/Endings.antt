-- Each recorded stream can go on until a fault that lasts stops it.
use Rattle.std.proofs.Common.{◌≡◌, ◌≢◌, ℕ, zero, suc, ◌+◌, ◌-◌, ◌≤◌, ◌⊎◌, inl, inr, ⊎_elim, Bool, true, false, nat_lt, List, [], ◌∷◌, ◌++◌, length, take, drop, replicate, Option, Some, None, Result, Ok, Err, if◌then◌else◌, refl, ap, sym, subst, ◌∙◌, append-nil, append_assoc, length-append, arith}
use Rattle.std.proofs.Math.Seq.{take-append_seam, drop-append_seam}
use Rattle.std.proofs.lemmas.Bool.{cases_lt}
use Rattle.std.proofs.lemmas.List.{length-replicate, nil_from_length}
use Rattle.std.proofs.lemmas.List.Elements.{All-nil, All-cons, All-append, All-replicate, All-drop}
use Rattle.link_wire.specs.{Bytes.{IsByte, AreBytes}, Limits.longest_head}
use Rattle.link_wire.specs.Message.{contact_at, message_at, fields_at, data_length}
use Rattle.link_wire.specs.Part.{bytes_at, number_at}
use Rattle.link_wire.specs.Spelled.{HeadSpelled}
use Rattle.link_wire.specs.SpelledStream.{HasNoSpelledPrefix, IsEnd, IsStream, IsReadingBy, IsReadingOf}
use Rattle.link_wire.specs.Stream.{Entry, End, Clean, Cut, Fault, Stream, ended, with_entry, stream_at, Reading, reading_by, reading_of}
use Rattle.link_wire.specs.declared.fault.{WireFault.WireFault, WireFault.TheVariants.{Truncated, UnknownType}}
use Rattle.link_wire.specs.declared.message.{Contact.Contact, Message.Message}
use Rattle.link_wire.proofs.FieldReads.{bytes_at-there}
use Rattle.link_wire.proofs.Streams.{stream_at-message, stream_at-fault}
use Rattle.link_wire.proofs.Within.{within_contact, within_message}
use Rattle.link_run.specs.Made.{is_lasting}
use Rattle.link_run.proofs.{Continued.entry, Ends.take-append}
use Rattle.link_tools_laws.proofs.Entries.{stream_then, stream_one}

abbrev zeros : ℕ → List ℕ
zeros count = replicate count 0

zeros_are : (count : ℕ) → AreBytes (zeros count)
zeros_are count = All-replicate IsByte count 0 (omega arith)

length_zeros : (count : ℕ) → length (zeros count) ≡ count
length_zeros count = length-replicate {A = ℕ} count 0

one_zero : AreBytes (0 ∷ [])
one_zero = All-cons IsByte 0 [] (omega arith) (All-nil IsByte)

lasts : (fault : WireFault) → (fault ≡ Truncated) ⊎ (is_lasting fault ≡ true)
lasts Truncated = inl refl
lasts fault = inr refl

-- the bytes after the first ones
bytes_after : (front rest bytes : List ℕ) → bytes ≡ front ++ rest → AreBytes bytes → AreBytes rest
bytes_after front rest bytes parts are =
    subst AreBytes (ap (drop (length front)) parts ∙ drop-append_seam front rest)
    (All-drop IsByte (length front) bytes are)

-- ---- a contact header, and a stream after it

abbrev header : List ℕ
header = 0x64 ∷ 0x74 ∷ 0x6e ∷ 0x21 ∷ 4 ∷ 0 ∷ []

header_are : AreBytes header
header_are =
    All-cons IsByte 0x64 (0x74 ∷ 0x6e ∷ 0x21 ∷ 4 ∷ 0 ∷ []) (omega arith)
    (All-cons IsByte 0x74 (0x6e ∷ 0x21 ∷ 4 ∷ 0 ∷ []) (omega arith)
    (All-cons IsByte 0x6e (0x21 ∷ 4 ∷ 0 ∷ []) (omega arith)
    (All-cons IsByte 0x21 (4 ∷ 0 ∷ []) (omega arith)
    (All-cons IsByte 4 (0 ∷ []) (omega arith) one_zero))))

abbrev plain : Contact
plain = record { flags = 0 }

header_read : (bytes : List ℕ) → contact_at (header ++ bytes) ≡ Ok (plain, bytes)
unfolding contact_at
header_read bytes = rw (bytes_at-there header bytes) refl

after_header : (bytes : List ℕ) → reading_of (header ++ bytes) ≡ reading_by (Ok (plain, bytes))
unfolding reading_of
after_header bytes = ap reading_by (header_read bytes)

-- a contact header with a fault ends the reading
fault_reading : (bytes : List ℕ) (fault : WireFault) → contact_at bytes ≡ Err fault
    → (reading_of bytes).end ≡ Fault 0 fault
unfolding reading_of
fault_reading bytes fault is = rw is refl

-- the spelling of a head, and the bytes after it
record Headed (message : Message) (bytes : List ℕ) : Type 0 where
  head : List ℕ
  rest : List ℕ
  spells : HeadSpelled message head
  parts : bytes ≡ head ++ rest

headed_by : (test : Bool) (offset : ℕ) (message : Message) (bytes rest : List ℕ) (later : Stream)
    → (let stream : Stream = if test then ended (Cut offset message rest)
    else with_entry (entry offset message (take (data_length message) rest)) later in
    IsStream stream.entries stream.end offset bytes)
    → Headed message bytes
headed_by true offset message bytes rest later is = record {
  head = is.2.before;
  rest = is.2.after;
  spells = is.2.is_first;
  parts = is.2.parts;
}
headed_by false offset message bytes rest later is =
    let first = is.is_entry.1 in
    record {
      head = first.before;
      rest = first.after ++ is.after;
      spells = first.is_first;
      parts =
          is.parts ∙ ap (λ (text : List ℕ). text ++ is.after) first.parts
          ∙ append_assoc first.before first.after is.after;
    }

-- no message has the type 0
no_type : message_at (0 ∷ []) ≡ Err (UnknownType 0)
unfolding message_at fields_at number_at bytes_at
no_type = refl

-- More bytes bring the stream to a fault that lasts. If it ends between two messages, no message is
-- added.
record Extends (entries : List Entry) (end : End) (offset : ℕ) (bytes : List ℕ) : Type 0 where
  more : List ℕ
  are : AreBytes more
  added : List Entry
  place : ℕ
  fault : WireFault
  lasting : is_lasting fault ≡ true
  stands : IsStream (entries ++ added) (Fault place fault) offset (bytes ++ more)
  same : end ≡ Clean → added ≡ []

-- every list of bytes has its reading
module _ (some : (bytes : List ℕ) → AreBytes bytes → IsReadingOf bytes (reading_of bytes)) where
  stream_stands : (bytes : List ℕ) → AreBytes bytes
      → IsStream (stream_at 6 bytes).entries (stream_at 6 bytes).end 6 bytes
  stream_stands bytes are =
      let reads : IsReadingOf (header ++ bytes) (reading_by (Ok (plain, bytes))) =
      subst (IsReadingOf (header ++ bytes)) (after_header bytes)
      (some (header ++ bytes) (All-append IsByte header bytes header_are are)) in
      let parts : header ++ bytes ≡ header ++ reads.after =
      reads.parts ∙ ap (λ (text : List ℕ). text ++ reads.after) reads.is_first.1 in
      let same : reads.after ≡ bytes = sym (ap (drop 6) parts) in
      subst (IsStream (stream_at 6 bytes).entries (stream_at 6 bytes).end 6) same reads.is_second

  -- a fault at the first of some bytes
  fault_stands : (offset : ℕ) (bytes : List ℕ) (fault : WireFault) → AreBytes bytes
      → bytes ≢ [] → message_at bytes ≡ Err fault → IsEnd (Fault offset fault) offset bytes
  fault_stands offset [] fault are filled is = absurd (filled refl)
  fault_stands offset (byte ∷ bytes) fault are filled is =
      let stands : IsEnd (Fault 6 fault) 6 (byte ∷ bytes) =
      rw (stream_at-fault 6 byte bytes fault is) at (stream_stands (byte ∷ bytes) are) in
      (refl, stands.1, stands.2, is)

  headed : (bytes : List ℕ) (message : Message) (rest : List ℕ) → AreBytes bytes
      → message_at bytes ≡ Ok (message, rest) → Headed message bytes
  headed bytes message rest are is =
      headed_by (nat_lt (length rest) (data_length message)) 6 message bytes rest _
      (rw (stream_at-message 6 bytes message rest is) at (stream_stands bytes are))

  zero_stands : (offset : ℕ) → IsEnd (Fault offset (UnknownType 0)) offset (0 ∷ [])
  zero_stands offset =
      fault_stands offset (0 ∷ []) (UnknownType 0) one_zero
      (λ none. absurd (omega (arith, ap length none))) no_type

  -- zeros complete the data of a segment, and another one begins no message
  data_extends : (offset : ℕ) (message : Message) (head content : List ℕ)
      → HeadSpelled message head → AreBytes content → length content ≤ data_length message
      → Extends [] (Cut offset message content) offset (head ++ content)
  data_extends offset message head content spells are short =
      let lacking = data_length message - length content in
      let left = zeros lacking in
      let filled = content ++ left in
      let size : length filled ≡ data_length message =
      omega (arith, short, length-append content left, length_zeros lacking) in
      let all = All-append IsByte content left are (zeros_are lacking) in
      let stands = stream_then (entry offset message filled ∷ []) []
      (Fault (offset + length (head ++ filled)) (UnknownType 0)) offset (head ++ filled) (0 ∷ [])
      (stream_one offset message head filled spells size all)
      (zero_stands (offset + length (head ++ filled))) in
      let parts : (head ++ filled) ++ 0 ∷ [] ≡ (head ++ content) ++ (left ++ 0 ∷ []) =
      ap (λ (text : List ℕ). text ++ 0 ∷ []) (sym (append_assoc head content left))
      ∙ append_assoc (head ++ content) left (0 ∷ []) in
      record {
        more = left ++ 0 ∷ [];
        are = All-append IsByte left (0 ∷ []) (zeros_are lacking) one_zero;
        added = entry offset message filled ∷ [];
        place = offset + length (head ++ filled);
        fault = UnknownType 0;
        lasting = refl;
        stands = rw parts at stands;
        same = λ clean. absurd (cc);
      }

  abbrev NoHead : List ℕ → Type 0
  NoHead bytes = (message : Message) → HasNoSpelledPrefix (HeadSpelled message) bytes

  -- one more byte completes a head, so the head has all bytes
  last_byte : (message : Message) (bytes : List ℕ) → NoHead bytes
      → (head : Headed message (bytes ++ 0 ∷ [])) → head.head ≡ bytes ++ 0 ∷ []
  last_byte message bytes none first =
      let count = length bytes in
      let head = first.head in
      let sizes = ap length first.parts in
      ⊎_elim
      (λ past.
      let nil : first.rest ≡ [] =
      nil_from_length first.rest
      (omega (arith, past, sizes, length-append bytes (0 ∷ []), length-append head first.rest)) in
      sym (first.parts ∙ ap (λ (text : List ℕ). head ++ text) nil ∙ append-nil head))
      (λ inside.
      let later = take (count - length head) first.rest in
      let same : bytes ≡ head ++ later =
      sym (take-append_seam bytes (0 ∷ [])) ∙ ap (take count) first.parts
      ∙ take-append count head first.rest inside in
      absurd (none message head later first.spells same))
      (cases_lt count (length head))

  -- what comes after one more byte
  one_more : (at offset : ℕ) (fault : WireFault) (end : End) (bytes : List ℕ)
      → Extends [] end offset (bytes ++ 0 ∷ [])
      → Extends [] (Fault at fault) offset bytes
  one_more at offset fault end bytes later = record {
    more = 0 ∷ later.more;
    are = All-cons IsByte 0 later.more (omega arith) later.are;
    added = later.added;
    place = later.place;
    fault = later.fault;
    lasting = later.lasting;
    stands = rw (append_assoc bytes (0 ∷ []) later.more) at later.stands;
    same = λ clean. absurd (cc);
  }

  lasts_there : (at offset : ℕ) (fault : WireFault) (bytes : List ℕ) → is_lasting fault ≡ true
      → IsEnd (Fault at fault) offset bytes → Extends [] (Fault at fault) offset bytes
  lasts_there at offset fault bytes lasting is = record {
    more = [];
    are = All-nil IsByte;
    added = [];
    place = at;
    fault = fault;
    lasting = lasting;
    stands = rw append-nil is;
    same = λ clean. refl;
  }

  filled_by : (bytes : List ℕ) → bytes ++ 0 ∷ [] ≢ []
  filled_by bytes none = omega (arith, ap length none, length-append bytes (0 ∷ []))

  -- one more byte completes a head, shows a fault that lasts, or leaves the head cut
  module _ (at offset : ℕ) (bytes : List ℕ) (are : AreBytes bytes) (none : NoHead bytes)
      (later : AreBytes (bytes ++ 0 ∷ []) → NoHead (bytes ++ 0 ∷ [])
      → message_at (bytes ++ 0 ∷ []) ≡ Err Truncated
      → Extends [] (Fault offset Truncated) offset (bytes ++ 0 ∷ [])) where
    abbrev longer : List ℕ
    longer = bytes ++ 0 ∷ []

    longer_are : AreBytes longer
    longer_are = All-append IsByte bytes (0 ∷ []) are one_zero

    complete_by : (read : Result (Message × List ℕ) WireFault) → message_at longer ≡ read
        → Extends [] (Fault at Truncated) offset bytes
    complete_by (Ok (message, rest)) is =
        let first = headed longer message rest longer_are is in
        let whole : first.head ++ [] ≡ longer =
        append-nil first.head ∙ last_byte message bytes none first in
        one_more at offset Truncated (Cut offset message []) bytes
        (rw whole at (data_extends offset message first.head [] first.spells (All-nil IsByte)
        (omega arith)))
    complete_by (Err fault) is =
        ⊎_elim
        (λ missing.
        let same : message_at longer ≡ Err Truncated = rw missing at is in
        let stands = fault_stands offset longer Truncated longer_are (filled_by bytes) same in
        one_more at offset Truncated (Fault offset Truncated) bytes
        (later longer_are stands.2 same))
        (λ other.
        one_more at offset Truncated (Fault offset fault) bytes
        (lasts_there offset offset fault longer other
        (fault_stands offset longer fault longer_are (filled_by bytes) is)))
        (lasts fault)

  -- zeros complete a head in which a field is missing, or show a fault that lasts
  complete : (count at offset : ℕ) (bytes : List ℕ) → AreBytes bytes → NoHead bytes
      → message_at bytes ≡ Err Truncated → longest_head ≤ length bytes + count
      → Extends [] (Fault at Truncated) offset bytes
  complete zero at offset bytes are none cut far =
      absurd (omega (arith, within_message.cut bytes cut, far))
  complete (suc count) at offset bytes are none cut far =
      complete_by at offset bytes are none
      (λ all still same. complete count offset offset (bytes ++ 0 ∷ []) all still same
      (omega (arith, far, length-append bytes (0 ∷ []))))
      (message_at (bytes ++ 0 ∷ [])) refl

  end_extends : (end : End) (offset : ℕ) (bytes : List ℕ) → AreBytes bytes
      → IsEnd end offset bytes → Extends [] end offset bytes
  end_extends Clean offset bytes are is = record {
    more = 0 ∷ [];
    are = one_zero;
    added = [];
    place = offset;
    fault = UnknownType 0;
    lasting = refl;
    stands = rw is (zero_stands offset);
    same = λ clean. refl;
  }
  end_extends (Cut at message content) offset bytes are is =
      let whole : bytes ≡ is.2.before ++ content =
      is.2.parts ∙ ap (λ (text : List ℕ). is.2.before ++ text) is.2.is_second.1 in
      let short = is.1 in
      rw (whole, is.0) (data_extends offset message is.2.before content is.2.is_first
      is.2.is_second.0 (omega (arith, short)))
  end_extends (Fault at fault) offset bytes are is =
      ⊎_elim
      (λ missing.
      let cut : message_at bytes ≡ Err Truncated = rw missing at is.3 in
      rw missing (complete longest_head at offset bytes are is.2 cut (omega arith)))
      (λ other. lasts_there at offset fault bytes other is)
      (lasts fault)

  stream_extends : (entries : List Entry) (end : End) (offset : ℕ) (bytes : List ℕ)
      → AreBytes bytes → IsStream entries end offset bytes → Extends entries end offset bytes
  stream_extends [] end offset bytes are is =
      let last = end_extends end offset bytes are is in
      record {
        more = last.more;
        are = last.are;
        added = last.added;
        place = last.place;
        fault = last.fault;
        lasting = last.lasting;
        stands = last.stands;
        same = last.same;
      }
  stream_extends (first ∷ entries) end offset bytes are is =
      let later = stream_extends entries end (offset + length is.before) is.after
      (bytes_after is.before is.after bytes is.parts are) is.is_rest in
      record {
        more = later.more;
        are = later.are;
        added = later.added;
        place = later.place;
        fault = later.fault;
        lasting = later.lasting;
        stands = record {
          offset_is = is.offset_is;
          before = is.before;
          after = is.after ++ later.more;
          is_entry = is.is_entry;
          is_rest = later.stands;
          parts =
              ap (λ (text : List ℕ). text ++ later.more) is.parts
              ∙ append_assoc is.before is.after later.more;
        };
        same = later.same;
      }

-- ---- a stream with its contact header

-- More bytes bring the reading to a fault that lasts. If it ends between two messages, it stays the
-- same up to there.
pub record ReadingHalts (bytes : List ℕ) (before : Reading) : Type 0 where
  pub more : List ℕ
  pub are : AreBytes more
  pub place : ℕ
  pub fault : WireFault
  pub lasting : is_lasting fault ≡ true
  pub ends : (reading_of (bytes ++ more)).end ≡ Fault place fault
  pub same : before.end ≡ Clean
      → ((reading_of (bytes ++ more)).contact ≡ before.contact)
      × ((reading_of (bytes ++ more)).entries ≡ before.entries)

module _ (some : (bytes : List ℕ) → AreBytes bytes → IsReadingOf bytes (reading_of bytes))
    (only : (bytes : List ℕ) (reading : Reading) → IsReadingOf bytes reading
    → reading ≡ reading_of bytes) where
  contact_halts : (bytes : List ℕ) → AreBytes bytes → (contact : Contact) (entries : List Entry)
      (end : End) → IsReadingBy (Some contact) entries end bytes
      → ReadingHalts bytes (record { contact = Some contact; entries = entries; end = end })
  contact_halts bytes are contact entries end is =
      let on = stream_extends some entries end 6 is.after
      (bytes_after is.before is.after bytes is.parts are) is.is_second in
      let longer : Reading =
      record {
        contact = Some contact;
        entries = entries ++ on.added;
        end = Fault on.place on.fault;
      } in
      let read : longer ≡ reading_of (bytes ++ on.more) =
      only (bytes ++ on.more) longer (record {
        before = is.before;
        after = is.after ++ on.more;
        is_first = is.is_first;
        is_second = on.stands;
        parts =
            ap (λ (text : List ℕ). text ++ on.more) is.parts
            ∙ append_assoc is.before is.after on.more;
      }) in
      record {
        more = on.more;
        are = on.are;
        place = on.place;
        fault = on.fault;
        lasting = on.lasting;
        ends = sym (ap (λ (r : Reading). r.end) read);
        same = λ clean. (
          sym (ap (λ (r : Reading). r.contact) read),
          sym (ap (λ (r : Reading). r.entries) read)
              ∙ ap (λ (es : List Entry). entries ++ es) (on.same clean) ∙ append-nil entries,
        );
      }

  -- a contact header in which bytes are missing
  module _ (bytes : List ℕ) (are : AreBytes bytes) (before : Reading)
      (unclean : before.end ≡ Clean → ⊥) (cut : contact_at bytes ≡ Err Truncated) where
    abbrev left : List ℕ
    left = zeros (6 - length bytes)

    abbrev filled : List ℕ
    filled = bytes ++ left

    filled_are : AreBytes filled
    filled_are = All-append IsByte bytes left are (zeros_are (6 - length bytes))

    filled_size : 6 ≤ length filled
    filled_size =
        omega (arith, within_contact.cut bytes cut, length-append bytes left, length_zeros (6 - length bytes))

    missing_by : (contact : Option Contact) (entries : List Entry) (end : End)
        → IsReadingBy contact entries end filled → ReadingHalts bytes before
    missing_by (Some contact) entries end is =
        let on = contact_halts filled filled_are contact entries end is in
        record {
          more = left ++ on.more;
          are = All-append IsByte left on.more (zeros_are (6 - length bytes)) on.are;
          place = on.place;
          fault = on.fault;
          lasting = on.lasting;
          ends = rw (append_assoc bytes left on.more) at on.ends;
          same = λ clean. absurd (unclean clean);
        }
    missing_by None entries end is =
        let fault = is.2.0 in
        ⊎_elim
        (λ missing.
        let cut_still : contact_at filled ≡ Err Truncated = rw missing at is.2.2 in
        absurd (omega (arith, filled_size, within_contact.cut filled cut_still)))
        (λ other. record {
          more = left;
          are = zeros_are (6 - length bytes);
          place = 0;
          fault = fault;
          lasting = other;
          ends = fault_reading filled fault is.2.2;
          same = λ clean. absurd (unclean clean);
        })
        (lasts fault)

    missing_halts : ReadingHalts bytes before
    missing_halts =
        let full = reading_of filled in
        missing_by full.contact full.entries full.end (some filled filled_are)

  reading_halts_by : (bytes : List ℕ) → AreBytes bytes → (contact : Option Contact)
      (entries : List Entry) (end : End) → IsReadingBy contact entries end bytes
      → ReadingHalts bytes (record { contact = contact; entries = entries; end = end })
  reading_halts_by bytes are (Some contact) entries end is =
      contact_halts bytes are contact entries end is
  reading_halts_by bytes are None entries end is =
      let fault = is.2.0 in
      let unclean : end ≡ Clean → ⊥ =
      λ clean. (let never : Fault 0 fault ≡ Clean = sym is.2.1 ∙ clean in absurd (cc)) in
      ⊎_elim
      (λ missing.
      missing_halts bytes are (record { contact = None; entries = entries; end = end }) unclean
      (rw missing at is.2.2))
      (λ other. record {
        more = [];
        are = All-nil IsByte;
        place = 0;
        fault = fault;
        lasting = other;
        ends = rw append-nil (fault_reading bytes fault is.2.2);
        same = λ clean. absurd (unclean clean);
      })
      (lasts fault)

  pub reading_halts : (bytes : List ℕ) → AreBytes bytes → ReadingHalts bytes (reading_of bytes)
  reading_halts bytes are =
      let reading = reading_of bytes in
      reading_halts_by bytes are reading.contact reading.entries reading.end (some bytes are)
