-- How the reading of a stream goes on when more bytes follow.
use Rattle.std.proofs.Common.{◌≡◌, ℕ, zero, suc, ◌+◌, ◌-◌, ◌<◌, ◌≤◌, ◌⊎◌, inl, inr, Bool, true, false, nat_lt, List, [], ◌∷◌, ◌++◌, length, take, drop, Some, None, Result, Ok, Err, if◌then◌else◌, refl, ap, sym, ◌∙◌, ⊎_elim, length-append, length-drop, arith}
use Rattle.std.proofs.lemmas.Bool.{cases_lt, false≢true, lt-ltb, le-ltb}
use Rattle.std.proofs.lemmas.List.{take-append-le, drop-append-le}
use Rattle.link_wire.specs.Message.{contact_at, message_at, data_length}
use Rattle.link_wire.specs.Stream.{Entry, Cut, Stream, ended, with_entry, with_data_of, stream_at, Reading, reading_by, reading_of, cut_heads}
use Rattle.link_wire.specs.declared.{fault.WireFault.WireFault, message.Contact.Contact}
use Rattle.link_wire.specs.declared.{message.Message.Message, fault.WireFault.TheVariants.Truncated}
use Rattle.link_wire.proofs.{Shrinks.shrinks_message, Steady.{steady_contact, steady_message}}
use Rattle.link_wire.proofs.Streams.{stream_at-nil, stream_at-message, stream_at-fault}
use Rattle.link_run.specs.Made.{shows_fault, is_lasting, stop_of}
use Rattle.link_run.proofs.Ends.{take-append}

abbrev pub entry : ℕ → Message → List ℕ → Entry
entry offset sent content = record { offset = offset; message = sent; content = content }

-- a fault that lasts is not a missing field
not_missing : (fault : WireFault) → is_lasting fault ≡ true → fault ≡ Truncated → ⊥
not_missing fault stays is = false≢true (sym (ap is_lasting is) ∙ stays)

-- the data of a head that is cut goes on, and then other heads may follow
pub record GrowsTo (head : Entry) (more : List Entry) : Type 0 where
  pub short : length head.content < data_length head.message
  pub piece : List ℕ
  pub others : List Entry
  pub are : more ≡ entry head.offset head.message (head.content ++ piece) ∷ others

-- the heads that may follow the whole messages, where these are the last: none, or one that is cut
abbrev pub LastGoesOn : (last more : List Entry) → Type 0
LastGoesOn [] more = Unit {0}
LastGoesOn (head ∷ []) more = GrowsTo head more
LastGoesOn (head ∷ second ∷ rest) more = ⊥

pub record StreamGoesOn (before after : Stream) : Type 0 where
  pub rest : Stream
  pub are : after ≡ record { entries = before.entries ++ rest.entries; end = rest.end }
  pub follows : LastGoesOn (cut_heads before.end) (rest.entries ++ cut_heads rest.end)
  -- a fault that lasts stays the same
  pub stays : shows_fault (stop_of before.end) ≡ true → after ≡ before

goes_on_entry : (first : Entry) (before after : Stream) → StreamGoesOn before after
    → StreamGoesOn (with_entry first before) (with_entry first after)
goes_on_entry first before after on = record {
  rest = on.rest;
  are = ap (with_entry first) on.are;
  follows = on.follows;
  stays = λ shown. ap (with_entry first) (on.stays shown);
}

-- ---- the data of a segment

module _ (offset : ℕ) (message : Message) (bytes more : List ℕ) where
  grows_by : (test : Bool) (count : ℕ) (later : Stream) → length bytes < data_length message
      → take count (bytes ++ more) ≡ bytes ++ take (count - length bytes) more
      → (let rest : Stream = if test then ended (Cut offset message (bytes ++ more))
      else with_entry (entry offset message (take count (bytes ++ more))) later in
      GrowsTo (entry offset message bytes) (rest.entries ++ cut_heads rest.end))
  grows_by true count later short is = record { short = short; piece = more; others = []; are = refl }
  grows_by false count later short is = record { short = short; piece = take (count - length bytes) more; others = later.entries ++ cut_heads later.end; are = ap (λ (xs : List ℕ). entry offset message xs ∷ later.entries ++ cut_heads later.end) is }

  -- the data is cut
  cut_on : (before after : Stream) → length bytes < data_length message
      → StreamGoesOn (with_data_of offset message bytes before)
      (with_data_of offset message (bytes ++ more) after)
  cut_on before after short =
      rw (lt-ltb (length bytes) (data_length message) short) (record {
        rest = with_data_of offset message (bytes ++ more) after;
        are = refl;
        follows = grows_by (nat_lt (length (bytes ++ more)) (data_length message)) (data_length message) after short (take-append (data_length message) bytes more (omega arith));
        stays = λ shown. absurd (false≢true shown);
      })

  -- the data is whole
  whole_on : (before after : Stream) → data_length message ≤ length bytes → StreamGoesOn before after
      → StreamGoesOn (with_data_of offset message bytes before)
      (with_data_of offset message (bytes ++ more) after)
  whole_on before after whole on =
      rw (le-ltb (length bytes) (data_length message) whole, le-ltb (length (bytes ++ more)) (data_length message) (omega (arith, length-append bytes more)), take-append-le (data_length message) bytes more whole)
      (goes_on_entry (entry offset message (take (data_length message) bytes)) before after on)

-- ---- messages

-- a fault that lasts stays the same
fault_on : (offset byte : ℕ) (bytes more : List ℕ) (fault : WireFault)
    → message_at (byte ∷ bytes) ≡ Err fault
    → StreamGoesOn (stream_at offset (byte ∷ bytes)) (stream_at offset ((byte ∷ bytes) ++ more))
fault_on offset byte bytes more fault is =
    rw (stream_at-fault offset byte bytes fault is) (record {
      rest = stream_at offset ((byte ∷ bytes) ++ more);
      are = refl;
      follows = tt;
      stays = λ stays.
          stream_at-fault offset byte (bytes ++ more) fault
          (steady_message.faulty (byte ∷ bytes) more fault (not_missing fault stays) is);
    })

module _ (count : ℕ) (more : List ℕ)
    (later : (offset : ℕ) (bytes : List ℕ) → length bytes ≤ count
    → StreamGoesOn (stream_at offset bytes) (stream_at offset (bytes ++ more))) where
  message_on : (offset : ℕ) (bytes : List ℕ) (message : Message) (rest : List ℕ)
      → length bytes ≤ suc count → message_at bytes ≡ Ok (message, rest)
      → StreamGoesOn (stream_at offset bytes) (stream_at offset (bytes ++ more))
  message_on offset bytes message rest fewer is =
      let size = data_length message in
      let place = offset + (length bytes - length rest) + size in
      let shorter = shrinks_message.by bytes message rest is in
      let same : offset + (length (bytes ++ more) - length (rest ++ more)) + size ≡ place = omega (arith, length-append bytes more, length-append rest more) in
      rw (stream_at-message offset bytes message rest is, stream_at-message offset (bytes ++ more) message (rest ++ more) (steady_message.read bytes more message rest is), same)
      (⊎_elim
      (λ short. cut_on offset message rest more _ _ short)
      (λ whole. whole_on offset message rest more _ _ whole
      (rw (drop-append-le size rest more whole) (later place (drop size rest) (omega (arith, length-drop size rest)))))
      (cases_lt (length rest) size))

  read_on : (offset byte : ℕ) (bytes : List ℕ) (read : Result (Message × List ℕ) WireFault)
      → length bytes ≤ count → message_at (byte ∷ bytes) ≡ read
      → StreamGoesOn (stream_at offset (byte ∷ bytes)) (stream_at offset ((byte ∷ bytes) ++ more))
  read_on offset byte bytes (Ok (message, rest)) fewer is = message_on offset (byte ∷ bytes) message rest (omega arith) is
  read_on offset byte bytes (Err fault) fewer is = fault_on offset byte bytes more fault is

none_on : (offset : ℕ) (more : List ℕ) → StreamGoesOn (stream_at offset []) (stream_at offset more)
none_on offset more =
    rw stream_at-nil (record {
      rest = stream_at offset more;
      are = refl;
      follows = tt;
      stays = λ shown. absurd (false≢true shown);
    })

stream_on_upto : (count : ℕ) (more : List ℕ) (offset : ℕ) (bytes : List ℕ) → length bytes ≤ count
    → StreamGoesOn (stream_at offset bytes) (stream_at offset (bytes ++ more))
stream_on_upto count more offset [] fewer = none_on offset more
stream_on_upto zero more offset (byte ∷ bytes) fewer = absurd (omega arith)
stream_on_upto (suc count) more offset (byte ∷ bytes) fewer =
    read_on count more (stream_on_upto count more) offset byte bytes (message_at (byte ∷ bytes)) (omega arith) refl

pub stream_on : (offset : ℕ) (bytes more : List ℕ)
    → StreamGoesOn (stream_at offset bytes) (stream_at offset (bytes ++ more))
stream_on offset bytes more = stream_on_upto (length bytes) more offset bytes (omega arith)

-- ---- a stream with its contact header

abbrev pub stream_of : Reading → Stream
stream_of reading = record { entries = reading.entries; end = reading.end }

pub record ReadingGoesOn (before after : Reading) : Type 0 where
  -- the contact header stays the same, or it was not read yet
  pub contact : (after.contact ≡ before.contact) ⊎ ((before.contact ≡ None) × (before.entries ≡ []))
  pub messages : StreamGoesOn (stream_of before) (stream_of after)
  pub stays : shows_fault (stop_of before.end) ≡ true → after ≡ before

reading_on_by : (bytes more : List ℕ) (read : Result (Contact × List ℕ) WireFault)
    → contact_at bytes ≡ read
    → ReadingGoesOn (reading_by read) (reading_by (contact_at (bytes ++ more)))
reading_on_by bytes more (Ok (contact, rest)) is =
    let on = stream_on 6 rest more in
    let read : Stream → Reading =
    λ s. record { contact = Some contact; entries = s.entries; end = s.end } in
    rw (steady_contact.read bytes more contact rest is)
    (record { contact = inl refl; messages = on; stays = λ shown. ap read (on.stays shown) })
reading_on_by bytes more (Err fault) is =
    let after = reading_by (contact_at (bytes ++ more)) in
    let same : is_lasting fault ≡ true → after ≡ reading_by (Err fault) =
    λ stays. ap reading_by (steady_contact.faulty bytes more fault (not_missing fault stays) is) in
    record {
      contact = inr (refl, refl);
      messages = record {
        rest = stream_of after;
        are = refl;
        follows = tt;
        stays = λ shown. ap stream_of (same shown);
      };
      stays = same;
    }

pub reading_on : (bytes more : List ℕ)
    → ReadingGoesOn (reading_of bytes) (reading_of (bytes ++ more))
unfolding reading_of
reading_on bytes more = reading_on_by bytes more (contact_at bytes) refl
