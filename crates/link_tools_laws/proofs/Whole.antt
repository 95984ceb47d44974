-- The heads of a stream have all of their data, but for the last.
use Rattle.std.proofs.Common.{◌≡◌, ℕ, zero, suc, ◌⊎◌, Bool, List, [], ◌∷◌, ◌++◌, length, take, nat_lt, Result, Ok, Err, if◌then◌else◌, refl, arith, length-take}
use Rattle.std.proofs.lemmas.Bool.{ltb-true, ltb-false}
use Rattle.link_wire.specs.Message.{data_length, contact_at, message_at}
use Rattle.link_wire.specs.Stream.{Entry, Cut, Stream, ended, with_entry, stream_by, messages_at, stream_at, Reading, reading_by, reading_of, cut_heads}
use Rattle.link_wire.specs.declared.{fault.WireFault.WireFault, message.Contact.Contact}
use Rattle.link_wire.specs.declared.message.Message.{Message}
use Rattle.link_run.proofs.Continued.{entry}

-- All data of the head has come.
abbrev pub IsWhole : Entry → Type 0
IsWhole head = length head.content ≡ data_length head.message

-- a message without data has none
abbrev pub FitsData : Entry → Type 0
FitsData head = data_length head.message ≡ 0 → head.content ≡ []

abbrev pub AreWhole : List Entry → Type 0
AreWhole [] = Unit {0}
AreWhole (head ∷ more) = IsWhole head × AreWhole more

-- all data of the heads has come, but for the last
abbrev pub AreRead : List Entry → Type 0
AreRead [] = Unit {0}
AreRead (head ∷ more) = FitsData head × (IsWhole head ⊎ (more ≡ [])) × AreRead more

pub no_content : (content : List ℕ) (size : ℕ) → length content ≡ size → size ≡ 0 → content ≡ []
no_content [] size is none = refl
no_content (byte ∷ more) size is none = absurd (omega arith)

pub record StreamReads (stream : Stream) : Type 0 where
  pub heads : AreRead (stream.entries ++ cut_heads stream.end)
  pub whole : AreWhole stream.entries

reads_by : (test : Bool) (offset : ℕ) (sent : Message) (bytes : List ℕ) (rest : Stream)
    → nat_lt (length bytes) (data_length sent) ≡ test → StreamReads rest
    → StreamReads (if test then ended (Cut offset sent bytes)
    else with_entry (entry offset sent (take (data_length sent) bytes)) rest)
reads_by test offset sent bytes rest is reads =
    grind (arith, length-take, ltb-false, ltb-true, no_content)

read_by : (next : ℕ → List ℕ → Stream) (offset size : ℕ)
    (read : Result (Message × List ℕ) WireFault)
    → ((later : ℕ) (bytes : List ℕ) → StreamReads (next later bytes))
    → StreamReads (stream_by next offset size read)
read_by next offset size (Err fault) reads = record { heads = tt; whole = tt }
read_by next offset size (Ok (sent, bytes)) reads =
    reads_by (nat_lt (length bytes) (data_length sent)) offset sent bytes _ refl (reads _ _)

messages_read : (count offset : ℕ) (bytes : List ℕ) → StreamReads (messages_at count offset bytes)
unfolding messages_at
messages_read count offset [] = record { heads = tt; whole = tt }
messages_read zero offset (byte ∷ bytes) = record { heads = tt; whole = tt }
messages_read (suc count) offset (byte ∷ bytes) =
    read_by (messages_at count) offset (length (byte ∷ bytes)) (message_at (byte ∷ bytes))
    (messages_read count)

abbrev pub ReadingReads : Reading → Type 0
ReadingReads reading = StreamReads (record { entries = reading.entries; end = reading.end })

contact_read : (read : Result (Contact × List ℕ) WireFault) → ReadingReads (reading_by read)
unfolding stream_at
contact_read (Err fault) = record { heads = tt; whole = tt }
contact_read (Ok (contact, bytes)) = messages_read (length bytes) 6 bytes

pub reading_read : (bytes : List ℕ) → ReadingReads (reading_of bytes)
unfolding reading_of
reading_read bytes = contact_read (contact_at bytes)
