-- The reading of a whole recorded stream (RFC 9174 section 4), by what is spelled in it: a contact
-- header, messages one after another, and an end.
use Rattle.std.specs.Prelude.{◌≡◌, ◌≢◌, ℕ, ◌+◌, ◌<◌, List, [], ◌∷◌, ◌++◌, length, Option, Some, None, Err}
use Rattle.link_wire.specs.Message.{contact_at, message_at, data_length}
use Rattle.link_wire.specs.Spelled.{BytesProperty, These, ◌⨾◌, ContactSpelled, HeadSpelled, Spelled}
use Rattle.link_wire.specs.Stream.{Entry, End, Clean, Cut, Fault, Reading}
use Rattle.link_wire.specs.declared.{fault.WireFault.WireFault, message.Contact.Contact}
use Rattle.link_wire.specs.declared.message.Message.{Message}

-- no prefix of the bytes is such a spelling
abbrev pub HasNoSpelledPrefix : BytesProperty → List ℕ → Type 0
HasNoSpelledPrefix spelled bytes = (first more : List ℕ) → spelled first → bytes ≢ first ++ more

-- The bytes that are left at an offset. There are none at a clean end. At a cut, they are the whole
-- head of a segment and less data than its length. At a fault, there are some, they begin with no
-- whole head, and they show the fault.
abbrev pub IsEnd : End → ℕ → BytesProperty
IsEnd Clean offset bytes = bytes ≡ []
IsEnd (Cut at message content) offset bytes =
    (at ≡ offset) × (length content < data_length message)
    × (HeadSpelled message ⨾ These content) bytes
IsEnd (Fault at fault) offset bytes =
    (at ≡ offset) × (bytes ≢ [])
    × ((message : Message) → HasNoSpelledPrefix (HeadSpelled message) bytes)
    × (message_at bytes ≡ Err fault)

-- a message at an offset with its data, and the rest after it
pub record EntryAndRestSpelled (entry : Entry) (rest : ℕ → BytesProperty) (offset : ℕ)
    (bytes : List ℕ) : Type 0 where
  pub offset_is : entry.offset ≡ offset
  pub before : List ℕ
  pub after : List ℕ
  pub is_entry : Spelled entry.message entry.content before
  pub is_rest : rest (offset + length before) after
  pub parts : bytes ≡ before ++ after

-- messages from an offset on, one after another, and the end
abbrev pub IsStream : List Entry → End → ℕ → BytesProperty
IsStream [] end = IsEnd end
IsStream (entry ∷ entries) end = EntryAndRestSpelled entry (IsStream entries end)

-- The bytes are a contact header, which has six bytes, and a stream. Or the bytes begin with no
-- contact header: there are no messages, and the end is the fault of the contact header.
abbrev pub IsReadingBy : Option Contact → List Entry → End → BytesProperty
IsReadingBy (Some contact) entries end bytes =
    (ContactSpelled contact ⨾ IsStream entries end 6) bytes
IsReadingBy None entries end bytes =
    (entries ≡ []) × ((contact : Contact) → HasNoSpelledPrefix (ContactSpelled contact) bytes)
    × ((fault : WireFault) × (end ≡ Fault 0 fault) × (contact_at bytes ≡ Err fault))

-- these bytes have this reading
abbrev pub IsReadingOf : List ℕ → Reading → Type 0
IsReadingOf bytes reading = IsReadingBy reading.contact reading.entries reading.end bytes
