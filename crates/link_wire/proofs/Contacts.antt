-- A stream begins with the six bytes of its contact header.
use Rattle.std.proofs.Common.{◌≡◌, ℕ, List, [], ◌++◌, length, Some, None, Ok, Err, arith, refl, ap, length-append, ⊎_elim}
use Rattle.std.proofs.lemmas.Bool.{cases_lt}
use Rattle.link_wire.specs.Part.{bytes_at}
use Rattle.link_wire.proofs.{FieldReads.bytes_at-short, Within.within_contact}
use Rattle.link_wire.specs.{Message.contact_at, Stream.{Fault, stream_at, reading_of, reading_by}}
use Rattle.link_wire.specs.declared.fault.{WireFault.WireFault, WireFault.TheVariants.Truncated}
use Rattle.link_wire.specs.declared.message.Contact.{Contact}

module _ (taken : List ℕ) (contact : Contact)
    (is : (more : List ℕ) → contact_at (taken ++ more) ≡ Ok (contact, more)) where
  pub contact_taken : length taken ≡ 6
  unfolding contact_at
  contact_taken =
      let most = (within_contact.read (taken ++ []) contact [] (is [])).0 in
      let size = length-append taken [] in
      ⊎_elim
      (λ short.
      let never = rw (bytes_at-short 6 (taken ++ []) (omega arith)) at (is []) in
      absurd (cc))
      (λ enough. omega (arith, most, size))
      (cases_lt (length taken) 6)

  -- what follows the contact header is read from offset 6 on
  pub reading-contact : (more : List ℕ)
      → reading_of (taken ++ more)
      ≡ record {
        contact = Some contact;
        entries = (stream_at 6 more).entries;
        end = (stream_at 6 more).end;
      }
  unfolding reading_of
  reading-contact more = ap reading_by (is more)

pub reading-refused : (bytes : List ℕ) (fault : WireFault) → contact_at bytes ≡ Err fault
    → reading_of bytes ≡ record { contact = None; entries = []; end = Fault 0 fault }
unfolding reading_of
reading-refused bytes fault is = ap reading_by is

-- a stream of no bytes has no contact header
pub reading-none : reading_of [] ≡ record { contact = None; entries = []; end = Fault 0 Truncated }
unfolding contact_at bytes_at
reading-none = reading-refused [] Truncated refl
