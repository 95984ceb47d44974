-- The reading of bytes does not change when more bytes follow, unless a field is missing.
use Rattle.std.proofs.Common.{◌≡◌, ◌⊎◌, inl, inr, ⊎_elim, ℕ, List, ◌++◌, Some, Ok, Err, refl, ap, sym, ◌∙◌}
use Rattle.link_io.specs.{Device.{Input, BeginsWith}, Source.at_hand}
use Rattle.link_wire.specs.{Message.{contact_at, message_at}, Part.Part}
use Rattle.link_wire.specs.{Getting.IsEnoughFor, Session.{HasEnoughForContact, HasEnoughForNext}}
use Rattle.link_wire.specs.declared.fault.{WireFault.WireFault, WireFault.TheVariants.Truncated}
use Rattle.link_wire.specs.declared.session.Session.{Session}
use Rattle.link_wire.proofs.Within.{Steady, within_contact, within_message}

pub steady_message : Steady message_at
steady_message = within_message.steady

pub steady_contact : Steady contact_at
steady_contact = within_contact.steady

-- whether a field is missing
is_missing : (fault : WireFault) → (fault ≡ Truncated) ⊎ (fault ≡ Truncated → ⊥)
is_missing Truncated = inl refl
is_missing fault = inr (λ is. cc)

-- if a field is missing in some bytes, one is missing in each prefix of them
module _ {A : Type 0} (part : List ℕ → Part A) (steady : Steady part) (bytes more : List ℕ)
    (cut : part (bytes ++ more) ≡ Err Truncated) where
  cut_by : (read : Part A) → part bytes ≡ read → part bytes ≡ Err Truncated
  cut_by (Ok (value, rest)) is = absurd (cc (steady.read bytes more value rest is))
  cut_by (Err fault) is =
      ⊎_elim (λ missing. is ∙ ap Err missing)
      (λ other. absurd (other (cc (steady.faulty bytes more fault other is))))
      (is_missing fault)

  pub cut_before : part bytes ≡ Err Truncated
  cut_before = cut_by (part bytes) refl

-- if no field of a part is missing in the first of some bytes, they are enough for the part
module _ {A : Type 0} (part : List ℕ → Part A) (steady : Steady part) where
  enough_here : (all bytes : List ℕ) → BeginsWith (Some all) bytes → IsEnoughFor part bytes
      → IsEnoughFor part all
  enough_here all bytes next enough = λ cut.
      enough (cut_before part steady bytes next.0 (ap part (sym next.1) ∙ cut))

-- if the head of a message is at hand, that is enough
pub head_next : {R : Type 0} (look : R → Input) (s : Session R) → s.left ≡ 0 → (bytes : List ℕ)
    → BeginsWith (Some (at_hand look s.source)) bytes → IsEnoughFor message_at bytes
    → HasEnoughForNext look s
head_next look s between bytes next enough =
    rw between (enough_here message_at steady_message (at_hand look s.source) bytes next enough)

-- if a contact header is at hand, that is enough
pub contact_next : {R : Type 0} (look : R → Input) (s : Session R) (bytes : List ℕ)
    → BeginsWith (Some (at_hand look s.source)) bytes → IsEnoughFor contact_at bytes
    → HasEnoughForContact look s
contact_next look s bytes next enough =
    enough_here contact_at steady_contact (at_hand look s.source) bytes next enough
