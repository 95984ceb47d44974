-- Relations, but for IfTruncatedNothingFollows, IsEnoughFor: a part that is read from a source,
-- compared with its definition over lists.
use Rattle.std.specs.Prelude.{◌≡◌, ℕ, ◌<◌, List, [], ◌∷◌, ◌++◌, length, take, Option, Some, None, Result, Ok, Err}
use Rattle.link_io.specs.Device.{Input}
use Rattle.link_wire.specs.Part.{Part}
use Rattle.link_io.specs.Source.{at_hand, reach, IsLive, IsOver, Takes, TakesThenStops}
use Rattle.link_io.specs.declared.fault.IoFault.{IoFault}
use Rattle.link_wire.specs.declared.fault.{WireFault.WireFault, WireFault.TheVariants.Truncated}
use Rattle.link_wire.specs.declared.halt.Halt.{Halt}
use Rattle.link_wire.specs.declared.halt.Halt.TheVariants as halt
use Rattle.link_io.specs.declared.source.Source.{Source}

-- what may follow bytes that show a fault: nothing after a missing field, anything after other
-- faults
abbrev pub IfTruncatedNothingFollows : WireFault → List ℕ → Type 0
IfTruncatedNothingFollows fault more = fault ≡ Truncated → more ≡ []

-- These bytes are enough for this part: no field of it is missing, or it shows a fault.
abbrev pub IsEnoughFor : {A : Type 0} → (List ℕ → Part A) → List ℕ → Type 0
IsEnoughFor part bytes = part bytes ≡ Err Truncated → ⊥

module _ {A : Type 0} where
  -- all of these bytes are needed: in a proper prefix of them a field is missing
  abbrev pub AreNeeded : (List ℕ → Part A) → List ℕ → Type 0
  AreNeeded part bytes = (count : ℕ) → count < length bytes
      → part (take count bytes) ≡ Err Truncated

  -- These bytes are the part with this value, whatever follows them, and all of them are needed.
  pub record IsPart (part : List ℕ → Part A) (bytes : List ℕ) (value : A) : Type 0 where
    pub is_part : (more : List ℕ) → part (bytes ++ more) ≡ Ok (value, more)
    pub needs : AreNeeded part bytes

  -- These bytes show the fault, whatever may follow them (`IfTruncatedNothingFollows`). In a proper
  -- prefix of them, a field is missing. So no proper prefix shows a fault other than `Truncated`.
  pub record IsFaultOfNeededBytes (part : List ℕ → Part A) (bytes : List ℕ) (fault : WireFault)
      : Type 0 where
    pub is_fault : (more : List ℕ) → IfTruncatedNothingFollows fault more
        → part (bytes ++ more) ≡ Err fault
    pub needs : AreNeeded part bytes

module _ {R A : Type 0} where
  -- the given bytes are the part
  pub record GivenPart (look : R → Input) (part : List ℕ → Part A) (old new : Source R)
      (value : A) : Type 0 where
    pub given : List ℕ
    pub takes : Takes look old new given
    pub live : IsLive look new
    pub is : IsPart part given value

  -- The given bytes show the fault. If the fault is `Truncated`, a field is cut short or missing,
  -- and the input is over.
  pub record MetFault (look : R → Input) (part : List ℕ → Part A) (old new : Source R)
      (fault : WireFault) : Type 0 where
    pub given : List ℕ
    pub takes : Takes look old new given
    pub is : IsFaultOfNeededBytes part given fault
    pub over : fault ≡ Truncated → IsOver look new

  -- the source stopped before the part was whole
  pub record MetStop (look : R → Input) (part : List ℕ → Part A) (old new : Source R)
      (fault : IoFault) : Type 0 where
    pub given : List ℕ
    pub stops : TakesThenStops look old new given fault
    pub is_cut : part given ≡ Err Truncated

  -- what holds after a part was read, by the result
  abbrev pub AfterPart : (R → Input) → (List ℕ → Part A) → Source R
      → Source R → Result A Halt → Type 0
  AfterPart look part old new (Ok value) = GivenPart look part old new value
  AfterPart look part old new (Err (halt.Wire fault)) = MetFault look part old new fault
  AfterPart look part old new (Err (halt.Io fault)) = MetStop look part old new fault

  -- Nothing was read. The part was at hand and is given, or the outcome is an error.
  abbrev pub AfterPartAtHand : (R → Input) → (List ℕ → Part A) → Source R
      → Source R → Result A Halt → Type 0
  AfterPartAtHand look part old new (Ok value) =
      (reach look new ≡ reach look old) × (part (at_hand look old) ≡ Ok (value, at_hand look new))
  AfterPartAtHand look part old new (Err why) = reach look new ≡ reach look old

  -- A function that reads the part has this outcome. It is a record only for the prover, which
  -- would otherwise take `AfterPart` apart into its cases.
  pub record ReadsPart (look : R → Input) (part : List ℕ → Part A) (old new : Source R)
      (outcome : Result A Halt) : Type 0 where
    pub by : AfterPart look part old new outcome
    -- if the bytes at hand are enough, nothing is read
    pub here : IsEnoughFor part (at_hand look old) → AfterPartAtHand look part old new outcome

-- The result of a function that writes its value through a `&mut` argument and returns `()`, as if
-- it had returned the value.
abbrev pub with_value : {A : Type 0} → A → Result (Unit {0}) Halt → Result A Halt
with_value value (Ok done) = Ok value
with_value value (Err stop) = Err stop

-- The cases of reading a type byte: none, since the input has ended before it; or this one.
module _ {R : Type 0} where
  -- no type byte: the input ends before the next message
  pub record EndedBeforeKind (look : R → Input) (old new : Source R) : Type 0 where
    pub takes : Takes look old new []
    pub live : IsLive look new
    pub over : IsOver look new

  -- the type byte of the next message was given
  pub record GivenKind (look : R → Input) (old new : Source R) (kind : ℕ) : Type 0 where
    pub takes : Takes look old new (kind ∷ [])
    pub live : IsLive look new

  -- what holds after a type byte was read, by the result
  abbrev pub AfterKind : (R → Input) → Source R → Source R → Result (Option ℕ) IoFault → Type 0
  AfterKind look old new (Ok None) = EndedBeforeKind look old new
  AfterKind look old new (Ok (Some kind)) = GivenKind look old new kind
  AfterKind look old new (Err fault) = TakesThenStops look old new [] fault
