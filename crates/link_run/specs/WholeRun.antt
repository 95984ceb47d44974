-- What holds after a whole run.
use Rattle.std.specs.Prelude.{◌≡◌, ℕ, ◌≤◌, List, [], ◌∷◌, length, Result, All}
use Rattle.link_wire.specs.declared.IoFault.{IoFault}
use Rattle.link_run.specs.Run.{Tool, Looks, Devices, devices, Wait, WaitLog, then_waits, IsPromptWithin, HasNoEarlierFault, AfterRunAnswer}
use Rattle.link_run.specs.declared.{run.{RunEnd.RunEnd, Status.Status}, log.Ran.Ran}

module _ {R W E : Type 0} where
  -- the devices that a run has returned
  abbrev pub devices_of : RunEnd R W E → Devices R W E
  devices_of end = devices end.reader end.output end.report

  -- the log of a run that has returned
  abbrev pub ran_of : RunEnd R W E → Ran R W E
  ran_of end = end.ran

  -- This is the log of a run that had all these waits since it was made, and ended with these
  -- devices.
  pub record IsLogOf (all : WaitLog R W E) (now : Devices R W E) (ran : Ran R W E) : Type 0 where
    pub from : ran.from ≡ all.from
    pub to : ran.to ≡ now
    pub waits : ran.waits ≡ all.each

-- The waits are spaced. Before the first wait, only bytes before the offset `reach` were given.
-- After each wait, until the next one, only bytes were given that were at hand when it had ended.
-- After the last wait, this holds until the offset `end`.
abbrev pub AreSpaced : {W E : Type 0} → (reach : ℕ) → List (Wait W E) → (end : ℕ) → Type 0
AreSpaced reach [] end = end ≤ reach
AreSpaced reach (wait ∷ more) end =
    (wait.position.given ≤ reach) × AreSpaced wait.reach more end

module _ {R W E : Type 0} (look : Looks R W E) where
  -- The run began with the devices `start`, was given these bytes, and ended as its answer says.
  -- At each of these waits, it had handed on all text that the bytes given until then determine.
  -- Before the first of them, the input was at hand up to the offset `reach`.
  pub record RanToEnd (tool : Tool) (start now : Devices R W E) (reach : ℕ)
      (waits : List (Wait W E)) (answer : Result Status IoFault) : Type 0 where
    pub given : List ℕ
    pub gave : AfterRunAnswer look tool start now given answer
    pub ends : HasNoEarlierFault tool given
    pub prompt : All (IsPromptWithin look tool start given) waits
    pub spaced : AreSpaced reach waits (length given)

  -- What holds after a whole run. Its log has the devices with which it began, those that it
  -- returned, and all of its waits. Before the first wait, only what the reader held was at hand.
  pub record AfterRun (tool : Tool) (start : Devices R W E) (end : RunEnd R W E) : Type 0 where
    pub from : (ran_of end).from ≡ start
    pub to : (ran_of end).to ≡ devices_of end
    pub whole : RanToEnd tool start (devices_of end) (length (look.input start.reader).held)
        (ran_of end).waits end.answer

  -- What holds after the rest of a run that had these waits before. The input was at hand up to the
  -- offset `reach`.
  pub record AfterRunFrom (tool : Tool) (start : Devices R W E) (reach : ℕ) (before : WaitLog R W E)
      (end : RunEnd R W E) : Type 0 where
    pub since : List (Wait W E)
    pub log : IsLogOf (then_waits before since) (devices_of end) (ran_of end)
    pub rest : RanToEnd tool start (devices_of end) reach since end.answer
