-- The state of a run between two steps, and what a step does before it reads.
use Rattle.std.specs.Prelude.{◌≡◌, ℕ, ◌+◌, ◌-◌, ◌<◌, ◌≤◌, Bool, true, false, List, [], Option, Some, None, Result, Ok}
use Rattle.link_wire.specs.Source.{given_by}
use Rattle.link_wire.specs.declared.IoFault.{IoFault}
use Rattle.link_run.specs.Run.{Texts, no_texts, Looks, Devices, DevicesInRun, devices_at, NoneFailed, HasGivenAndWritten, AfterStep, answer_of, reach_at}
use Rattle.link_run.specs.Made.{Made, HasLastingFaults, shows_fault, tool_of}
use Rattle.link_run.specs.declared.run.{Progress.Progress, Progress.TheVariants.More, Status.Status}

-- the texts that a run has written: none before it has begun
abbrev pub written_by : (begun : Bool) → Made → Texts
written_by true made = made.texts
written_by false made = no_texts

-- Since its devices were as in `start`, the run was given exactly these bytes, and has written
-- exactly what they determine, or nothing if it has not begun to write. No device failed, and the
-- bytes show no fault. A fault that bytes show lasts when more bytes follow.
pub record IsRunAt {R W E : Type 0} (look : Looks R W E) (made : List ℕ → Made)
    (start : Devices R W E) (begun : Bool) (now : DevicesInRun R W E) (history : List ℕ)
    : Type 0 where
  pub written : HasGivenAndWritten look start now history (written_by begun (made history))
  pub sound : NoneFailed look (devices_at now)
  pub unshown : shows_fault (made history).stop ≡ false
  pub lasting : HasLastingFaults made

-- Before the first byte, nothing is written, and no fault is shown. A fault that bytes show lasts
-- when more bytes follow.
pub record HasEmptyStartLastingFaults (made : List ℕ → Made) (begun : Bool) : Type 0 where
  pub texts : written_by begun (made []) ≡ no_texts
  pub unshown : shows_fault (made []).stop ≡ false
  pub lasting : HasLastingFaults made

-- what holds after a step; if it is not the last, `IsRunAt` and `knows` hold of the bytes so far
abbrev pub AfterStage : {R W E : Type 0} → Looks R W E → (made : List ℕ → Made)
    → (start : Devices R W E) → (begun : Bool) → (old new : DevicesInRun R W E)
    → (knows : List ℕ → Type 0) → (most : ℕ) → (history : List ℕ)
    → Result Progress IoFault → Type 0
AfterStage look made start begun old new knows most history result =
    AfterStep look (tool_of made) start old new
    (λ bytes. IsRunAt look made start begun new bytes × knows bytes) most history result

-- What holds after a stride of stages: the same as after a step that is given at most `size` bytes.
-- `size` is at most `most`, the bound of one step, plus the number of bytes that were at hand when
-- the wait ended. It is 0 only if `most` is 0.
abbrev pub AfterStageStride : {R W E : Type 0} → Looks R W E → (made : List ℕ → Made)
    → (start : Devices R W E) → (begun : Bool) → (old new : DevicesInRun R W E)
    → (knows : List ℕ → Type 0) → (most : ℕ) → (history : List ℕ)
    → Result Progress IoFault → Type 0
AfterStageStride look made start begun old new knows most history result =
    (size : ℕ) × (size ≤ most + (reach_at look.input new.source - given_by old.source))
    × (0 < most → 0 < size)
    × AfterStage look made start begun old new knows size history result

-- a step with this result was not the last of its run
abbrev pub IsNotLastResult : Result Progress IoFault → Type 0
IsNotLastResult (Ok More) = Unit {0}
IsNotLastResult _ = ⊥

-- the most bytes that a step is given, which is 0 after the run has ended
abbrev pub most_unless_ended : Option (Result Status IoFault) → ℕ → ℕ
most_unless_ended None most = most
most_unless_ended (Some answer) most = 0

-- The run has ended. `ended` keeps its answer, and `answer` is what each further step returns.
abbrev pub IsEndedRunWith : Option (Result Status IoFault) → Result Progress IoFault → Type 0
IsEndedRunWith ended answer =
    (kept : Result Status IoFault) × (ended ≡ Some kept) × (answer ≡ answer_of kept)
