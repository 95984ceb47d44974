-- What a run of a tool has written, and how it ends.
use Rattle.std.specs.Prelude.{◌≡◌, ℕ, ◌+◌, ◌-◌, ◌<◌, ◌≤◌, ◌⊎◌, Bool, true, false, List, [], ◌∷◌, ◌++◌, length, take, Result, Ok, Err}
use Rattle.std.specs.Io.KnownBytes.{Consumes, Appends, IsAtEnd}
use Rattle.link_wire.specs.Device.{Input, Output}
use Rattle.link_wire.specs.Limits.{longest_input, window_size}
use Rattle.link_wire.specs.Source.{reader_of, given_by, window_of, ahead, reach}
use Rattle.link_wire.specs.declared.IoFault.{IoFault}
use Rattle.link_wire.specs.declared.IoFault.TheVariants as io
use Rattle.link_wire.specs.declared.Source.{Source}
use Rattle.link_run.specs.declared.{input.Position.Position, run.Status.Status}
use Rattle.link_run.specs.declared.run.{Progress.Progress, Progress.TheVariants.{More, Done}}
use Rattle.link_run.specs.declared.writers.Writers.{Writers}

-- what a run writes
pub record Texts : Type 0 where
  pub output : List ℕ
  pub report : List ℕ

-- nothing is written
abbrev pub no_texts : Texts
no_texts = record { output = []; report = [] }

-- `first` and then `second`: their outputs joined, and their reports joined
infixr 30 ◌then◌
-- the texts `first`, and then the texts `second`
abbrev pub ◌then◌ : Texts → Texts → Texts
first then second =
    record { output = first.output ++ second.output; report = first.report ++ second.report }

-- the texts and the exit status of a whole input
pub record Outcome : Type 0 where
  pub texts : Texts
  pub status : ℕ

-- What a tool makes of an input. `whole` is the outcome of an input of exactly these bytes.
-- `so_far` is the texts that these bytes determine, whatever bytes follow. `shows` is whether these
-- bytes show a fault that ends the run.
pub record Tool : Type 0 where
  pub whole : List ℕ → Outcome
  pub so_far : List ℕ → Texts
  pub shows : List ℕ → Bool

-- the devices of a run
pub record Devices (R W E : Type 0) : Type 0 where
  pub reader : R
  pub output : W
  pub report : E

-- these three devices, as one value
abbrev pub devices : {R W E : Type 0} → R → W → E → Devices R W E
devices reader output report = record { reader = reader; output = output; report = report }

-- what is known of each device: the bytes left or written, and whether it has failed
pub record Looks (R W E : Type 0) : Type 0 where
  pub input : R → Input
  pub output : W → Output
  pub report : E → Output

-- what is known of each of the three devices, as one value
abbrev pub looks : {R W E : Type 0} → (R → Input) → (W → Output) → (E → Output) → Looks R W E
looks input output report = record { input = input; output = output; report = report }

-- the state of a run's devices: its source, which has the reader, and its two writers
pub record DevicesInRun (R W E : Type 0) : Type 0 where
  pub source : Source R
  pub output : W
  pub report : E

-- the three devices in this state
abbrev pub devices_at : {R W E : Type 0} → DevicesInRun R W E → Devices R W E
devices_at place = devices (reader_of place.source) place.output place.report

-- how far the input is at hand: the offset after the bytes at hand
abbrev pub reach_at : {R : Type 0} → (R → Input) → Source R → ℕ
reach_at look source = (reach look source).0

-- the answer of a run, as its last step returns it
abbrev pub answer_of : Result Status IoFault → Result Progress IoFault
answer_of (Ok status) = Ok (Done status)
answer_of (Err fault) = Err fault

-- The result of a step, from the result of its write. The step is the last only if the write
-- failed.
abbrev pub progress_after : Result (Unit {0}) IoFault → Result Progress IoFault
progress_after (Ok done) = Ok More
progress_after (Err fault) = Err fault

-- The first `report_count` bytes of the report are not ahead of the output. Some prefix of the
-- bytes given determines at least that much of the report. The first `output_count` bytes of the
-- output include all output that this prefix determines.
pub record IsReportBehind (tool : Tool) (given : List ℕ) (output_count report_count : ℕ) : Type 0 where
  pub front : List ℕ
  pub rest : List ℕ
  pub parts : given ≡ front ++ rest
  pub output : length (tool.so_far front).output ≤ output_count
  pub report : report_count ≤ length (tool.so_far front).report

-- A wait of a run for its input. When the wait began, the input had been read up to `position`, and
-- the writers were `writers`. When it ended, `reach` was the offset after the bytes at hand.
pub record Wait (W E : Type 0) : Type 0 where
  pub position : Position
  pub writers : Writers W E
  pub reach : ℕ

-- The waits of a run in order, and the devices with which the run was made.
pub record WaitLog (R W E : Type 0) : Type 0 where
  pub from : Devices R W E
  pub each : List (Wait W E)

-- no waits, of a run that was made with these devices
abbrev pub no_waits : {R W E : Type 0} → Devices R W E → WaitLog R W E
no_waits start = record { from = start; each = [] }

-- more waits after these
abbrev pub then_waits : {R W E : Type 0} → WaitLog R W E → List (Wait W E) → WaitLog R W E
then_waits waits more = record { from = waits.from; each = waits.each ++ more }

-- these waits, and then one more
abbrev pub noted : {R W E : Type 0} → WaitLog R W E → Wait W E → WaitLog R W E
noted waits wait = then_waits waits (wait ∷ [])

-- The wait log of a run, from the log that its input keeps. The input's log begins with a feed. The
-- result begins with the reader of this feed.
abbrev pub waits_by : {S R W E : Type 0} → (S → R) → WaitLog S W E → WaitLog R W E
waits_by reader_of waits = record {
  from = devices (reader_of waits.from.reader) waits.from.output waits.from.report;
  each = waits.each;
}

-- Since the device was as in `start`, exactly this text was written, and all of it was handed on.
pub record HasHandedOn (start now : Output) (text : List ℕ) : Type 0 where
  pub written : Appends start.written now.written text
  pub handed : now.handed ≡ now.written

module _ {R W E : Type 0} (look : Looks R W E) where
  -- The run waited at this place. Between the place and the wait, it was given nothing, added no
  -- text, and handed on all that was written. Of the bytes that it had taken, less than a window
  -- was not given.
  pub record IsWaitOfPlace (place : DevicesInRun R W E) (wait : Wait W E) : Type 0 where
    pub given : wait.position.given ≡ given_by place.source
    pub ahead : wait.position.ahead ≡ length (window_of place.source)
    pub few : wait.position.ahead < window_size
    pub output : HasHandedOn (look.output place.output) (look.output wait.writers.output) []
    pub report : HasHandedOn (look.report place.report) (look.report wait.writers.report) []
    pub output_kept : (look.output wait.writers.output).failed ≡ (look.output place.output).failed
    pub report_kept : (look.report wait.writers.report).failed ≡ (look.report place.report).failed

  module _ (tool : Tool) (start : Devices R W E) where
    -- The run waited when it had been given exactly these bytes. They show no fault, and all that
    -- they determine had been handed on. No writer had failed.
    pub record IsPrompt (given : List ℕ) (wait : Wait W E) : Type 0 where
      pub count : wait.position.given ≡ length given
      pub few : wait.position.ahead < window_size
      pub unshown : tool.shows given ≡ false
      pub output : HasHandedOn (look.output start.output) (look.output wait.writers.output)
          (tool.so_far given).output
      pub report : HasHandedOn (look.report start.report) (look.report wait.writers.report)
          (tool.so_far given).report
      pub output_sound : (look.output wait.writers.output).failed ≡ false
      pub report_sound : (look.report wait.writers.report).failed ≡ false

    -- Until this wait, the run had been given a prefix of these bytes. At the wait, it was prompt
    -- for this prefix.
    pub record IsPromptWithin (given : List ℕ) (wait : Wait W E) : Type 0 where
      pub front : List ℕ
      pub rest : List ℕ
      pub parts : given ≡ front ++ rest
      pub prompt : IsPrompt front wait

-- There was at most one wait, and `is` holds of it. When it ended, the bytes at hand ended at the
-- same offset as they do now. If there was no wait, nothing was read.
abbrev pub WaitsAtMostOnce : {R S W E : Type 0} → (R → Input) → (old new : Source R)
    → (before after : WaitLog S W E) → (is : Wait W E → Type 0) → Type 0
WaitsAtMostOnce {W} {E} look old new before after is =
    ((after ≡ before) × (reach look new ≡ reach look old))
    ⊎ ((wait : Wait W E) × (after ≡ noted before wait) × (wait.reach ≡ reach_at look new) × is wait)

-- A step waits at most once, before it is given a byte and before it writes. `given` is all that
-- the run was given before the step. At the wait, the run has handed on all text that these bytes
-- determine.
abbrev pub StepWaitsAtMostOnce : {R W E : Type 0} → Looks R W E → Tool → (start : Devices R W E)
    → (given : List ℕ) → (old new : DevicesInRun R W E) → (before after : WaitLog R W E) → Type 0
StepWaitsAtMostOnce look tool start given old new before after =
    WaitsAtMostOnce look.input old.source new.source before after
    (λ wait. IsWaitOfPlace look old wait × IsPrompt look tool start given wait)

-- No proper prefix of the bytes shows a fault: nothing is given after one is shown.
abbrev pub HasNoEarlierFault : Tool → List ℕ → Type 0
HasNoEarlierFault tool given =
    (front rest : List ℕ) → given ≡ front ++ rest → 0 < length rest → tool.shows front ≡ false

module _ {R : Type 0} where
  -- A step was not the last. It was given at most `most` bytes, and at least one if `most` is not
  -- 0. The relation `stands` holds of the history and these bytes. Less than a window of bytes was
  -- read and not given.
  pub record ContinuedStep (old new : Source R) (stands : List ℕ → Type 0) (most : ℕ)
      (history : List ℕ) : Type 0 where
    pub given : List ℕ
    pub some : 0 < most → 0 < length given
    pub size : length given ≤ most
    pub count : given_by new ≡ given_by old + length given
    pub window : length (window_of new) < window_size
    pub at : stands (history ++ given)

module _ {R W E : Type 0} (look : Looks R W E) where
  -- no device has failed
  pub record NoneFailed (devices : Devices R W E) : Type 0 where
    pub reader : (look.input devices.reader).failed ≡ false
    pub output : (look.output devices.output).failed ≡ false
    pub report : (look.report devices.report).failed ≡ false

  -- since the devices were as in `start`, these bytes were given, and these texts were written
  pub record HasGivenAndWritten (start : Devices R W E) (now : DevicesInRun R W E) (bytes : List ℕ)
      (texts : Texts) : Type 0 where
    pub takes : Consumes (look.input start.reader).left (ahead look.input now.source) bytes
    pub count : given_by now.source ≡ length bytes
    pub writes : Appends (look.output start.output).written (look.output now.output).written texts.output
    pub reports : Appends (look.report start.report).written
        (look.report now.report).written texts.report

  -- As `HasGivenAndWritten`, for the devices that a run has returned. The run took these bytes from
  -- the reader. It need not have been given the last of them.
  pub record HasTakenAndWrittenAtEnd (start now : Devices R W E) (bytes : List ℕ)
      (texts : Texts) : Type 0 where
    pub takes : Consumes (look.input start.reader).left (look.input now.reader).left bytes
    pub writes : Appends (look.output start.output).written (look.output now.output).written texts.output
    pub reports : Appends (look.report start.report).written
        (look.report now.report).written texts.report

  -- All of the input was given. `ungiven` is what was read and not given, so it is empty.
  abbrev pub IsAllGiven : Devices R W E → (ungiven : List ℕ) → Type 0
  IsAllGiven now ungiven = (ungiven ≡ []) × IsAtEnd (look.input now.reader).left

  -- The run was given the bytes `given`. `ungiven` is what was read and not given, less than a
  -- window of bytes. The run has written the texts of an input of exactly the bytes `given`, and
  -- `status` is the status of that input. No device failed. The bytes `given` are the whole input,
  -- or no further bytes change their outcome.
  pub record FinishedRun (tool : Tool) (start now : Devices R W E) (given : List ℕ)
      (status : Status) : Type 0 where
    pub ungiven : List ℕ
    pub few : length ungiven < window_size
    pub written : HasTakenAndWrittenAtEnd start now (given ++ ungiven) (tool.whole given).texts
    pub sound : NoneFailed now
    pub ends : status.0 ≡ (tool.whole given).status
    pub settled : IsAllGiven now ungiven
        ⊎ ((more : List ℕ) → tool.whole (given ++ more) ≡ tool.whole given)

  -- The reader failed, and no writer did. All bytes that were read were given. They show no fault,
  -- and the texts are those that they determine.
  pub record LostReader (tool : Tool) (start now : Devices R W E) (given : List ℕ) : Type 0 where
    pub unshown : tool.shows given ≡ false
    pub written : HasTakenAndWrittenAtEnd start now given (tool.so_far given)
    pub failed : (look.input now.reader).failed ≡ true
    pub output : (look.output now.output).failed ≡ false
    pub report : (look.report now.report).failed ≡ false

  -- No device failed. `past` is the bytes of the last read. At least one of them is past the
  -- longest input, and none of them was given. The bytes `given` show no fault, and the texts are
  -- the texts that `given` determines.
  pub record ExceededInputLimit (tool : Tool) (start now : Devices R W E)
      (given : List ℕ) : Type 0 where
    pub unshown : tool.shows given ≡ false
    pub past : List ℕ
    pub few : length past ≤ window_size
    pub limit : longest_input < length given + length past
    pub written : HasTakenAndWrittenAtEnd start now (given ++ past) (tool.so_far given)
    pub reader : (look.input now.reader).failed ≡ false
    pub output : (look.output now.output).failed ≡ false
    pub report : (look.report now.report).failed ≡ false

  -- `texts` are what the given bytes determine. If these bytes are the whole input, `texts` may be
  -- the texts of the whole input instead.
  abbrev pub AreDeterminedTexts : Tool → Devices R W E → (given ungiven : List ℕ) → Texts → Type 0
  AreDeterminedTexts tool now given ungiven texts =
      (texts ≡ tool.so_far given) ⊎ (IsAllGiven now ungiven × (texts ≡ (tool.whole given).texts))

  -- Exactly one writer failed. If it is the output, no line of the report is about bytes that the
  -- output lacks. If it is the report, the output is whole.
  abbrev pub HasLostOneWriter : Tool → Devices R W E → (given : List ℕ) → (due : Texts)
      → (output_count report_count : ℕ) → Type 0
  HasLostOneWriter tool now given due output_count report_count =
      (((look.output now.output).failed ≡ true) × ((look.report now.report).failed ≡ false)
      × ((report_count ≡ 0) ⊎ IsReportBehind tool given output_count report_count))
      ⊎ (((look.report now.report).failed ≡ true) × ((look.output now.output).failed ≡ false)
      × (length due.output ≤ output_count))

  -- One writer failed, and the reader did not. Of the texts `due`, the first `output_count` bytes
  -- of the output and `report_count` bytes of the report were written. The bytes `ungiven` were
  -- read and not given. If the given bytes show a fault, the writer that failed lacks some of its
  -- text. If all of the input was given, and it ends in a fault, some text of the whole input was
  -- not written. So a write failure never replaces a reported fault.
  pub record LostWriter (tool : Tool) (start now : Devices R W E) (given : List ℕ) : Type 0 where
    pub ungiven : List ℕ
    pub few : length ungiven < window_size
    pub due : Texts
    pub are_due : AreDeterminedTexts tool now given ungiven due
    pub output_count : ℕ
    pub report_count : ℕ
    pub written : HasTakenAndWrittenAtEnd start now (given ++ ungiven)
        (record { output = take output_count due.output; report = take report_count due.report })
    pub reader : (look.input now.reader).failed ≡ false
    pub failed : HasLostOneWriter tool now given due output_count report_count
    pub unended : tool.shows given ≡ true
        → (output_count < length due.output)
        ⊎ (((look.report now.report).failed ≡ true) × (report_count < length due.report))
    pub unreported : IsAllGiven now ungiven → (tool.whole given).status ≡ 3
        → (output_count < length (tool.whole given).texts.output)
        ⊎ (report_count < length (tool.whole given).texts.report)

  -- what holds after each failure; a run never fails for lack of memory
  abbrev pub FailedRun : Tool → Devices R W E → Devices R W E → List ℕ → IoFault → Type 0
  FailedRun tool start now given io.Read = LostReader tool start now given
  FailedRun tool start now given io.InputTooLong = ExceededInputLimit tool start now given
  FailedRun tool start now given io.Write = LostWriter tool start now given
  FailedRun tool start now given io.Memory = ⊥

  -- what holds after each answer
  abbrev pub AfterRunAnswer : Tool → Devices R W E → Devices R W E → List ℕ
      → Result Status IoFault → Type 0
  AfterRunAnswer tool start now given (Ok status) = FinishedRun tool start now given status
  AfterRunAnswer tool start now given (Err fault) = FailedRun tool start now given fault

  -- A step was the last of its run. It was given the bytes `given`, at most `most` of them. No byte
  -- was given after the bytes had shown a fault.
  pub record EndingStep (tool : Tool) (start : Devices R W E) (now : DevicesInRun R W E) (most : ℕ)
      (history : List ℕ) (answer : Result Status IoFault) : Type 0 where
    pub given : List ℕ
    pub size : length given ≤ most
    pub count : given_by now.source ≡ length (history ++ given)
    pub gave : AfterRunAnswer tool start (devices_at now) (history ++ given) answer
    pub ends : HasNoEarlierFault tool (history ++ given)

  -- what holds after a step, by its result
  abbrev pub AfterStep : Tool → Devices R W E → (old new : DevicesInRun R W E)
      → (stands : List ℕ → Type 0) → (most : ℕ) → (history : List ℕ) → Result Progress IoFault
      → Type 0
  AfterStep tool start old new stands most history (Ok More) =
      ContinuedStep old.source new.source stands most history
  AfterStep tool start old new stands most history (Ok (Done status)) =
      EndingStep tool start new most history (Ok status)
  AfterStep tool start old new stands most history (Err fault) =
      EndingStep tool start new most history (Err fault)

  -- What holds after a stride: the same as after a step that is given at most `size` bytes. `size`
  -- is at most `most`, the bound of one step, plus the number of bytes that were at hand when the
  -- wait ended. It is 0 only if `most` is 0.
  abbrev pub AfterStride : Tool → Devices R W E → (old new : DevicesInRun R W E)
      → (stands : List ℕ → Type 0) → (most : ℕ) → (history : List ℕ)
      → Result Progress IoFault → Type 0
  AfterStride tool start old new stands most history result =
      (size : ℕ) × (size ≤ most + (reach_at look.input new.source - given_by old.source))
      × (0 < most → 0 < size)
      × AfterStep tool start old new stands size history result

-- a step with this result was the last of its run
abbrev pub IsLastResult : Result Progress IoFault → Type 0
IsLastResult (Ok More) = ⊥
IsLastResult (Ok (Done status)) = Unit {0}
IsLastResult (Err fault) = Unit {0}
