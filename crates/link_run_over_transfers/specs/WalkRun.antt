-- Relations, but for IsNewWalk, IsWalkAt, by_stage: the state of a walk over the transfers of a
-- stream.
use Rattle.std.specs.Prelude.{◌≡◌, ℕ, ◌<◌, ◌≤◌, Bool, true, is_some, if◌then◌else◌, zero, suc, List, [], ◌++◌, length, Option, Some, None, Result}
use Rattle.link_wire.specs.Device.{Input as Seen, Output}
use Rattle.link_wire.specs.Limits.{longest_head}
use Rattle.link_wire.specs.Session.{source_of, IsSessionAt, may_open, may_read, is_opened}
use Rattle.link_wire.specs.Source.{Takes}
use Rattle.link_wire.specs.Stream.{End, Clean, Cut, Fault, Reading, reading_of}
use Rattle.link_wire.specs.declared.{IoFault.IoFault, message.Message.Message}
use Rattle.link_wire.specs.declared.session.Session.{Session}
use Rattle.link_transfer.specs.Event.{event_of}
use Rattle.link_transfer.specs.Joiner.{IsJoinerAt}
use Rattle.link_transfer.specs.Order.{open_of, effect_of}
use Rattle.link_transfer.specs.declared.{fault.OrderFault.OrderFault, joiner.Joiner.Joiner}
use Rattle.link_transfer.specs.declared.joiner.Turn.{Turn}
use Rattle.link_report.specs.Fault.{fault_text}
use Rattle.link_report.specs.declared.fault.Fault.TheVariants.{Order}
use Rattle.link_run.specs.Made.{tool_of}
use Rattle.link_run.specs.Run.{Texts, ◌then◌, Looks, Devices, DevicesInRun, devices_at, AfterRunAnswer, HasNoEarlierFault, ContinuedStep, EndingStep, AfterStep}
use Rattle.link_run.specs.Next.{next_of, progress_of}
use Rattle.link_run.specs.Reading.{feed_of, SessionWaitsAtMostOnce}
use Rattle.link_run.specs.Stages.{IsRunAt}
use Rattle.link_run.specs.Writers.{place_of, on_report, AfterLastWrite}
use Rattle.link_run.specs.declared.{input.Input.Input, next.Next.Next, run.Status.Status}
use Rattle.link_run.specs.declared.next.Next.TheVariants as next
use Rattle.link_run.specs.declared.writers.Writers.{Writers}
use Rattle.link_run_over_transfers.specs.Walk.{Head, is_last, WalkEvent, data_size, has_open, Walked, walked, walked_of, Telling, told_of, end_events, head_events}
use Rattle.link_run_over_transfers.specs.declared.consumer.Manner.{Manner}
use Rattle.link_run_over_transfers.specs.Telling.{Tells}
use Rattle.link_run_over_transfers.specs.declared.walk.Stage.{Stage}
use Rattle.link_run_over_transfers.specs.declared.walk.Stage.TheVariants as stage
use Rattle.link_run_over_transfers.specs.declared.walk.Walker.{Walker}

-- ---- the stages

-- the number that is for the stage: one for the contact header, one for the head of a message, and
-- one for a piece of data
abbrev pub by_stage : (contact head piece : ℕ) → Stage → ℕ
by_stage contact head piece stage.Contact = contact
by_stage contact head piece stage.Message = head
by_stage contact head piece _ = piece

-- the most bytes that a step at this stage is given: the 6 bytes of a contact header (RFC 9174
-- section 4.2), the bytes of the longest head, or `piece` bytes of data
abbrev pub most_by : (piece : ℕ) → Stage → ℕ
most_by piece now = by_stage 6 longest_head piece now

-- whether the session permits the call of a step at this stage
abbrev pub may_go_on : {R : Type 0} → Stage → Session R → Bool
may_go_on stage.Contact session = may_open session
may_go_on stage.Message session = may_read session
may_go_on (stage.Data last) session = is_opened session
may_go_on stage.Stray session = is_opened session

-- Whether the session permits the call of the stage that comes next. After the end of a run, no
-- call comes, so any session will do.
abbrev pub may_follow : {R : Type 0} → Next Stage → Session R → Bool
may_follow (next.Stage now) session = may_go_on now session
may_follow (next.Ended answer) session = true

-- the stage in the data of a segment with this effect
abbrev pub stage_in : Option Turn → Stage
stage_in None = stage.Stray
stage_in (Some turn) = stage.Data (is_last (Some turn))

-- the stage after a head or after data, with `left` bytes of data to come
abbrev pub stage_by : Option Turn → (left : ℕ) → Stage
stage_by turn zero = stage.Message
stage_by turn (suc left) = stage_in turn

-- ---- the head of a message, and the end of a stream

-- The consumer was told of a head, unless the head is plain and the consumer is not told of all
-- heads. A stage comes next, or a writer failed while writing what is said of the head. `left`
-- bytes of data follow the head.
abbrev pub TellsHead : {W E : Type 0} → (W → Output) → (E → Output) → Telling
    → (knows : List WalkEvent → Type 0) → (before : List WalkEvent) → Head → (left : ℕ)
    → (old new : Writers W E) → Next Stage → Type 0
TellsHead out_look report_look telling knows before head left old new result =
    (told : Result (Unit {0}) IoFault) × (result ≡ next_of (stage_by head.turn left) told)
    × Tells out_look report_look telling knows before (head_events telling.manner.all_heads head)
    old new told

-- The run has ended at a head that is not in order. The line of the head's fault was written, and
-- the status is 3, or a writer failed.
abbrev pub EndsAtRefusedHead : {W E : Type 0} → (W → Output) → (E → Output) → (offset : ℕ)
    → OrderFault
    → (old new : Writers W E) → Next Stage → Type 0
EndsAtRefusedHead out_look report_look offset fault old new result =
    (answer : Result Status IoFault) × (result ≡ next.Ended answer)
    × AfterLastWrite out_look report_look old new (on_report (fault_text (Order offset fault))) 3
    answer

-- A stream has ended between two messages. What is said of the end was written, or a writer failed.
-- The status is 0 if everything is good, and else 1.
abbrev pub TellsEnd : {W E : Type 0} → (W → Output) → (E → Output) → Telling
    → (taken : List Message) → (events : List WalkEvent) → (old new : Writers W E)
    → Result Status IoFault → Type 0
TellsEnd out_look report_look telling taken events old new answer =
    (texts : Texts)
    × (telling.texts events then texts ≡ telling.texts (events ++ end_events taken))
    × AfterLastWrite out_look report_look old new texts
    (if telling.good (events ++ end_events taken) then 0 else 1) answer

-- ---- the state

-- The stage agrees with how the reading of the bytes so far ends. `before` is what its whole
-- messages tell. Between two messages, a head comes next. Inside the data of a segment, the effect
-- of the segment determines the stage. If the reading ends with a fault, no stage fits.
abbrev pub StageFits : Stage → (before : Walked) → End → Type 0
StageFits now before Clean = now ≡ stage.Message
StageFits now before (Cut offset sent content) =
    now ≡ stage_in (effect_of before.taken (event_of sent))
StageFits now before (Fault offset fault) = ⊥

-- Whether a transfer is open. One whose last segment is being read is open until all of its data
-- has come.
abbrev pub is_open_at : Stage → List Message → Bool
is_open_at (stage.Data last) taken = true
is_open_at _ taken = is_some (open_of taken)

-- After a step at the stage `Message`, the reading may end inside a segment. Then none of the
-- segment's data was given, since such a step reads only a head.
abbrev pub IfInSegmentNoDataGiven : Stage → End → Type 0
IfInSegmentNoDataGiven stage.Message (Cut offset message content) = content ≡ []
IfInSegmentNoDataGiven now end = Unit {0}

-- what the whole messages of a reading tell
abbrev pub walked_before : Manner → Reading → Walked
walked_before manner reading = walked_of manner reading.contact reading.entries

-- The state of a walk whose bytes so far have this reading. No head has ended the run. The joiner,
-- what the consumer knows, and the stage agree with the reading.
pub record IsWalkAtReading (telling : Telling) (knows : List WalkEvent → Type 0) (now : Stage)
    (joiner : Joiner)
    (reading : Reading) : Type 0 where
  pub unrefused : (walked telling.manner reading).refused ≡ None
  pub judges : IsJoinerAt joiner (walked telling.manner reading).taken
  pub known : knows (walked telling.manner reading).events
  pub opened : has_open (walked telling.manner reading).events
      ≡ is_open_at now (walked telling.manner reading).taken
  pub fits : StageFits now (walked_before telling.manner reading) reading.end

module _ {R C : Type 0} (look : R → Seen) (telling : Telling) (knows : C → List WalkEvent → Type 0) where
  -- a walk that begins was given nothing
  pub record IsNewWalk (session : Session R) (joiner : Joiner) (consumer : C) (history : List ℕ)
      : Type 0 where
    pub nothing : history ≡ []
    pub opens : may_open session ≡ true
    pub judges : IsJoinerAt joiner []
    pub known : knows consumer []

  -- the state of a walk that was given these bytes
  pub record IsWalkAt (now : Stage) (session : Session R) (joiner : Joiner) (consumer : C)
      (history : List ℕ) : Type 0 where
    pub session_at : IsSessionAt look session history
    pub at : IsWalkAtReading telling (knows consumer) now joiner (reading_of history)
    pub size : data_size (walked telling.manner (reading_of history)).events ≤ length history

  -- the state of a walk at this stage that was given these bytes; at `Contact` they are none
  abbrev pub IsWalkAtStage : Stage → Joiner → C → Session R → (history : List ℕ) → Type 0
  IsWalkAtStage stage.Contact joiner consumer session history = IsNewWalk session joiner consumer
      history
  IsWalkAtStage now joiner consumer session history = IsWalkAt now session joiner consumer history

-- `IsRunAt` for the tool of this `telling`, which has begun to write
abbrev pub IsTellingRunAt : {R W E : Type 0} → Looks R W E → Devices R W E → Telling → Session R
    → Writers W E → (history : List ℕ) → Type 0
IsTellingRunAt look start telling session writers history =
    IsRunAt look (told_of telling) start true (place_of (source_of session) writers) history

-- what a function of the walk reads, writes and changes
pub record WalkState (R W E C : Type 0) : Type 0 where
  pub input : Input (Session R) W E
  pub writers : Writers W E
  pub joiner : Joiner
  pub consumer : C

-- the state of the walk before or after a call
abbrev pub at : {R W E C : Type 0} → Input (Session R) W E → Writers W E → Walker C
    → WalkState R W E C
at input writers walker = record {
  input = input;
  writers = writers;
  joiner = walker.joiner;
  consumer = walker.consumer;
}

-- the place of the run in this state of the walk: its source and its writers
abbrev pub place_at : {R W E C : Type 0} → WalkState R W E C → DevicesInRun R W E
place_at now = place_of (source_of (feed_of now.input)) now.writers

module _ {R W E C : Type 0} (look : Looks R W E) (start : Devices R W E) (telling : Telling)
    (knows : C → List WalkEvent → Type 0) where
  -- `IsTellingRunAt` and `IsWalkAt` hold
  abbrev pub IsWalkRunAt : Stage → Session R → Writers W E → Joiner → C → List ℕ → Type 0
  IsWalkRunAt now session writers joiner consumer history =
      IsTellingRunAt look start telling session writers history
      × IsWalkAt look.input telling knows now session joiner consumer history

  -- What holds after a step at the stage `now`. If a stage comes next, the walk is at that stage
  -- with the bytes so far, and `IfInSegmentNoDataGiven` holds. Otherwise the run has ended.
  abbrev pub AfterWalkStep : (piece : ℕ) → (now : Stage) → (old new : Session R)
      → Writers W E → Joiner → C → (history : List ℕ) → Next Stage → Type 0
  AfterWalkStep piece now old new after joiner consumer history (next.Stage later) =
      ContinuedStep (source_of old) (source_of new)
      (λ bytes. IsWalkRunAt later new after joiner consumer bytes
      × IfInSegmentNoDataGiven now (reading_of bytes).end) (most_by piece now) history
  AfterWalkStep piece now old new after joiner consumer history (next.Ended answer) =
      EndingStep look (tool_of (told_of telling)) start (place_of (source_of new) after)
      (most_by piece now) history answer

  -- the state of the walk if a stage comes next
  abbrev pub IfNextIsStage : WalkState R W E C → Next Stage → (history : List ℕ) → Type 0
  IfNextIsStage new (next.Stage now) history =
      IsWalkRunAt now (feed_of new.input) new.writers new.joiner new.consumer history
  IfNextIsStage new (next.Ended answer) history = Unit {0}

  -- What holds after a stride. `size` bounds the bytes that it was given, and may be any number
  -- above 0.
  abbrev pub AfterWalkStride : (old new : WalkState R W E C) → (history : List ℕ) → Next Stage
      → Type 0
  AfterWalkStride old new history next =
      (size : ℕ) × (0 < size)
      × AfterStep look (tool_of (told_of telling)) start (place_at old) (place_at new)
      (IfNextIsStage new next) size history (progress_of next)

-- ---- messages that lie whole in the window

module _ {R W E C : Type 0} (look : Looks R W E) (start : Devices R W E) (telling : Telling)
    (knows : C → List WalkEvent → Type 0) where
  -- what holds after these bytes were given: a stage comes next, or the run has ended
  abbrev pub AfterWalkBytes : Session R → Writers W E → Joiner → C → (history : List ℕ) → Next Stage
      → Type 0
  AfterWalkBytes session writers joiner consumer history (next.Stage now) =
      IsWalkRunAt look start telling knows now session writers joiner consumer history
  AfterWalkBytes session writers joiner consumer history (next.Ended answer) =
      AfterRunAnswer look (tool_of (told_of telling)) start
      (devices_at (place_of (source_of session) writers)) history answer
      × HasNoEarlierFault (tool_of (told_of telling)) history

  -- some bytes were given, or none; then a stage comes next, or the run has ended
  pub record TakesBytes (old new : WalkState R W E C) (history : List ℕ) (result : Next Stage)
      : Type 0 where
    pub given : List ℕ
    pub takes : Takes look.input (source_of (feed_of old.input)) (source_of (feed_of new.input))
        given
    pub stands : AfterWalkBytes (feed_of new.input) new.writers new.joiner new.consumer
        (history ++ given) result

-- ---- what the functions of the walk do

module _ {R W E C : Type 0} (look : Looks R W E) (telling : Telling)
    (knows : C → List WalkEvent → Type 0) where
  -- if the walk was given these bytes and is at the stage `now`, then `after` holds
  abbrev pub IfWalkAtStage : (start : Devices R W E) → (now : Stage) → WalkState R W E C
      → (history : List ℕ)
      → (after : Type 0) → Type 0
  IfWalkAtStage start now old history after =
      IsTellingRunAt look start telling (feed_of old.input) old.writers history
      → IsWalkAtStage look.input telling knows now old.joiner old.consumer
      (feed_of old.input) history
      → after

  -- A call at the stage `now` waits at most once, and only after all that was written was handed
  -- on. Without a wait, it reads nothing (`SessionWaitsAtMostOnce`).
  abbrev pub WalkWaitsAtMostOnce : (now : Stage) → (old new : WalkState R W E C) → Type 0
  WalkWaitsAtMostOnce now old new =
      (history : List ℕ)
      → IsWalkAtStage look.input telling knows now old.joiner old.consumer
      (feed_of old.input) history
      → SessionWaitsAtMostOnce look old.input new.input old.writers

  -- What a step at the stage `now` does, and how it waits. The step takes at most `piece` bytes of
  -- data.
  pub record Steps (piece : ℕ) (now : Stage) (old new : WalkState R W E C) (result : Next Stage)
      : Type 0 where
    pub holds : (start : Devices R W E) (history : List ℕ) → IfWalkAtStage start now old history
        (AfterWalkStep look start telling knows piece now (feed_of old.input) (feed_of new.input)
        new.writers new.joiner new.consumer history result)
    pub waits : WalkWaitsAtMostOnce now old new

  -- what a stride from the stage `now` does, and how it waits
  pub record Strides (now : Stage) (old new : WalkState R W E C)
      (result : Next Stage) : Type 0 where
    pub holds : (start : Devices R W E) (history : List ℕ) → IfWalkAtStage start now old history
        (AfterWalkStride look start telling knows old new history result)
    pub waits : WalkWaitsAtMostOnce now old new

  -- messages that lie whole in the window are taken, or none
  pub record TakesMessages (old new : WalkState R W E C) (result : Next Stage) : Type 0 where
    pub holds : (start : Devices R W E) (history : List ℕ)
        → IfWalkAtStage start stage.Message old history
        (TakesBytes look start telling knows old new history result)
