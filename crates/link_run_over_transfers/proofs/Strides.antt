-- Steps of a walk, one after another, make a stride.
use Rattle.std.proofs.Common.{◌≡◌, ℕ, ◌+◌, ◌<◌, true, List, ◌++◌, length, length-append, Ok, Err, ⊎_elim, arith}
use Rattle.std.proofs.lemmas.Bool.{cases_lt}
use Rattle.link_wire.specs.{Device.{Input as Seen}, Limits.window_size, Session.{source_of}}
use Rattle.link_wire.specs.{Source.{given_by, window_of, Takes}, Stream.reading_of}
use Rattle.link_wire.specs.declared.Source.{Source}
use Rattle.link_wire.specs.declared.session.Session.{Session}
use Rattle.link_transfer.specs.declared.joiner.Joiner.{Joiner}
use Rattle.link_run.specs.{Made.tool_of, Next.{progress_of, stage_after}, Reading.{feed_of, ReadsNothing}}
use Rattle.link_run.specs.Run.{Looks, Devices, answer_of, ContinuedStep, AfterStep}
use Rattle.link_run.specs.Stages.{AfterStage, AfterStageStride}
use Rattle.link_run.specs.declared.{next.Next.Next}
use Rattle.link_run.specs.declared.next.Next.TheVariants as next
use Rattle.link_run.proofs.{Stands.last_step, Strides.{bounded, went_with, step_then}, Waiting.waits_then}
use Rattle.link_run_over_transfers.specs.Walk.{WalkEvent, Telling, told_of}
use Rattle.link_run_over_transfers.specs.WalkRun.{WalkState, place_at, most_by, walked_before, IsWalkAt, IsWalkAtStage, IfNextIsStage, AfterWalkStep, AfterWalkStride, TakesBytes, IfWalkAtStage, Steps, Strides, TakesMessages}
use Rattle.link_run_over_transfers.specs.declared.walk.Stage.{Stage}
use Rattle.link_run_over_transfers.specs.declared.walk.Stage.TheVariants as stage
use Rattle.link_run_over_transfers.proofs.Comes.{never_contact}

-- each step may be given a byte
pub most_some : (piece : ℕ) (now : Stage) → 0 < piece → 0 < most_by piece now
most_some piece now some = grind arith

-- less than a window is left after bytes were given, or none
few_later : {R : Type 0} (look : R → Seen) (mid new : Source R) (given : List ℕ)
    → Takes look mid new given → length (window_of mid) < window_size
    → length (window_of new) < window_size
few_later look mid new given takes few =
    ⊎_elim
    (λ none. let empty : length given ≡ 0 = omega (arith, none) in rw (takes.window.kept empty) few)
    (λ some. takes.window.less (omega (arith, some))) (cases_lt (length given) 1)

walking_at : {R C : Type 0} {look : R → Seen} {telling : Telling}
    {knows : C → List WalkEvent → Type 0} {session : Session R} {joiner : Joiner} {consumer : C}
    {history : List ℕ} (now : Stage) → IsWalkAt look telling knows now session joiner consumer history
    → IsWalkAtStage look telling knows now joiner consumer session history
walking_at {telling = telling} {history = history} stage.Contact at =
    absurd (never_contact (walked_before telling.manner (reading_of history))
    (reading_of history).end at.at.fits)
walking_at now at = at

module _ {R W E C : Type 0} (look : Looks R W E) (start : Devices R W E) (telling : Telling)
    (knows : C → List WalkEvent → Type 0) (old new : WalkState R W E C) (history : List ℕ) where
  -- a step that went on, and then a stride
  far_later : (mid : WalkState R W E C) {stands : List ℕ → Type 0} {most : ℕ} (result : Next Stage)
      → (went : ContinuedStep (source_of (feed_of old.input)) (source_of (feed_of mid.input)) stands most
      history)
      → AfterWalkStride look start telling knows mid new (history ++ went.given) result
      → AfterWalkStride look start telling knows old new history result
  far_later mid {stands} {most} result went far = (
    most + far.0,
    (let some = far.1 in omega arith),
    step_then look (tool_of (told_of telling)) start (place_at old) (place_at mid) (place_at new)
        stands (IfNextIsStage look start telling knows new result) history most far.0
        (progress_of result) went far.2,
  )

  -- a step
  far_step : (piece : ℕ) (now : Stage) (result : Next Stage)
      → AfterWalkStep look start telling knows piece now (feed_of old.input) (feed_of new.input)
      new.writers new.joiner new.consumer history result
      → 0 < most_by piece now → AfterWalkStride look start telling knows old new history result
  far_step piece now (next.Stage later) went some =
      (most_by piece now, some, went_with went went.at.0)
  far_step piece now (next.Ended answer) last some = (
    most_by piece now,
    some,
    last_step (told_of telling) (place_at old) (place_at new) (λ bytes. Unit {0}) answer last,
  )

module _ {R W E C : Type 0} {look : Looks R W E} {telling : Telling}
    {knows : C → List WalkEvent → Type 0} {now : Stage} {old : WalkState R W E C} where
  -- a step is a stride
  pub stride_of : {new : WalkState R W E C} {result : Next Stage} {piece : ℕ}
      → Steps look telling knows piece now old new result → 0 < most_by piece now
      → Strides look telling knows now old new result
  stride_of {new} {result} {piece} step some = record {
    holds = λ start history at walks.
        far_step look start telling knows old new history piece now result
        (step.holds start history at walks) some;
    waits = step.waits;
  }

  -- a step, and then a stride that reads nothing
  pub stride_then : {later : Stage} {mid new : WalkState R W E C} {result : Next Stage} {piece : ℕ}
      → Steps look telling knows piece now old mid (next.Stage later)
      → Strides look telling knows later mid new result
      → ReadsNothing look.input source_of mid.input new.input
      → Strides look telling knows now old new result
  stride_then {later} {mid} {new} {result} step stride unread = record {
    holds = λ start history at walks.
        let went = step.holds start history at walks in
        far_later look start telling knows old new history mid result went
        (stride.holds start (history ++ went.given) went.at.0.0 (walking_at later went.at.0.1));
    waits = λ history walks.
        waits_then old.writers {old = old.input} (step.waits history walks) unread;
  }

  -- a step, and then messages that lie whole in the window
  pub stride_whole : {mid new : WalkState R W E C} {result : Next Stage} {piece : ℕ}
      → Steps look telling knows piece now old mid (next.Stage stage.Message)
      → 0 < most_by piece now → TakesMessages look telling knows mid new result
      → ReadsNothing look.input source_of mid.input new.input
      → Strides look telling knows now old new result
  stride_whole {mid} {new} {result} {piece} step some whole unread = record {
    holds = λ start history at walks.
        let went = step.holds start history at walks in
        let taken = whole.holds start (history ++ went.given) went.at.0.0 went.at.0.1 in (
          most_by piece now + length taken.given,
          omega arith,
          step_then look (tool_of (told_of telling)) start (place_at old) (place_at mid)
              (place_at new) _ (IfNextIsStage look start telling knows new result) history
              (most_by piece now) (length taken.given) (progress_of result) went
              (as_step start (history ++ went.given) result went.window
              went.at.0.0.written.count taken),
        );
    waits = λ history walks.
        waits_then old.writers {old = old.input} (step.waits history walks) unread;
  }
    where
      -- these messages are a step, whose bound is the number of its bytes
      as_step : (start : Devices R W E) (bytes : List ℕ) (result : Next Stage)
          → length (window_of (source_of (feed_of mid.input))) < window_size
          → given_by (source_of (feed_of mid.input)) ≡ length bytes
          → (taken : TakesBytes look start telling knows mid new bytes result)
          → AfterStep look (tool_of (told_of telling)) start (place_at mid) (place_at new)
          (IfNextIsStage look start telling knows new result) (length taken.given) bytes
          (progress_of result)
      as_step start bytes (next.Stage now) few count taken = record {
        given = taken.given;
        some = λ some. some;
        size = omega arith;
        count = taken.takes.count;
        window = few_later look.input (source_of (feed_of mid.input))
            (source_of (feed_of new.input)) taken.given taken.takes few;
        at = taken.stands;
      }
      as_step start bytes (next.Ended answer) few count taken =
          last_step (told_of telling) (place_at mid) (place_at new) (λ bytes. Unit {0}) answer
          (record {
            given = taken.given;
            size = omega arith;
            count = omega (arith, count, taken.takes.count, length-append bytes taken.given);
            gave = taken.stands.0;
            ends = taken.stands.1;
          })

-- ---- a step or a stride of the tool, from what comes next

-- the walk after a step or a stride
abbrev knows_next : {R W E C : Type 0} → Looks R W E → Telling → (C → List WalkEvent → Type 0)
    → (now : Stage) → WalkState R W E C → Next Stage → List ℕ → Type 0
knows_next look telling knows now new result =
    IsWalkAtStage look.input telling knows (stage_after now result) new.joiner
    new.consumer (feed_of new.input)

module _ {R W E C : Type 0} {look : Looks R W E} {telling : Telling}
    {knows : C → List WalkEvent → Type 0} {now : Stage} {old new : WalkState R W E C} where
  pub step_kept : (result : Next Stage) → Steps look telling knows 4096 now old new result
      → (start : Devices R W E) (history : List ℕ)
      → IfWalkAtStage look telling knows start now old history
      (AfterStage look (told_of telling) start true (place_at old) (place_at new)
      (knows_next look telling knows now new result) (most_by 4096 now) history (progress_of result))
  step_kept (next.Stage later) step = λ start history at walks.
      let went = step.holds start history at walks in
      went_with went (went.at.0.0, walking_at later went.at.0.1)
  step_kept (next.Ended (Ok status)) step = step.holds
  step_kept result step = step.holds

  pub stride_kept : (result : Next Stage) → Strides look telling knows now old new result
      → (start : Devices R W E) (history : List ℕ)
      → IfWalkAtStage look telling knows start now old history
      (AfterStageStride look (told_of telling) start true (place_at old) (place_at new)
      (knows_next look telling knows now new result) (most_by 4096 now) history (progress_of result))
  stride_kept (next.Stage later) stride = λ start history at walks.
      let far = stride.holds start history at walks in
      bounded look (tool_of (told_of telling)) start (place_at old) (place_at new) _ (most_by 4096 now)
      history (λ some. far.1) at.written.count (progress_of (next.Stage later))
      (went_with far.2 (far.2.at.0, walking_at later far.2.at.1))
  stride_kept (next.Ended (Ok status)) stride = λ start history at walks.
      let far = stride.holds start history at walks in
      bounded look (tool_of (told_of telling)) start (place_at old) (place_at new)
      (λ bytes. Unit {0}) (most_by 4096 now) history (λ some. far.1) at.written.count
      (answer_of (Ok status)) far.2
  stride_kept (next.Ended (Err fault)) stride = λ start history at walks.
      let far = stride.holds start history at walks in
      bounded look (tool_of (told_of telling)) start (place_at old) (place_at new)
      (λ bytes. Unit {0}) (most_by 4096 now) history (λ some. far.1) at.written.count
      (answer_of (Err fault)) far.2
