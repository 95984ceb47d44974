-- Relations, but for IsNewBundleWalk, IsBundleWalkAt, by_stage: the state of a walk over bundles,
-- and what a stretch of bytes shows of the current bundle.
use Rattle.std.specs.Prelude.{◌≡◌, ℕ, ◌+◌, ◌-◌, ◌^◌, ◌<◌, ◌≤◌, Bool, true, false, List, [], ◌++◌, length, take, Option, Some, None, if◌then◌else◌, Result, Ok}
use Rattle.link_wire.specs.Device.{Input as Seen, Output}
use Rattle.link_wire.specs.Source.{window_of, IsSourceAt, IsLive}
use Rattle.link_wire.specs.declared.{IoFault.IoFault, Source.Source}
use Rattle.link_bundle_blocks.specs.Bundle.{verdict, blocks_in, bundle_goes}
use Rattle.link_bundle.specs.Scan.{HasScanned}
use Rattle.link_bundle.specs.declared.scan.BundleScan.{BundleScan}
use Rattle.link_bundle_types.specs.declared.fault.State.{State}
use Rattle.link_bundle_types.specs.declared.fault.State.TheVariants as state
use Rattle.link_bundle_types.specs.declared.info.BundleInfo.{BundleInfo}
use Rattle.link_report.specs.declared.fault.{Fault.Fault, Fault.TheVariants.Bundle}
use Rattle.link_run.specs.Made.{StreamStop, with_fault}
use Rattle.link_run.specs.Run.{Texts, Outcome, ◌then◌, answer_of, progress_after}
use Rattle.link_run.specs.Writers.{AfterLastWrite}
use Rattle.link_run.specs.declared.run.{Progress.Progress, Status.Status}
use Rattle.link_run.specs.declared.writers.Writers.{Writers}
use Rattle.link_run_over_bundle_files.specs.Bundles.{Refusal, IsUnfinishedBundle, bundle_prefix, divided, with_bundles, size_of}
use Rattle.link_run_over_bundle_files.specs.Telling.{SoFar, none_yet, BundleTelling, WritesRestOfTexts, with_run, with_bytes, HasNoEarlierBlockEnd, refusal_fault, lasting, stop_by, IsViewOfWholeBundle}
use Rattle.link_run_over_bundle_files.specs.declared.{consumer.WholeView.WholeView, current.Current.Current}
use Rattle.link_run_over_bundle_files.specs.declared.current.Found.{Found}
use Rattle.link_run_over_bundle_files.specs.declared.current.Found.TheVariants as found
use Rattle.link_run_over_bundle_files.specs.declared.walk.Stage.{Stage}
use Rattle.link_run_over_bundle_files.specs.declared.walk.Stage.TheVariants as stage

-- ---- the current bundle

-- Exactly these bytes of the current bundle have come. The bundle goes on after them, and is not
-- yet longer than the limit.
pub record IsCurrentAt (limit : ℕ) (current : Current) (begun : List ℕ) : Type 0 where
  pub scanned : HasScanned current.scan begun
  pub opened : IsUnfinishedBundle limit begun

-- The scan has taken the first `count` bytes of a piece, which follow the bytes `begun`. Before
-- each of them, more bytes were needed. If `by_blocks` is true, no block ends before the last of
-- them.
pub record HasScannedFromPiece (by_blocks : Bool) (scan : BundleScan) (begun piece : List ℕ)
    (count : ℕ) : Type 0 where
  pub some : 0 < count
  pub scanned : HasScanned scan (begun ++ take count piece)
  pub wanted : (fewer : ℕ) → fewer < count → bundle_goes (begun ++ take fewer piece) ≡ true
  pub blocks : HasNoEarlierBlockEnd by_blocks scan begun (take count piece)

-- What holds when the bytes `run` of the current bundle are added to what has come. `place` is the
-- number of bytes of this bundle that came before them. The numbers of bundles and of bytes stay
-- below 2^63 (`few`, `sized`).
pub record BytesCome (limit : ℕ) (current : Current) (before : SoFar) (place : ℕ) (run : List ℕ)
    : Type 0 where
  pub numbered : current.number ≡ length before.bundles
  pub placed : place ≡ length before.begun
  pub opened : IsUnfinishedBundle limit before.begun
  pub some : 0 < length run
  pub few : length before.bundles + length (before.begun ++ run) < 2 ^ 63
  pub sized : size_of before.bundles + length (before.begun ++ run) < 2 ^ 63

-- Exactly these bytes of the current bundle have come. They are a whole bundle, and no longer than
-- the limit.
pub record HasScannedAcceptableBundle (limit : ℕ) (current : Current) (bundle : List ℕ)
    : Type 0 where
  pub scanned : HasScanned current.scan bundle
  pub front : bundle_prefix bundle ≡ bundle
  pub within : length bundle ≤ limit
  pub info : BundleInfo
  pub is : verdict bundle ≡ Ok info

-- the bytes of a run before its last byte, which shows a fault
abbrev pub before_last : (run : List ℕ) → List ℕ
before_last run = take (length run - 1) run

-- The bytes `begun` and then `run` are not the start of a bundle that is accepted, whatever
-- follows. The last byte shows this: before it, the bundle goes on. If `by_blocks` is true, no
-- block ends in the bytes of `run` before the last one.
pub record RefusedBundle (limit : ℕ) (by_blocks : Bool) (number : ℕ) (begun run : List ℕ)
    (fault : Fault)
    : Type 0 where
  pub refusal : Refusal
  pub is : fault ≡ refusal_fault number refusal
  pub lasts : lasting refusal ≡ true
  pub divides : (more : List ℕ)
      → divided limit ((begun ++ run) ++ more)
      ≡ record {
        bundles = [];
        rest = Some (record { before_fault = begun ++ before_last run; refusal = refusal });
      }
  pub before : (count : ℕ) → count < length run → IsUnfinishedBundle limit (begun ++ take count run)
  pub blocks : by_blocks ≡ true → blocks_in (begun ++ before_last run) ≡ blocks_in begun

-- the fault at which an input stops, or `None` if it ends without one
abbrev pub fault_of : Option StreamStop → Option Fault
fault_of None = None
fault_of (Some stop) = Some stop.fault

-- what the bytes `run` show of the bundle, after the bytes `begun`
abbrev pub AfterJudge : (limit : ℕ) → (by_blocks : Bool) → Current → (begun run : List ℕ) → Found
    → Type 0
AfterJudge limit by_blocks current begun run found.Part =
    IsCurrentAt limit current (begun ++ run) × HasNoEarlierBlockEnd by_blocks current.scan begun run
AfterJudge limit by_blocks current begun run found.Whole =
    HasScannedAcceptableBundle limit current (begun ++ run)
    × HasNoEarlierBlockEnd by_blocks current.scan begun run
AfterJudge limit by_blocks current begun run (found.Refused fault) =
    RefusedBundle limit by_blocks current.number begun run fault

-- The scan had seen `before` bytes of the bundle, and then `count` more bytes came. It has now seen
-- `after` bytes. If the bytes show no refusal, it has seen all of them, and fewer than 2^63. If
-- they show one, it has perhaps not seen all, since a byte past the limit is not scanned.
abbrev pub AddsToSeenCount : (before count after : ℕ) → Found → Type 0
AddsToSeenCount before count after (found.Refused fault) = before ≤ after
AddsToSeenCount before count after _ = (before + count ≡ after) × (after < 2 ^ 63)

-- what the state of the scan shows of the bundle
abbrev pub found_by : (number : ℕ) → State → Found
found_by number state.Going = found.Part
found_by number state.Ended = found.Whole
found_by number (state.Failed fault offset) = found.Refused (Bundle number offset fault)

-- there is a view, and it is that of this whole bundle
abbrev pub HasViewOfWholeBundle : (bundle : List ℕ) → Option WholeView → Type 0
HasViewOfWholeBundle bundle None = ⊥
HasViewOfWholeBundle bundle (Some whole) = IsViewOfWholeBundle bundle whole

-- The fault of an input that ends after the bytes `begun` of a bundle. It is `None` if there are no
-- such bytes. `number` is the number of the bundle.
abbrev pub cut_at : (limit number : ℕ) → (begun : List ℕ) → Option Fault
cut_at limit number begun = fault_of (stop_by number (divided limit begun).rest)

-- The value is the fault of an input that ends here (`cut_at`). Or it is `None`, and no byte of the
-- bundle has come.
abbrev pub IsCutFault : (limit number : ℕ) → (begun : List ℕ) → Option Fault → Type 0
IsCutFault limit number begun None = begun ≡ []
IsCutFault limit number begun (Some fault) = cut_at limit number begun ≡ Some fault

-- ---- the state of a walk

-- one number for the first step, and one for the others
abbrev pub by_stage : (first others : ℕ) → Stage → ℕ
by_stage first others stage.Begin = first
by_stage first others stage.Bundles = others

-- whether what comes before the first bundle was written
abbrev pub has_begun : Stage → Bool
has_begun stage.Begin = false
has_begun stage.Bundles = true

-- Exactly `now` has come: its bundles, and its bytes of the current bundle. The tool knows it.
pub record HasCome (limit : ℕ) (knows : SoFar → Type 0) (current : Current) (now : SoFar)
    : Type 0 where
  pub number : current.number ≡ length now.bundles
  pub reading : IsCurrentAt limit current now.begun
  pub known : knows now

module _ {R : Type 0} (look : R → Seen) (telling : BundleTelling) (knows : SoFar → Type 0)
    (current : Current) (source : Source R) (history : List ℕ) where
  -- The history is some bundles, and then bytes of the next one. Exactly these have come.
  pub record IsBundleWalkAt : Type 0 where
    pub source_at : IsSourceAt source history
    pub live : IsLive look source
    pub so_far : SoFar
    pub holds : HasCome telling.limit knows current so_far
    -- whatever bytes follow
    pub divides : (more : List ℕ)
        → divided telling.limit (history ++ more)
        ≡ with_bundles so_far.bundles (divided telling.limit (so_far.begun ++ more))
    pub few : length so_far.bundles + length so_far.begun ≤ length history
    pub sized : size_of so_far.bundles + length so_far.begun ≤ length history

  -- A run that has not begun was given nothing, and has read nothing. Its source has not failed
  -- (`live`). The current bundle is the first one, no byte of it has come, and the tool knows this
  -- (`holds`).
  pub record IsNewBundleWalk : Type 0 where
    pub nothing : history ≡ []
    pub unread : window_of source ≡ []
    pub source_at : IsSourceAt source []
    pub live : IsLive look source
    pub holds : HasCome telling.limit knows current none_yet

  -- the state of a run at each stage
  abbrev pub IsBundleWalkAtStage : Stage → Type 0
  IsBundleWalkAtStage stage.Begin = IsNewBundleWalk
  IsBundleWalkAtStage stage.Bundles = IsBundleWalkAt

-- ---- what the parts of a step do

-- The texts and the status of an input that ends here, with this fault or without one. With a
-- fault, the status is 3. Otherwise it is 0 if all bundles are good, or else 1.
abbrev pub ended_by : BundleTelling → SoFar → Option Fault → Outcome
ended_by telling now None =
    record { texts = telling.ended now.bundles; status = if telling.good now.bundles then 0 else 1 }
ended_by telling now (Some fault) =
    record { texts = with_fault fault (telling.texts now); status = 3 }

module _ {W E : Type 0} (out_look : W → Output) (report_look : E → Output)
    (telling : BundleTelling) (old new : Writers W E) (before : SoFar) where
  -- the texts up to `now` were written, and the step is not the last; or a writer failed
  pub record WritesUpTo (knows : SoFar → Type 0) (current : Current) (now : SoFar)
      (result : Result Progress IoFault) : Type 0 where
    pub written : Result (Unit {0}) IoFault
    pub is : result ≡ progress_after written
    pub tells : WritesRestOfTexts out_look report_look (telling.texts before) (telling.texts now)
        (knows now)
        old new written
    pub number : current.number ≡ length now.bundles
    pub reading : IsCurrentAt telling.limit current now.begun

  -- When `now` has come, the input stops at the fault `why`, or ends without one. The texts for
  -- `before` were written already. The rest was written, or a writer failed while writing it.
  pub record WritesEnd (now : SoFar) (why : Option Fault) (answer : Result Status IoFault)
      : Type 0 where
    pub texts : Texts
    pub said : telling.texts before then texts ≡ (ended_by telling now why).texts
    pub gives : AfterLastWrite out_look report_look old new texts
        (ended_by telling now why).status answer

  -- what is written for the bytes `run`, which follow the bytes of `before`
  abbrev pub WritesFound : (knows : SoFar → Type 0) → Current → (run : List ℕ) → Found
      → Result Progress IoFault → Type 0
  WritesFound knows current run found.Part result =
      WritesUpTo knows current (with_bytes before run) result
  WritesFound knows current run found.Whole result =
      (info : BundleInfo) × (verdict (before.begun ++ run) ≡ Ok info)
      × WritesUpTo knows current (with_run before run (Some info)) result
  WritesFound knows current run (found.Refused fault) result =
      (answer : Result Status IoFault) × (result ≡ answer_of answer)
      × WritesEnd (with_bytes before (before_last run)) (Some fault) answer
