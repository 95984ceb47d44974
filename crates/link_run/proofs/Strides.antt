-- Steps, one after another, make a stride.
use Rattle.std.proofs.Common.{◌≡◌, ℕ, ◌+◌, ◌-◌, ◌<◌, ◌≤◌, Bool, List, ◌++◌, length, Option, None, Result, Ok, Err, ⊎_elim, append_assoc, length-append, arith}
use Rattle.std.proofs.lemmas.Bool.{cases_lt}
use Rattle.link_wire.specs.declared.{IoFault.IoFault, Source.Source}
use Rattle.link_run.specs.Made.{Made, tool_of}
use Rattle.link_run.specs.Run.{Tool, Looks, Devices, DevicesInRun, reach_at, ContinuedStep, EndingStep, AfterStep, AfterStride}
use Rattle.link_wire.specs.Source.{given_by}
use Rattle.link_run.specs.{Stages.{IsRunAt, AfterStage, IsNotLastResult}, declared.run.Progress.Progress}
use Rattle.link_run.specs.declared.run.{Progress.TheVariants.{More, Done}, Status.Status}

-- a step that went on, with another relation that holds of the history and the bytes given
pub went_with : {R : Type 0} {old new : Source R} {first second : List ℕ → Type 0} {most : ℕ}
    {history : List ℕ} → (went : ContinuedStep old new first most history)
    → second (history ++ went.given) → ContinuedStep old new second most history
went_with went stands = record {
  given = went.given;
  some = went.some;
  size = went.size;
  count = went.count;
  window = went.window;
  at = stands;
}

-- a step that went on, and then one that goes on too
went_later : {R : Type 0} {old mid new : Source R} {between stands : List ℕ → Type 0}
    {first second : ℕ} {history : List ℕ} → (went : ContinuedStep old mid between first history)
    → ContinuedStep mid new stands second (history ++ went.given)
    → ContinuedStep old new stands (first + second) history
went_later {stands} {first} {history} went more =
    let one = went.count in
    let two = more.count in
    let fits = went.size in
    let fits_later = more.size in
    record {
      given = went.given ++ more.given;
      some = λ some. ⊎_elim
          (λ is. let given = went.some is in omega (arith, length-append went.given more.given))
          (λ none.
          let given = more.some (omega arith) in
          omega (arith, length-append went.given more.given))
          (cases_lt 0 first);
      size = omega (arith, length-append went.given more.given);
      count = omega (arith, length-append went.given more.given);
      window = more.window;
      at = rw append_assoc at more.at;
    }

module _ {R W E : Type 0} (look : Looks R W E) (tool : Tool) (start : Devices R W E) where
  -- a step that went on, and then the last one
  last_later : {now : DevicesInRun R W E} {first second : ℕ} {history : List ℕ}
      {answer : Result Status IoFault} (bytes : List ℕ) → length bytes ≤ first
      → EndingStep look tool start now second (history ++ bytes) answer
      → EndingStep look tool start now (first + second) history answer
  last_later {now} {history} {answer} bytes size last =
      let size_later = last.size in
      record {
        given = bytes ++ last.given;
        size = omega (arith, length-append bytes last.given);
        count = rw append_assoc at last.count;
        gave = rw append_assoc at last.gave;
        ends = rw append_assoc at last.ends;
      }

  module _ (old mid new : DevicesInRun R W E) (between stands : List ℕ → Type 0) (history : List ℕ) where
    -- a step that went on, and then another step
    pub step_then : (first second : ℕ) (result : Result Progress IoFault)
        → (went : ContinuedStep old.source mid.source between first history)
        → AfterStep look tool start mid new stands second (history ++ went.given) result
        → AfterStep look tool start old new stands (first + second) history result
    step_then first second (Ok More) went gives = went_later went gives
    step_then first second (Ok (Done status)) went gives = last_later went.given went.size gives
    step_then first second (Err fault) went gives = last_later went.given went.size gives

-- A stride is given no more bytes than those of a step, and those that are at hand when its wait
-- has ended.
module _ {R W E : Type 0} (look : Looks R W E) (tool : Tool) (start : Devices R W E)
    (old new : DevicesInRun R W E) (stands : List ℕ → Type 0) {size : ℕ} (most : ℕ) (history : List ℕ)
    (some : 0 < most → 0 < size) (counted : given_by old.source ≡ length history) where
  last_bounded : {answer : Result Status IoFault}
      → EndingStep look tool start new size history answer
      → (bound : ℕ) × (bound ≤ most + (reach_at look.input new.source - given_by old.source))
      × (0 < most → 0 < bound) × EndingStep look tool start new bound history answer
  last_bounded last =
      let count = last.count in
      let sizes = length-append history last.given in (
        most + length last.given,
        omega arith,
        λ any. omega arith,
        record {
          given = last.given;
          size = omega arith;
          count = count;
          gave = last.gave;
          ends = last.ends;
        },
      )

  pub bounded : (result : Result Progress IoFault)
      → AfterStep look tool start old new stands size history result
      → AfterStride look tool start old new stands most history result
  bounded (Ok More) went =
      let count = went.count in (
        length went.given,
        omega arith,
        λ any. went.some (some any),
        record {
          given = went.given;
          some = λ given. given;
          size = omega arith;
          count = count;
          window = went.window;
          at = went.at;
        },
      )
  bounded (Ok (Done status)) last = last_bounded last
  bounded (Err fault) last = last_bounded last

-- what holds after a step of its tool holds of a run, which has no answer if it goes on
pub stage_kept : {R W E : Type 0} (look : Looks R W E) (made later : List ℕ → Made)
    (start : Devices R W E) (begun : Bool) (old new : DevicesInRun R W E) (knows : List ℕ → Type 0)
    (most : ℕ) (history : List ℕ) (answer : Option (Result Status IoFault))
    (result : Result Progress IoFault) → later ≡ made → (IsNotLastResult result → answer ≡ None)
    → AfterStage look made start begun old new knows most history result
    → AfterStep look (tool_of made) start old new
    (λ bytes. (answer ≡ None) × (IsRunAt look later start begun new bytes × knows bytes))
    most history result
stage_kept look made later start begun old new knows most history answer (Ok More) same none went =
    went_with went (none tt, (rw same went.at.0, went.at.1))
stage_kept look made later start begun old new knows most history answer result same none last =
    last
