-- A step of a run for which `IsRunAt` holds: the run goes on, it ends, or a device fails.
use Rattle.std.proofs.Common.{◌≡◌, ℕ, ◌<◌, ◌≤◌, ◌⊎◌, inl, inr, Bool, true, false, List, [], ◌++◌, length, take, Result, Ok, Err, ⊎_elim, refl, ap, sym, ◌∙◌, append-nil, length-append, arith}
use Rattle.link_wire.specs.{Limits.window_size, Source.{window_of, Takes, TakesThenStops, IsOver}}
use Rattle.link_wire.specs.declared.{IoFault.IoFault, Source.Source}
use Rattle.link_run.specs.Made.{Made, whole_by, shows_fault, tool_of}
use Rattle.link_run.specs.Run.{Texts, no_texts, ◌then◌, Looks, Devices, DevicesInRun, devices_at, NoneFailed, HasGivenAndWritten, AreDeterminedTexts, EndingStep, ContinuedStep, AfterRunAnswer, AfterStep, answer_of, progress_after}
use Rattle.link_run.specs.Stages.{IsRunAt, AfterStage, written_by}
use Rattle.link_run.specs.Writers.{place_of, Writes, FailedWrite, AfterWrite, AfterLastWrite, FailedSettle}
use Rattle.link_run.specs.declared.{run.Status.Status, writers.Writers.Writers}
use Rattle.link_run.proofs.Ends.{unshown_sofar, shown_sofar, made_reports, ends_unshown, ends_shown}
use Rattle.link_run.proofs.Runs.{IsWrittenSoFar, then_none, written_as, written_given, written_on, sound_given, sound_written, all_given, answered, writer_lost, settle_lost, reader_lost}

-- the bytes so far determine what was written, or the report is empty
stood_by : (begun : Bool) (made : List ℕ → Made) (history given : List ℕ)
    → shows_fault (made history).stop ≡ false
    → IsWrittenSoFar (tool_of made) (history ++ given) (written_by begun (made history))
stood_by true made history given unshown = inr (record {
  front = history;
  rest = given;
  parts = refl;
  is = sym (unshown_sofar (made history).stop (made history).texts unshown);
})
stood_by false made history given unshown = inl refl

module _ {R W E : Type 0} {look : Looks R W E} {made : List ℕ → Made} {start : Devices R W E}
    {begun : Bool} {history : List ℕ} (most : ℕ) (old new : Source R) (before : Writers W E)
    (at : IsRunAt look made start begun (place_of old before) history) where
  -- these bytes are given
  module _ {given : List ℕ} (takes : Takes look.input old new given)
      (size : length given ≤ most) (few : length (window_of new) < window_size) where
    abbrev had : Texts
    had = written_by begun (made history)

    abbrev bytes : List ℕ
    bytes = history ++ given

    still : HasGivenAndWritten look start (place_of new before) bytes had
    still = written_given look start old new before history given had at.written takes

    still_sound : NoneFailed look (devices_at (place_of new before))
    still_sound = sound_given look old new before given at.sound takes

    -- these texts are written, and the run goes on
    module _ (after : Writers W E) (texts : Texts)
        (due : had then texts ≡ (made bytes).texts)
        (unshown : shows_fault (made bytes).stop ≡ false) where
      pub stands_on : Writes look.output look.report before after texts
          → IsRunAt look made start true (place_of new after) bytes
      stands_on writes = record {
        written = written_on look start new before after bytes had texts still writes.output
            writes.report due;
        sound = sound_written look new before after texts still_sound writes;
        unshown = unshown;
        lasting = at.lasting;
      }

      pub goes_on : (knows : List ℕ → Type 0) → (begun ≡ true → 0 < length given) → knows bytes
          → Writes look.output look.report before after texts
          → (0 < most → begun ≡ true)
          → ContinuedStep old new (λ bytes. IsRunAt look made start true (place_of new after) bytes × knows bytes) most history
      goes_on knows some known writes only = record {
        given = given;
        some = λ may. some (only may);
        size = size;
        count = takes.count;
        window = few;
        at = (stands_on writes, known);
      }

      -- a writer failed in the middle of them
      pub loses : (fault : IoFault) → FailedWrite look.output look.report before after texts fault
          → EndingStep look (tool_of made) start (place_of new after) most history (Err fault)
      loses fault part = record {
        given = given;
        size = size;
        count = still.count;
        gave = writer_lost look (tool_of made) (made_reports made) start new before after bytes had texts _ fault still still_sound refl
            (inl (due ∙ sym (unshown_sofar (made bytes).stop (made bytes).texts unshown))) few
            (λ some. stood_by begun made history given at.unshown) part;
        ends = ends_unshown made at.lasting bytes unshown;
      }

      -- the same, by the result of the write
      pub written : (knows : List ℕ → Type 0) → (begun ≡ true → 0 < length given) → knows bytes
          → (0 < most → begun ≡ true) → (result : Result (Unit {0}) IoFault)
          → AfterWrite look.output look.report before after texts result
          → AfterStage look made start true (place_of old before) (place_of new after) knows most history (progress_after result)
      written knows some known only (Ok done) writes = goes_on knows some known writes only
      written knows some known only (Err fault) part = loses fault part

    -- These texts are the last. The whole input was given, or the bytes show a fault that no more
    -- bytes change, and no fewer bytes show it.
    module _ (after : Writers W E) (texts : Texts)
        (whole : had then texts ≡ (whole_by (made bytes).stop (made bytes)).texts)
        (over : (IsOver look.input new × (shows_fault (made bytes).stop ≡ false))
        ⊎ ((shows_fault (made bytes).stop ≡ true) × ((more : List ℕ) → made (bytes ++ more) ≡ made bytes)
        × ((count : ℕ) → count < length given
        → shows_fault (made (history ++ take count given)).stop ≡ false))) where
      due_last : AreDeterminedTexts look (tool_of made) (devices_at (place_of new after)) bytes (window_of new) (had then texts)
      due_last =
          ⊎_elim
          (λ is. inr (all_given look new after is.0, whole))
          (λ is. inl (whole ∙ sym (shown_sofar (made bytes).stop (made bytes) is.0)))
          over

      end_by : (answer : Result Status IoFault)
          → AfterLastWrite look.output look.report before after texts (whole_by (made bytes).stop (made bytes)).status answer
          → AfterRunAnswer look (tool_of made) start (devices_at (place_of new after)) bytes answer
      end_by (Ok status) gives =
          answered look (tool_of made) start new after bytes status
          (written_on look start new before after bytes had texts still gives.0.output
          gives.0.report whole)
          (sound_written look new before after texts still_sound gives.0)
          gives.1
          (⊎_elim
          (λ is. inl (all_given look new after is.0))
          (λ is. inr (λ more. ap (λ (m : Made). whole_by m.stop m) (is.1 more)))
          over)
          few
      end_by (Err fault) gives =
          writer_lost look (tool_of made) (made_reports made) start new before after bytes had texts _ fault still still_sound refl
          due_last few (λ some. stood_by begun made history given at.unshown) gives

      pub ends : (answer : Result Status IoFault)
          → AfterLastWrite look.output look.report before after texts (whole_by (made bytes).stop (made bytes)).status answer
          → EndingStep look (tool_of made) start (place_of new after) most history answer
      ends answer gives = record {
        given = given;
        size = size;
        count = still.count;
        gave = end_by answer gives;
        ends = ⊎_elim (λ is. ends_unshown made at.lasting bytes is.1)
            (λ is. ends_shown made at.lasting history given at.unshown is.2) over;
      }

  -- the reader failed after these bytes, which show no fault
  pub read_fails : (given : List ℕ) (after : Writers W E) (fault : IoFault)
      (answer : Result Status IoFault)
      → TakesThenStops look.input old new given fault → length given ≤ most
      → written_by begun (made history) ≡ (made (history ++ given)).texts
      → shows_fault (made (history ++ given)).stop ≡ false → answer ≡ Err fault → after ≡ before
      → EndingStep look (tool_of made) start (place_of new after) most history answer
  read_fails given after fault answer stops size due unshown is same =
      let bytes = history ++ given in
      rw (is, same) (record {
        given = given;
        size = size;
        count = omega (arith, stops.count, at.written.count, length-append history given);
        gave = reader_lost look (tool_of made) start old new before history given _ fault at.written at.sound
            (due ∙ sym (unshown_sofar (made bytes).stop (made bytes).texts unshown)) unshown stops;
        ends = ends_unshown made at.lasting bytes unshown;
      })

module _ {R W E : Type 0} {look : Looks R W E} {made : List ℕ → Made} {start : Devices R W E}
    {history : List ℕ} (source : Source R) (before after : Writers W E)
    (at : IsRunAt look made start true (place_of source before) history) where
  -- after what was written was handed on, `IsRunAt` holds as before
  pub settled : Writes look.output look.report before after no_texts
      → IsRunAt look made start true (place_of source after) history
  settled writes = record {
    written = written_on look start source before after history (made history).texts no_texts
        at.written writes.output writes.report (then_none (made history).texts);
    sound = sound_written look source before after no_texts at.sound writes;
    unshown = at.unshown;
    lasting = at.lasting;
  }

  -- if handing on fails, no text is lost
  pub not_handed_on : (most : ℕ) (fault : IoFault) → length (window_of source) < window_size
      → FailedSettle look.output look.report before after fault
      → EndingStep look (tool_of made) start (place_of source after) most history (Err fault)
  not_handed_on most fault few part = record {
    given = [];
    size = omega arith;
    count = omega (arith, at.written.count, length-append history []);
    ends = rw append-nil (ends_unshown made at.lasting history at.unshown);
    gave = rw append-nil (settle_lost look (tool_of made) (made_reports made) start source before after history fault
        (written_as look at.written refl (sym (unshown_sofar (made history).stop (made history).texts at.unshown)))
        at.sound at.unshown few part);
  }

-- what holds after the last step, by the answer
pub last_step : {R W E : Type 0} {look : Looks R W E} (made : List ℕ → Made) {start : Devices R W E}
    (old new : DevicesInRun R W E) (stands : List ℕ → Type 0) {most : ℕ} {history : List ℕ}
    (answer : Result Status IoFault)
    → EndingStep look (tool_of made) start new most history answer
    → AfterStep look (tool_of made) start old new stands most history (answer_of answer)
last_step made old new stands (Ok status) gives = gives
last_step made old new stands (Err fault) gives = gives
