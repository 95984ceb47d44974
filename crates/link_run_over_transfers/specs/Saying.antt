-- A tool that keeps something of the events so far. What it says of an event follows from what it
-- has kept of those before. What `Consumer` asks of such a tool follows from one event at a time.
use Rattle.std.specs.{Prelude.{◌≡◌, Bool, List, [], ◌∷◌, ◌++◌, Result, Ok, Err, OnOk}, List.fold}
use Rattle.std.proofs.{Common.{refl, ap, sym, ◌∙◌}, lemmas.Grind.fold-append}
use Rattle.link_wire.specs.Device.{Output}
use Rattle.link_wire.specs.declared.IoFault.{IoFault}
use Rattle.link_run.specs.Run.{Texts, no_texts, ◌then◌}
use Rattle.link_run.specs.Writers.{AfterWrite}
use Rattle.link_run.specs.declared.writers.Writers.{Writers}
use Rattle.link_run.proofs.Runs.{then_assoc}
use Rattle.link_run_over_transfers.specs.Walk.{WalkEvent, Telling}
use Rattle.link_run_over_transfers.specs.Telling.{Tells}
use Rattle.link_run_over_transfers.specs.declared.consumer.Manner.{Manner}

-- what a tool keeps, and what it says
pub record StatefulTool (S : Type 0) : Type 0 where
  -- what is kept before the first event
  pub start : S
  -- what is kept after one more event
  pub next : S → WalkEvent → S
  -- what is said of an event, given what was kept of the events before it
  pub says : S → WalkEvent → Texts
  -- whether everything is good so far, by what is kept
  pub good : S → Bool

module _ {S : Type 0} (keeping : StatefulTool S) where
  -- what is kept after these events, if the first argument was kept before them
  abbrev pub kept_after : S → List WalkEvent → S
  kept_after kept events = fold keeping.next kept events

  -- what is said of these events, one after another
  abbrev pub said_from : S → List WalkEvent → Texts
  said_from kept [] = no_texts
  said_from kept (event ∷ more) =
      keeping.says kept event then said_from (keeping.next kept event) more

  -- The `Telling` of a tool that keeps and says this, and that goes about a stream in this manner.
  -- It gives what the tool says of a whole list of events, and whether everything in them is good.
  abbrev pub telling_of : Manner → Telling
  telling_of manner = record {
    manner = manner;
    texts = said_from keeping.start;
    good = λ events. keeping.good (kept_after keeping.start events);
  }

  said_from-append : (kept : S) (first second : List WalkEvent)
      → said_from kept first then said_from (kept_after kept first) second
      ≡ said_from kept (first ++ second)
  said_from-append kept [] second = refl
  said_from-append kept (event ∷ first) second =
      let now = keeping.next kept event in
      sym (then_assoc (keeping.says kept event) (said_from now first)
      (said_from (kept_after now first) second))
      ∙ ap (λ (texts : Texts). keeping.says kept event then texts)
      (said_from-append now first second)

  -- Let a tool keep `now` after the events `before`. If it writes what is said of the events
  -- `added`, and keeps `later` after them, `Tells` holds.
  pub keeps_telling : (manner : Manner) {W E : Type 0} (out_look : W → Output)
      (report_look : E → Output) (before added : List WalkEvent) (old new : Writers W E)
      (now later : S) (texts : Texts) (result : Result (Unit {0}) IoFault)
      → now ≡ kept_after keeping.start before
      → AfterWrite out_look report_look old new texts result
      → texts ≡ said_from now added → later ≡ kept_after now added
      → Tells out_look report_look (telling_of manner)
      (λ events. later ≡ kept_after keeping.start events) before added old new result
  keeps_telling manner out_look report_look before added old new now later texts result is wrote
      said grown = record {
        texts = texts;
        said = rw (said, is) (said_from-append keeping.start before added);
        wrote = wrote;
        known = on_ok result (grown ∙ ap (λ kept. kept_after kept added) is
            ∙ sym (fold-append keeping.next keeping.start before added));
      }
    where
      on_ok : {P : Type 0} (result : Result (Unit {0}) IoFault) → P → OnOk result P
      on_ok (Ok done) holds = holds
      on_ok (Err fault) holds = tt
