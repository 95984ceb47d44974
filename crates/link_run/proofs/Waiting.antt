-- When a call waits for its input, and when a step of a run does.
use Rattle.std.proofs.Common.{◌≡◌, ◌<◌, ◌≤◌, inl, inr, ℕ, Bool, true, false, List, [], ◌∷◌, ◌++◌, length, Result, eqb, eqb-true, ⊎_elim, refl, ap, sym, ◌∙◌, append-nil, append_assoc, length-append, arith}
use Rattle.std.specs.{Prelude.All, Io.KnownBytes.Appends}
use Rattle.std.proofs.{KnownBytes.Appends-trans, lemmas.Bool.and_parts}
use Rattle.std.proofs.lemmas.List.Elements.{All-nil, All-push, All-weaker}
use Rattle.link_wire.specs.{Device.{Input as Seen, Output}, declared.IoFault.IoFault}
use Rattle.link_wire.specs.Limits.{window_size}
use Rattle.link_wire.specs.Source.{given_by, is_fresh, reader_of, window_of}
use Rattle.link_wire.specs.declared.Source.{Source}
use Rattle.link_io.specs.{Source.is_open, declared.source.Flow.Flow}
use Rattle.link_io.proofs.{Sources.fresh_at, Windows.range_none}
use Rattle.link_run.specs.{Made.{Made, tool_of}, Reading.{ReadsNothing, CallWaitsAtMostOnce}}
use Rattle.link_run.specs.Run.{Texts, no_texts, Tool, Looks, Devices, DevicesInRun, devices_at, reach_at, Wait, WaitLog, then_waits, noted, waits_by, HasHandedOn, IsWaitOfPlace, IsPrompt, IsPromptWithin, WaitsAtMostOnce, EndingStep}
use Rattle.link_run.specs.WholeRun.{devices_of, ran_of, IsLogOf, AreSpaced, AfterRun, AfterRunFrom}
use Rattle.link_run.specs.{NewRun.IsNewRun, Stages.IsRunAt, Writers.{place_of, Writes}}
use Rattle.link_run.specs.declared.input.{Input.Input, Position.Position}
use Rattle.link_run.specs.declared.run.{Run.Ghosts, Status.Status, RunEnd.RunEnd}
use Rattle.link_run.specs.declared.writers.Writers.{Writers}
use Rattle.link_run.proofs.Ends.{unshown_sofar}

module _ {S R W E : Type 0} {look : R → Seen} {source : S → Source R} where
  pub unread_none : (same : Input S W E) → ReadsNothing look source same same
  unread_none same = record { reach = refl; waits = refl }

  pub unread_then : {old mid new : Input S W E} → ReadsNothing look source old mid
      → ReadsNothing look source mid new → ReadsNothing look source old new
  unread_then first later = record {
    reach = later.reach ∙ first.reach;
    waits = later.waits ∙ first.waits;
  }

module _ {R W E : Type 0} (look : Looks R W E) (source : Source R) (before after : Writers W E)
    (position : Position) where
  -- what was written was handed on before a read
  pub wait_at : (end : ℕ) → position.given ≡ given_by source
      → position.ahead ≡ length (window_of source) → length (window_of source) < window_size
      → Writes look.output look.report before after no_texts
      → (look.output after.output).handed ≡ (look.output after.output).written
      → (look.report after.report).handed ≡ (look.report after.report).written
      → IsWaitOfPlace look (place_of source before)
      (record { position = position; writers = after; reach = end })
  wait_at end given ahead few wrote output report = record {
    given = given;
    ahead = ahead;
    few = rw ahead few;
    output = record { written = wrote.output; handed = output };
    report = record { written = wrote.report; handed = report };
    output_kept = wrote.output_sound;
    report_kept = wrote.report_sound;
  }

module _ {S R W E : Type 0} {look : Looks R W E} {source : S → Source R} (before : Writers W E) where
  -- after a call, others read nothing
  pub waits_then : {old mid new : Input S W E} → CallWaitsAtMostOnce look source old mid before
      → ReadsNothing look.input source mid new → CallWaitsAtMostOnce look source old new before
  waits_then first later =
      ⊎_elim
      (λ none. inl (later.waits ∙ none.0, later.reach ∙ none.1))
      (λ waited. inr (
        waited.0,
        later.waits ∙ waited.1,
        waited.2 ∙ ap (λ (far : ℕ × Flow). far.0) (sym later.reach),
        waited.3,
      ))
      first

-- no waits are one more than themselves
never_longer : {R W E : Type 0} (before after : WaitLog R W E) (last : Wait W E) → after ≡ before
    → after ≡ noted before last → ⊥
never_longer {R} {W} {E} before after last same more =
    omega (arith, ap (λ (waits : WaitLog R W E). length waits.each) (sym same ∙ more), length-append before.each (last ∷ []))

-- a text was written, and later all was handed on
shown_after : {start now later : Output} (text due : List ℕ)
    → Appends start.written now.written text → HasHandedOn now later [] → text ≡ due
    → HasHandedOn start later due
shown_after {start} {now} {later} text due wrote shown is = record {
  written = rw (append-nil text, is) at
      (Appends-trans start.written now.written later.written text [] wrote shown.written);
  handed = shown.handed;
}

module _ {R W E : Type 0} {look : Looks R W E} {made : List ℕ → Made} {start : Devices R W E} where
  -- a run waits with nothing in hand
  prompt_at : {place : DevicesInRun R W E} {history : List ℕ} {wait : Wait W E}
      → IsRunAt look made start true place history → IsWaitOfPlace look place wait
      → IsPrompt look (tool_of made) start history wait
  prompt_at {history} stands is =
      let texts = made history in
      let due = sym (unshown_sofar texts.stop texts.texts stands.unshown) in
      record {
        count = is.given ∙ stands.written.count;
        few = is.few;
        unshown = stands.unshown;
        output = shown_after _ _ stands.written.writes is.output (ap (λ (t : Texts). t.output) due);
        report = shown_after texts.texts.report _ stands.written.reports is.report
            (ap (λ (t : Texts). t.report) due);
        output_sound = is.output_kept ∙ stands.sound.output;
        report_sound = is.report_kept ∙ stands.sound.report;
      }

  -- a stage waits before it is given a byte and before it writes, so its run has nothing in hand
  pub prompt_once : {S : Type 0} (of : S → R) (begun : Bool) (new : Source R)
      {place : DevicesInRun R W E} {history : List ℕ} {before after : WaitLog S W E}
      → IsRunAt look made start begun place history → (begun ≡ false → after ≡ before)
      → WaitsAtMostOnce look.input place.source new before after (IsWaitOfPlace look place)
      → WaitsAtMostOnce look.input place.source new (waits_by of before) (waits_by of after)
      (λ wait. IsWaitOfPlace look place wait × IsPrompt look (tool_of made) start history wait)
  prompt_once of true new stands begins waits =
      ⊎_elim (λ none. inl (ap (waits_by of) none.0, none.1))
      (λ waited. inr (
        waited.0,
        ap (waits_by of) waited.1,
        waited.2,
        (waited.3, prompt_at stands waited.3),
      )) waits
  prompt_once of false new {before} {after} stands begins waits =
      ⊎_elim (λ none. inl (ap (waits_by of) none.0, none.1))
      (λ waited. absurd (never_longer before after waited.0 (begins refl) waited.1)) waits

-- ---- the waits of a run

module _ {W E : Type 0} where
  -- one more wait, at an offset up to which the input was at hand
  spaced_push : (reach : ℕ) (waits : List (Wait W E)) (wait : Wait W E) (end : ℕ)
      → AreSpaced reach waits wait.position.given → end ≤ wait.reach
      → AreSpaced reach (waits ++ wait ∷ []) end
  spaced_push reach [] wait end spaced within = (spaced, within)
  spaced_push reach (first ∷ more) wait end spaced within =
      (spaced.0, spaced_push first.reach more wait end spaced.1 within)

module _ {R W E : Type 0} (look : Looks R W E) (tool : Tool) (start : Devices R W E) where
  abbrev ArePrompt : List ℕ → List (Wait W E) → Type 0
  ArePrompt given = All (IsPromptWithin look tool start given)

  -- more bytes were given since
  still_prompt : (given more : List ℕ) (waits : List (Wait W E)) → ArePrompt given waits
      → ArePrompt (given ++ more) waits
  still_prompt given more waits were =
      All-weaker (IsPromptWithin look tool start given) (IsPromptWithin look tool start (given ++ more))
      (λ wait was. record {
        front = was.front;
        rest = was.rest ++ more;
        parts = ap (λ (bytes : List ℕ). bytes ++ more) was.parts
            ∙ append_assoc was.front was.rest more;
        prompt = was.prompt;
      }) waits were

  -- The waits of a run since it began. The input was at hand up to the offset `from` then, and now
  -- it is up to the offset `far`.
  pub record Waited (given : List ℕ) (from far : ℕ) (before now : WaitLog R W E) : Type 0 where
    pub since : List (Wait W E)
    pub are : now ≡ then_waits before since
    pub prompt : ArePrompt given since
    pub spaced : (end : ℕ) → end ≤ far → AreSpaced from since end

  pub waited_none : (from : ℕ) (before : WaitLog R W E) → Waited [] from from before before
  waited_none from before = record {
    since = [];
    are = ap (λ each. record { from = before.from; each = each }) (sym (append-nil before.each));
    prompt = All-nil (IsPromptWithin look tool start []);
    spaced = λ end within. within;
  }

  pub waited_more : {place : DevicesInRun R W E} (new : Source R) (given more : List ℕ) (from : ℕ)
      (before now later : WaitLog R W E)
      → Waited given from (reach_at look.input place.source) before now
      → WaitsAtMostOnce look.input place.source new now later
      (λ wait. IsWaitOfPlace look place wait × IsPrompt look tool start given wait)
      → Waited (given ++ more) from (reach_at look.input new) before later
  waited_more {place} new given more from before now later waited waits =
      let still = still_prompt given more waited.since waited.prompt in
      ⊎_elim
      (λ none. record {
        since = waited.since;
        are = none.0 ∙ waited.are;
        prompt = still;
        spaced = λ end within. waited.spaced end
            (rw (ap (λ (far : ℕ × Flow). far.0) none.1) at within);
      })
      (λ once. record {
        since = waited.since ++ once.0 ∷ [];
        are = once.1 ∙ ap (λ all. noted all once.0) waited.are
            ∙ ap (λ each. record { from = before.from; each = each }) (append_assoc before.each waited.since (once.0 ∷ []));
        prompt = All-push (IsPromptWithin look tool start (given ++ more)) waited.since once.0 still
            (record { front = given; rest = more; parts = refl; prompt = once.3.1 });
        spaced = λ end within. spaced_push from waited.since once.0 end
            (waited.spaced once.0.position.given (omega (arith, once.3.0.given)))
            (omega (arith, within, once.2));
      })
      waits

  -- the last stride of a run: what it gave, and all waits since the run began
  pub ran_on : {now place : DevicesInRun R W E} {most from : ℕ} {before between later : WaitLog R W E}
      {answer : Result Status IoFault} (history : List ℕ)
      (end : RunEnd R W E) → devices_of end ≡ devices_at now → end.answer ≡ answer
      → IsLogOf later (devices_of end) (ran_of end)
      → EndingStep look tool start now most history answer
      → Waited history from (reach_at look.input place.source) before between
      → WaitsAtMostOnce look.input place.source now.source between later
      (λ wait. IsWaitOfPlace look place wait × IsPrompt look tool start history wait)
      → AfterRunFrom look tool start from before end
  ran_on {now} history end returned answered log last waited waits =
      let all = waited_more now.source history last.given _ _ _ _ waited waits in
      record {
        since = all.since;
        log = rw all.are at log;
        rest = record {
          given = history ++ last.given;
          gave = rw (returned, answered) last.gave;
          ends = last.ends;
          prompt = all.prompt;
          spaced = all.spaced (length (history ++ last.given)) (omega (arith, last.count));
        };
      }

fresh_empty : {R : Type 0} (s : Source R) → is_fresh s ≡ true → s.start ≡ s.end
fresh_empty s fresh =
    let rest = (and_parts (eqb s.given 0) _ fresh).1 in
    eqb-true s.start s.end (and_parts (is_open s.flow) _ rest).1

-- how far the input of a fresh source is at hand
fresh_reach : {R : Type 0} (look : R → Seen) (s : Source R) → is_fresh s ≡ true
    → reach_at look s ≡ length (look (reader_of s)).held
fresh_reach look s fresh =
    let given = (fresh_at s fresh).given in
    let empty = fresh_empty s fresh in
    omega (arith, given, ap length (range_none s.window s.start s.end empty))

-- what holds after a whole run of a tool, from its making on
pub whole_run : {Self R W E : Type 0} {members : Ghosts Self R W E} {look : Looks R W E}
    {tool : Tool} {start : Devices R W E} {run : Self} {end : RunEnd R W E}
    → IsNewRun members tool start run
    → AfterRunFrom look (members.tool run) (devices_at (members.place run))
    (reach_at look.input (members.place run).source) (members.waits run) end
    → AfterRun look tool start end
whole_run {members = members} {look = look} {start = start} {run = run} new ran =
    let reader : reader_of (members.place run).source ≡ start.reader =
    ap (λ (d : Devices _ _ _). d.reader) new.devices in
    let far = fresh_reach look.input (members.place run).source new.fresh
    ∙ ap (λ r. length (look.input r).held) reader in
    let log = rw new.waits at ran.log in
    record {
      from = log.from;
      to = log.to;
      whole = rw log.waits (rw (new.tool_is, new.devices, far) at ran.rest);
    }
