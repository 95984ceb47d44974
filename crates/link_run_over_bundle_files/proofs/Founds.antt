-- What a consumer has said, and what holds after a step of a walk over bundles.
use Rattle.std.proofs.Common.{◌≡◌, ℕ, ◌+◌, ◌<◌, ◌≤◌, ◌⊎◌, inl, inr, Bool, true, false, List, [], ◌∷◌, ◌++◌, length, take, Option, Some, Result, Ok, Err, refl, ap, sym, ◌∙◌, subst, append-nil, append_assoc, length-append, length-take, arith, ◌-◌, ⊎_elim, if◌then◌else◌}
use Rattle.std.proofs.lemmas.Grind.{fold-append}
use Rattle.std.specs.Result.{result_and}
use Rattle.link_wire.specs.{Device.Output, Limits.window_size}
use Rattle.link_wire.specs.{Source.{window_of, IsLive, IsOver, Takes}, declared.IoFault.IoFault}
use Rattle.link_wire.specs.declared.Source.{Source}
use Rattle.link_io.proofs.Sources.{IsSourceAt-then}
use Rattle.link_report.specs.declared.fault.Fault.{Fault}
use Rattle.link_run.specs.Made.{Made, shows_fault, with_fault}
use Rattle.link_run.specs.Run.{Texts, ◌then◌, Looks, Devices, answer_of, progress_after}
use Rattle.link_run.specs.Stages.{IsRunAt, AfterStage, written_by}
use Rattle.link_run.specs.Writers.{place_of, AfterLastWrite, on_report, Writes, FailedWrite, AfterWrite}
use Rattle.link_run.specs.declared.run.{Progress.Progress, Status.Status}
use Rattle.link_run.specs.declared.writers.Writers.{Writers}
use Rattle.link_run.proofs.Runs.{few_over, then_assoc, writes_then, part_of_more}
use Rattle.link_run.proofs.Stands.{goes_on, loses, ends, last_step}
use Rattle.link_bundle.specs.Scan.{HasScanned}
use Rattle.link_run_over_bundle_files.specs.Bundles.{BundleWithInfo, divided, with_bundles, size_of}
use Rattle.link_run_over_bundle_files.specs.Telling.{SoFar, BundleTelling, WritesRestOfTexts, told_of, with_run, with_bytes, between, RunViewComes, HasNoEarlierBlockEnd, IsUnfinishedOrHasView, BytesBeforeFaultCome}
use Rattle.link_run_over_bundle_files.specs.BundleRun.{before_last, AfterJudge, cut_at, IsBundleWalkAt, ended_by, WritesUpTo, WritesEnd, WritesFound, BytesCome, RefusedBundle}
use Rattle.link_run_over_bundle_files.specs.declared.current.{Current.Current, Found.Found}
use Rattle.link_run_over_bundle_files.specs.declared.current.Found.TheVariants as found
use Rattle.link_run_over_bundle_files.proofs.Dividing.{divided_whole, divided_none}
use Rattle.link_run_over_bundle_files.proofs.Outcomes.{whole_of, texts_going, unshown_going, whole_going, told_refused, told_same}
use Rattle.std.proofs.{Math.Seq.take-append-add, KnownBytes.Appends-trans}
use Rattle.link_report.specs.Fault.{fault_text}
use Rattle.link_run.proofs.Sessions.{then_fault}
use Rattle.link_run_over_bundle_files.specs.declared.consumer.RunView.{RunView}

-- the number of bytes with one more bundle
size_with : (bundles : List BundleWithInfo) (bundle : BundleWithInfo)
    → size_of (bundles ++ bundle ∷ []) ≡ size_of bundles + length bundle.bytes
unfolding size_of
size_with bundles bundle =
    fold-append (λ size (b : BundleWithInfo). size + length b.bytes) 0 bundles (bundle ∷ [])

pub no_size : size_of [] ≡ 0
unfolding size_of
no_size = refl

pub between_is : (now : SoFar) → now.begun ≡ [] → now ≡ between now.bundles
between_is now none = ap (λ (begun : List ℕ). record { bundles = now.bundles; begun = begun }) none

-- with these bytes the bundle goes on or is whole
pub accepted : {limit : ℕ} {by_blocks : Bool} {current : Current} {before : SoFar} {place : ℕ}
    {run : List ℕ} → BytesCome limit current before place run → HasScanned current.scan (before.begun ++ run)
    → HasNoEarlierBlockEnd by_blocks current.scan before.begun run → (view : RunView)
    → view.number ≡ current.number → view.before ≡ place → view.bytes.now ≡ run
    → view.scan.now ≡ current.scan → IsUnfinishedOrHasView limit before.begun run view.whole
    → RunViewComes limit by_blocks before view
accepted {before = before} here scanned blocks view number placed bytes scan is = record {
  numbered = number ∙ here.numbered;
  placed = placed ∙ here.placed;
  some = rw bytes here.some;
  opened = here.opened;
  accepted = rw bytes is;
  scanned = rw (bytes, scan) scanned;
  blocks = rw (bytes, scan) blocks;
  few = rw bytes here.few;
  sized = rw bytes here.sized;
}

-- the same, for the bytes before the one that shows a fault
pub refused : {limit : ℕ} {by_blocks : Bool} {current : Current} {before : SoFar} {place : ℕ}
    {run : List ℕ} {why : Fault} (bytes : List ℕ) → bytes ≡ before_last run
    → BytesCome limit current before place run
    → RefusedBundle limit by_blocks current.number before.begun run why
    → BytesBeforeFaultCome limit by_blocks before current.number bytes
refused {before = before} {run = run} bytes is here refuses =
    let some = here.some in
    let few = here.few in
    let size = ap length is in
    record {
      numbered = here.numbered;
      opened = here.opened;
      accepted = rw is (refuses.before (length run - 1) (omega arith));
      blocks = rw is refuses.blocks;
      few = omega (
        arith,
        length-append before.begun run,
        length-append before.begun bytes,
        length-take (length run - 1) run,
      );
      sized = omega (
        arith,
        here.sized,
        length-append before.begun run,
        length-append before.begun bytes,
        length-take (length run - 1) run,
      );
    }

module _ {W E : Type 0} (out_look : W → Output) (report_look : E → Output) where
  -- the report failed in a line, after these texts were written
  line_behind : (old mid new : Writers W E) (first : Texts) (line : List ℕ) (fault : IoFault)
      → Writes out_look report_look old mid first
      → FailedWrite out_look report_look mid new (on_report line) fault
      → FailedWrite out_look report_look old new (first then on_report line) fault
  line_behind old mid new first line fault one part = record {
    kind = part.kind;
    output_count = length first.output + part.output_count;
    report_count = length first.report + part.report_count;
    output = rw take-append-add (Appends-trans (out_look old.output).written (out_look mid.output).written (out_look new.output).written first.output (take part.output_count []) one.output part.output);
    report = rw take-append-add (Appends-trans (report_look old.report).written (report_look mid.report).written (report_look new.report).written first.report (take part.report_count line) one.report part.report);
    failed = ⊎_elim
        (λ lost. let less = lost.part in absurd (omega arith))
        (λ lost. inr (let less = lost.part in record { failed = lost.failed; part = omega (arith, length-append first.report line); whole = omega (arith, length-append first.output []); output_sound = lost.output_sound ∙ one.output_sound }))
        part.failed;
  }

  -- a line ends the report, after these texts
  last_line : (old mid new : Writers W E) (first : Texts) (line : List ℕ)
      (answer : Result Status IoFault) → Writes out_look report_look old mid first
      → AfterLastWrite out_look report_look mid new (on_report line) 3 answer
      → AfterLastWrite out_look report_look old new (first then on_report line) 3 answer
  last_line old mid new first line (Ok status) one gives =
      (writes_then out_look report_look old mid new first (on_report line) one gives.0, gives.1)
  last_line old mid new first line (Err fault) one part =
      line_behind old mid new first line fault one part

  -- the bytes before the one that shows a fault were said, and then comes the line of the fault
  module _ (telling : BundleTelling) (before : SoFar) (run : List ℕ) (why : Fault)
      (bytes : List ℕ) (is : bytes ≡ before_last run) (old mid : Writers W E) where
    abbrev Said : Result (Unit {0}) IoFault → Type 0
    Said result = WritesRestOfTexts out_look report_look (telling.texts before)
        (telling.texts (with_bytes before bytes)) (Unit {0}) old mid result

    abbrev Refused : Writers W E → Result Status IoFault → Type 0
    Refused new answer =
        WritesEnd out_look report_look telling old new before (with_bytes before (before_last run))
        (Some why) answer

    line_said : (texts : Texts)
        → telling.texts before then texts ≡ telling.texts (with_bytes before bytes)
        → telling.texts before then (texts then on_report (fault_text why))
        ≡ with_fault why (telling.texts (with_bytes before (before_last run)))
    line_said texts said =
        then_assoc (telling.texts before) texts (on_report (fault_text why))
        ∙ ap (λ (t : Texts). t then on_report (fault_text why)) said ∙ rw is (then_fault why _)

    pub lost : (fault : IoFault) → Said (Err fault) → Refused mid (Err fault)
    lost fault tells = record {
      texts = tells.texts then on_report (fault_text why);
      said = line_said tells.texts tells.said;
      gives = part_of_more out_look report_look old mid tells.texts (on_report (fault_text why))
          fault (λ some. refl) tells.wrote;
    }

    pub stopped : (done : Unit {0}) → Said (Ok done)
        → (new : Writers W E) (answer : Result Status IoFault)
        → AfterLastWrite out_look report_look mid new (on_report (fault_text why)) 3 answer
        → Refused new answer
    stopped done tells new answer gives = record {
      texts = tells.texts then on_report (fault_text why);
      said = line_said tells.texts tells.said;
      gives = last_line old mid new tells.texts (fault_text why) answer tells.wrote gives;
    }

  -- the input ends between two bundles
  module _ (telling : BundleTelling) (now : SoFar) (none : now.begun ≡ []) (number : ℕ)
      (old new : Writers W E) (status : Status)
      (is : status.0 ≡ (if telling.good now.bundles then 0 else 1)) where
    pub ended : (result : Result (Unit {0}) IoFault)
        → WritesRestOfTexts out_look report_look (telling.texts (between now.bundles))
        (telling.ended now.bundles) (Unit {0}) old new result
        → WritesEnd out_look report_look telling old new now now
        (cut_at telling.limit number now.begun) (result_and result (Ok status))
    ended result tells =
        rw (none, divided_none telling.limit) (record {
          texts = tells.texts;
          said = rw (between_is now none) tells.said;
          gives = gives tells.texts result tells.wrote;
        })
      where
        gives : (texts : Texts) (result : Result (Unit {0}) IoFault)
            → AfterWrite out_look report_look old new texts result
            → AfterLastWrite out_look report_look old new texts
            (if telling.good now.bundles then 0 else 1) (result_and result (Ok status))
        gives texts (Ok done) wrote = (wrote, is)
        gives texts (Err fault) part = part

-- ---- a step that is not the last, unless a writer failed

module _ {R W E : Type 0} {look : Looks R W E} {start : Devices R W E} {made : List ℕ → Made}
    {begun : Bool} {history : List ℕ} (most : ℕ) (old new : Source R) (before after : Writers W E)
    (stood : IsRunAt look made start begun (place_of old before) history)
    {given : List ℕ} (takes : Takes look.input old new given) (size : length given ≤ most)
    (few : length (window_of new) < window_size) where
  pub stepped : {had now : Texts} {stands : Type 0} (knows : List ℕ → Type 0)
      (result : Result (Unit {0}) IoFault)
      → WritesRestOfTexts look.output look.report had now stands before after result
      → written_by begun (made history) ≡ had
      → now ≡ (made (history ++ given)).texts
      → shows_fault (made (history ++ given)).stop ≡ false
      → (stands → knows (history ++ given)) → (begun ≡ true → 0 < length given)
      → (0 < most → begun ≡ true)
      → AfterStage look made start true (place_of old before) (place_of new after)
      knows most history (progress_after result)
  stepped knows (Ok done) tells had now unshown known some only =
      goes_on most old new before stood takes size few after tells.texts
      (rw had (tells.said ∙ now)) unshown knows some
      (known tells.known) tells.wrote only
  stepped knows (Err fault) tells had now unshown known some only =
      loses most old new before stood takes size few after tells.texts
      (rw had (tells.said ∙ now)) unshown fault tells.wrote

-- ---- a step that reads

module _ {R W E : Type 0} {look : Looks R W E} {start : Devices R W E} (telling : BundleTelling)
    (knew knows : SoFar → Type 0) (most : ℕ) (old new : Source R) (before after : Writers W E)
    (current next : Current) {history : List ℕ}
    (stood : IsRunAt look (told_of telling) start true (place_of old before) history)
    (at : IsBundleWalkAt look.input telling knew current old history) where
  abbrev GivesProgress : Result Progress IoFault → Type 0
  GivesProgress = AfterStage look (told_of telling) start true (place_of old before) (place_of new after)
      (IsBundleWalkAt look.input telling knows next new) most history

  texts_now : (told_of telling history).texts ≡ telling.texts at.so_far
  texts_now = texts_going telling history at.so_far at.divides at.holds.reading.opened

  divided-append : (run rest : List ℕ)
      → divided telling.limit ((history ++ run) ++ rest)
      ≡ with_bundles at.so_far.bundles (divided telling.limit ((at.so_far.begun ++ run) ++ rest))
  divided-append run rest =
      rw (append_assoc history run rest, append_assoc at.so_far.begun run rest) (at.divides (run ++ rest))

  -- these bytes are the last: the whole input was given, or they show a fault
  module _ {run : List ℕ} (takes : Takes look.input old new run) (size : length run ≤ most)
      (few : length (window_of new) < window_size) (now : SoFar) (why : Option Fault)
      (is : whole_of (told_of telling (history ++ run)) ≡ ended_by telling now why) where
    ends_so : (answer : Result Status IoFault)
        → WritesEnd look.output look.report telling before after at.so_far now why answer
        → (IsOver look.input new × (shows_fault (told_of telling (history ++ run)).stop ≡ false))
        ⊎ ((shows_fault (told_of telling (history ++ run)).stop ≡ true)
        × ((more : List ℕ)
        → told_of telling ((history ++ run) ++ more) ≡ told_of telling (history ++ run))
        × ((count : ℕ) → count < length run
        → shows_fault (told_of telling (history ++ take count run)).stop ≡ false))
        → GivesProgress (answer_of answer)
    ends_so answer gave over =
        last_step (told_of telling) (place_of old before) (place_of new after) _ answer
        (ends most old new before stood takes size few after gave.texts
        (rw (texts_now, is) gave.said) over answer (rw is gave.gives))

  -- the input has ended
  pub finished : Takes look.input old new [] → IsOver look.input new
      → (answer : Result Status IoFault)
      → WritesEnd look.output look.report telling before after at.so_far at.so_far
      (cut_at telling.limit current.number at.so_far.begun) answer
      → GivesProgress (answer_of answer)
  finished takes over answer gave =
      ends_so takes (omega arith) (few_over look.input new over) at.so_far _
      (rw (append-nil, at.holds.number)
      (whole_going telling history at.so_far at.divides at.holds.reading.opened)) answer gave
      (inl (over, rw append-nil stood.unshown))

  -- a run of bytes was given
  module _ (run : List ℕ) (takes : Takes look.input old new run) (live : IsLive look.input new)
      (some : 0 < length run) (size : length run ≤ most) (result : Result Progress IoFault) where
    -- the bundle goes on, or the next one begins
    went : (now : SoFar)
        → ((rest : List ℕ) → divided telling.limit ((history ++ run) ++ rest)
        ≡ with_bundles now.bundles (divided telling.limit (now.begun ++ rest)))
        → length now.bundles + length now.begun ≤ length (history ++ run)
        → size_of now.bundles + length now.begun ≤ length (history ++ run)
        → WritesUpTo look.output look.report telling before after at.so_far knows next now result
        → GivesProgress result
    went now come few sized gave =
        let opened = gave.reading.opened in
        let bytes = history ++ run in
        subst GivesProgress (sym gave.is)
        (stepped most old new before after stood takes size (takes.window.less some)
        (IsBundleWalkAt look.input telling knows next new) gave.written gave.tells texts_now
        (sym (texts_going telling bytes now come opened))
        (unshown_going telling bytes now come opened)
        (λ known. record {
          source_at = IsSourceAt-then look.input old new history run takes at.source_at;
          live = live;
          so_far = now;
          holds = record { number = gave.number; reading = gave.reading; known = known };
          divides = come;
          few = few;
          sized = sized;
        }) (λ is. some) (λ may. refl))

    pub came : (by_blocks : Bool) (mid : Current) → mid.number ≡ current.number → (what : Found)
        → AfterJudge telling.limit by_blocks mid at.so_far.begun run what
        → WritesFound look.output look.report telling before after at.so_far knows next run what
        result
        → GivesProgress result
    came by_blocks mid numbered found.Part took gave =
        let few = at.few in
        went (with_bytes at.so_far run) (divided-append run)
        (omega (arith, length-append at.so_far.begun run, length-append history run))
        (omega (arith, at.sized, length-append at.so_far.begun run, length-append history run)) gave
    came by_blocks mid numbered found.Whole took gave =
        let few = at.few in
        let bundles = at.so_far.bundles in
        let bundle : BundleWithInfo = record { bytes = at.so_far.begun ++ run; info = gave.0 } in
        went (with_run at.so_far run (Some gave.0))
        (λ rest. divided-append run rest
        ∙ rw (
          divided_whole telling.limit bundle.bytes rest gave.0 took.0.front gave.1 took.0.within,
          append_assoc bundles (bundle ∷ []),
        ) refl)
        (omega (arith, length-append bundles (bundle ∷ []), length-append history run))
        (omega (
          arith,
          at.sized,
          size_with bundles bundle,
          length-append at.so_far.begun run,
          length-append history run,
        )) gave.2
    came by_blocks mid numbered (found.Refused fault) took gave =
        let bytes = history ++ run in
        let now = with_bytes at.so_far run in
        let made = told_refused telling bytes now (divided-append run) _ took.divides in
        let last = with_bytes at.so_far (before_last run) in
        subst GivesProgress (sym gave.1)
        (ends_so takes size (takes.window.less some) last (Some fault)
        (rw (made, took.is, numbered, at.holds.number) refl) gave.0 gave.2
        (inr (
          rw made took.lasts,
          told_same telling bytes now (divided-append run) _ took.divides,
          λ count less. unshown_going telling (history ++ take count run)
              (with_bytes at.so_far (take count run)) (divided-append (take count run)) (took.before count less),
        )))
