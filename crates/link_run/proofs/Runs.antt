-- How the texts of the steps make up the texts of a run, and how a run ends.
use Rattle.std.proofs.Common.{◌≡◌, ℕ, ◌+◌, min, ◌<◌, ◌≤◌, ◌⊎◌, inl, inr, true, false, List, [], ◌++◌, length, take, Option, Some, None, Result, Ok, Err, ⊎_elim, refl, ap, ap₂, sym, ◌∙◌, length-append, append-nil, append_assoc, take_all, arith}
use Rattle.std.proofs.{lemmas.Bool.false≢true, Math.Nat.min-le_right, Math.Seq.take-append-add}
use Rattle.std.proofs.lemmas.List.{take-append-le, take_min}
use Rattle.std.specs.Io.KnownBytes.{Consumes, Appends, prepend_known}
use Rattle.std.proofs.KnownBytes.{Consumes-trans, Appends-nil, Appends-trans}
use Rattle.link_io.proofs.Windows.{range_none}
use Rattle.link_wire.specs.{Device.{Input, Output}, Limits.window_size}
use Rattle.link_wire.specs.Source.{reader_of, window_of, ahead, Takes, TakesThenStops, IsOver}
use Rattle.link_wire.specs.declared.IoFault.{IoFault}
use Rattle.link_wire.specs.declared.IoFault.TheVariants as io
use Rattle.link_wire.specs.declared.Source.{Source}
use Rattle.link_run.specs.Run.{Texts, no_texts, ◌then◌, Tool, Looks, Devices, DevicesInRun, devices_at, NoneFailed, HasGivenAndWritten, HasTakenAndWrittenAtEnd, IsAllGiven, FinishedRun, AreDeterminedTexts, IsReportBehind, AfterRunAnswer}
use Rattle.link_run.specs.Writers.{place_of, on_output, Writes, FailedWrite, AfterWrite, FailedSettle}
use Rattle.link_run.specs.declared.{run.Status.Status, writers.Writers.Writers}

-- what is ahead is the window and then what the reader has left
Consumes-ahead : (window : List ℕ) (left : Option (List ℕ))
    → Consumes (prepend_known window left) left window
Consumes-ahead window None = tt
Consumes-ahead window (Some xs) = refl

-- texts are equal if their outputs and their reports are equal
pub texts_as : {p q : Texts} → p.output ≡ q.output → p.report ≡ q.report → p ≡ q
texts_as output report =
    let made : List ℕ → List ℕ → Texts = λ xs ys. record { output = xs; report = ys } in
    ap₂ made output report

pub then_assoc : (first second third : Texts) → first then (second then third) ≡ (first then second)
    then third
then_assoc first second third = texts_as (sym (append_assoc first.output second.output third.output)) (sym (append_assoc first.report second.report third.report))

pub then_none : (texts : Texts) → texts then no_texts ≡ texts
then_none texts = texts_as (append-nil texts.output) (append-nil texts.report)

-- The report of an input that ends in a fault has the line of that fault. If the bytes show the
-- fault, the texts that they determine have the line. Otherwise only the texts of the whole input
-- have it.
abbrev pub ReportsFaults : Tool → Type 0
ReportsFaults tool =
    (given : List ℕ) → (tool.whole given).status ≡ 3
    → ((tool.shows given ≡ true) × (tool.so_far given ≡ (tool.whole given).texts))
    ⊎ (length (tool.so_far given).report < length (tool.whole given).texts.report)

module _ {R W E : Type 0} (look : Looks R W E) where
  -- the devices as the run returns them; the bytes taken include those that were not given
  pub written_left : (start : Devices R W E) (now : DevicesInRun R W E) (bytes : List ℕ) (texts : Texts)
      → HasGivenAndWritten look start now bytes texts
      → HasTakenAndWrittenAtEnd look start (devices_at now) (bytes
      ++ window_of now.source) texts
  written_left start now bytes texts written = record {
    takes = Consumes-trans (look.input start.reader).left (ahead look.input now.source) (look.input (reader_of now.source)).left bytes (window_of now.source) written.takes (Consumes-ahead (window_of now.source) (look.input (reader_of now.source)).left);
    writes = written.writes;
    reports = written.reports;
  }

-- less than a window is left of an input that is over
pub few_over : {R : Type 0} (look : R → Input) (s : Source R) → IsOver look s
    → length (window_of s) < window_size
few_over look s over = omega (arith, ap length (range_none s.window s.start s.end over.ended.1))

-- a prefix of the bytes determines these texts
pub record IsWrittenAtPrefix (tool : Tool) (given : List ℕ) (texts : Texts) : Type 0 where
  pub front : List ℕ
  pub rest : List ℕ
  pub parts : given ≡ front ++ rest
  pub is : texts ≡ tool.so_far front

-- the texts written so far: the report is empty, or a prefix of the bytes determines them
abbrev pub IsWrittenSoFar : Tool → (given : List ℕ) → Texts → Type 0
IsWrittenSoFar tool given texts = (texts.report ≡ []) ⊎ IsWrittenAtPrefix tool given texts

module _ {R W E : Type 0} (look : Looks R W E) where
  pub written_as : {start : Devices R W E} {now : DevicesInRun R W E} {xs ys : List ℕ} {p q : Texts}
      → HasGivenAndWritten look start now xs p → xs ≡ ys → p ≡ q
      → HasGivenAndWritten look start now ys q
  written_as written bytes texts = rw (bytes, texts) at written

  -- bytes are given, and the texts written so far stay the same
  pub written_given : (start : Devices R W E) (old new : Source R) (w : Writers W E)
      (history bytes : List ℕ) (texts : Texts)
      → HasGivenAndWritten look start (place_of old w) history texts
      → Takes look.input old new bytes
      → HasGivenAndWritten look start (place_of new w) (history ++ bytes) texts
  written_given start old new w history bytes texts written takes = record {
    takes = Consumes-trans (look.input start.reader).left (ahead look.input old)
        (ahead look.input new) history bytes written.takes takes.next;
    count = omega (arith, written.count, takes.count, length-append history bytes);
    writes = written.writes;
    reports = written.reports;
  }

  -- texts are written, and nothing is given
  pub written_on : (start : Devices R W E) (s : Source R) (old new : Writers W E)
      (history : List ℕ) (before texts : Texts) {all : Texts}
      → HasGivenAndWritten look start (place_of s old) history before
      → Appends (look.output old.output).written (look.output new.output).written texts.output
      → Appends (look.report old.report).written (look.report new.report).written texts.report
      → before then texts ≡ all → HasGivenAndWritten look start (place_of s new) history all
  written_on start s old new history before texts written output report same =
      rw (← same) (record {
        takes = written.takes;
        count = written.count;
        writes = Appends-trans (look.output start.output).written (look.output old.output).written
            (look.output new.output).written before.output texts.output written.writes output;
        reports = Appends-trans (look.report start.report).written (look.report old.report).written
            (look.report new.report).written before.report texts.report written.reports report;
      })

  pub sound_given : (old new : Source R) (w : Writers W E) (bytes : List ℕ)
      → NoneFailed look (devices_at (place_of old w))
      → Takes look.input old new bytes
      → NoneFailed look (devices_at (place_of new w))
  sound_given old new w bytes sound takes = record { reader = takes.device ∙ sound.reader; output = sound.output; report = sound.report }

  pub sound_written : (s : Source R) (old new : Writers W E) (texts : Texts)
      → NoneFailed look (devices_at (place_of s old))
      → Writes look.output look.report old new texts
      → NoneFailed look (devices_at (place_of s new))
  sound_written s old new texts sound writes = record { reader = sound.reader; output = writes.output_sound ∙ sound.output; report = writes.report_sound ∙ sound.report }

  -- ---- how a run ends

  -- all of the input was given
  pub all_given : (s : Source R) (w : Writers W E) → IsOver look.input s
      → IsAllGiven look (devices_at (place_of s w)) (window_of s)
  all_given s w over = (range_none s.window s.start s.end over.ended.1, over.empty)

  -- the run has written the texts of the whole input
  pub answered : (tool : Tool) (start : Devices R W E) (s : Source R) (w : Writers W E)
      (given : List ℕ) (status : Status)
      → HasGivenAndWritten look start (place_of s w) given (tool.whole given).texts
      → NoneFailed look (devices_at (place_of s w))
      → status.0 ≡ (tool.whole given).status
      → IsAllGiven look (devices_at (place_of s w)) (window_of s)
      ⊎ ((more : List ℕ) → tool.whole (given ++ more) ≡ tool.whole given)
      → length (window_of s) < window_size
      → FinishedRun look tool start (devices_at (place_of s w)) given status
  answered tool start s w given status written sound ends settled few = record {
    ungiven = window_of s;
    few = few;
    written = written_left look start (place_of s w) given (tool.whole given).texts written;
    sound = sound;
    ends = ends;
    settled = settled;
  }

  -- if the output failed, no line of the report is about bytes that the output lacks
  behind : (tool : Tool) (given : List ℕ) (before : Texts) (output report : ℕ)
      → IsWrittenSoFar tool given before → report ≡ 0
      → ((length before.report + report ≡ 0)
      ⊎ IsReportBehind tool given (length before.output + output) (length before.report + report))
  behind tool given before output report stood none =
      ⊎_elim
      (λ empty. inl (let no_report = ap length empty in omega arith))
      (λ at. inr (record {
        front = at.front;
        rest = at.rest;
        parts = at.parts;
        output = let size = ap (λ (t : Texts). length t.output) at.is in omega arith;
        report = let size = ap (λ (t : Texts). length t.report) at.is in omega arith;
      }))
      stood

  -- if a text that is due is incomplete and the input ends in a fault, a whole text is incomplete
  lacking : (tool : Tool) (now : Devices R W E) (given ungiven : List ℕ) (due : Texts)
      (output report : ℕ) → ReportsFaults tool
      → AreDeterminedTexts look tool now given ungiven due
      → report ≤ length due.report → (output < length due.output) ⊎ (report < length due.report)
      → (tool.whole given).status ≡ 3
      → (output < length (tool.whole given).texts.output)
      ⊎ (report < length (tool.whole given).texts.report)
  lacking tool now given ungiven due output report faults (inl is) most less is_fault =
      ⊎_elim
      (λ shown. rw (is, shown.1) at less)
      (λ more. inr (omega (arith, more, ap (λ (t : Texts). length t.report) is)))
      (faults given is_fault)
  lacking tool now given ungiven due output report faults (inr is) most less is_fault =
      rw is.1 at less

  -- a writer failed in the middle of texts that are due
  pub writer_lost : (tool : Tool) → ReportsFaults tool → (start : Devices R W E) (s : Source R)
      (old new : Writers W E) (given : List ℕ) (before texts due : Texts) (fault : IoFault)
      → HasGivenAndWritten look start (place_of s old) given before
      → NoneFailed look (devices_at (place_of s old))
      → before then texts ≡ due
      → AreDeterminedTexts look tool (devices_at (place_of s new)) given (window_of s)
      due
      → length (window_of s) < window_size → (0 < length texts.output → IsWrittenSoFar tool given before)
      → FailedWrite look.output look.report old new texts fault
      → AfterRunAnswer look tool start (devices_at (place_of s new)) given
      (Err fault)
  writer_lost tool faults start s old new given before texts due fault written sound same are_due few stood part =
      let front : Texts = record {
        output = take part.output_count texts.output;
        report = take part.report_count texts.report;
      } in
      let output = length before.output + part.output_count in
      let report = length before.report + part.report_count in
      let outputs : length due.output ≡ length before.output + length texts.output = ap (λ (t : Texts). length t.output) (sym same) ∙ length-append before.output texts.output in
      let reports : length due.report ≡ length before.report + length texts.report = ap (λ (t : Texts). length t.report) (sym same) ∙ length-append before.report texts.report in
      let cut : before then front
      ≡ record { output = take output due.output; report = take report due.report } =
      texts_as
      (sym (ap (λ (t : Texts). take output t.output) (sym same) ∙ take-append-add before.output texts.output part.output_count))
      (sym (ap (λ (t : Texts). take report t.report) (sym same) ∙ take-append-add before.report texts.report part.report_count)) in
      let cut_off =
      written_on start s old new given before front written part.output part.report cut in
      rw part.kind (record {
        ungiven = window_of s;
        few = few;
        due = due;
        are_due = are_due;
        output_count = output;
        report_count = report;
        written = written_left look start (place_of s new) given _ cut_off;
        reader = sound.reader;
        failed = ⊎_elim
            (λ lost. let less = lost.part in inl (lost.failed, lost.report_sound ∙ sound.report, behind tool given before part.output_count part.report_count (stood (omega arith)) lost.none))
            (λ lost. let whole = lost.whole in inr (lost.failed, lost.output_sound ∙ sound.output, omega arith))
            part.failed;
        unended = λ shown. ⊎_elim
            (λ lost. let less = lost.part in inl (omega arith))
            (λ lost. let less = lost.part in inr (lost.failed, omega arith))
            part.failed;
        unreported = λ all. lacking tool (devices_at (place_of s new)) given (window_of s) due output report faults are_due
            (⊎_elim (λ lost. let none = lost.none in omega arith) (λ lost. let less = lost.part in omega arith) part.failed)
            (⊎_elim (λ lost. let less = lost.part in inl (omega arith)) (λ lost. let less = lost.part in inr (omega arith)) part.failed);
      })

  -- a writer failed to hand on what was written
  pub settle_lost : (tool : Tool) → ReportsFaults tool → (start : Devices R W E) (s : Source R)
      (old new : Writers W E) (given : List ℕ) (fault : IoFault)
      → HasGivenAndWritten look start (place_of s old) given (tool.so_far given)
      → NoneFailed look (devices_at (place_of s old))
      → tool.shows given ≡ false → length (window_of s) < window_size
      → FailedSettle look.output look.report old new fault
      → AfterRunAnswer look tool start (devices_at (place_of s new)) given
      (Err fault)
  settle_lost tool faults start s old new given fault written sound unshown few part =
      let due = tool.so_far given in
      let all : due then no_texts ≡ record { output = take (length due.output) due.output; report = take (length due.report) due.report } =
      then_none due ∙ texts_as (sym (take_all (length due.output) due.output (omega arith))) (sym (take_all (length due.report) due.report (omega arith))) in
      rw part.kind (record {
        ungiven = window_of s;
        few = few;
        due = due;
        are_due = inl refl;
        output_count = length due.output;
        report_count = length due.report;
        written = written_left look start (place_of s new) given _
            (written_on start s old new given due no_texts written part.output part.report all);
        reader = sound.reader;
        failed = ⊎_elim
            (λ is. inl (is.0, ap (λ e. (look.report e).failed) is.1 ∙ sound.report, inr (record { front = given; rest = []; parts = sym (append-nil given); output = omega arith; report = omega arith })))
            (λ is. inr (is.0, is.1 ∙ sound.output, omega arith))
            part.failed;
        unended = λ shown. absurd (cc);
        unreported = λ all is. ⊎_elim (λ shown. absurd (false≢true (sym unshown ∙ shown.0))) (λ more. inr more) (faults given is);
      })

  -- the source stopped after some bytes, and what is due was written
  pub reader_lost : (tool : Tool) (start : Devices R W E) (old new : Source R) (w : Writers W E)
      (history given : List ℕ) (texts : Texts) (fault : IoFault)
      → HasGivenAndWritten look start (place_of old w) history texts
      → NoneFailed look (devices_at (place_of old w))
      → texts ≡ tool.so_far (history ++ given) → tool.shows (history ++ given) ≡ false
      → TakesThenStops look.input old new given fault
      → AfterRunAnswer look tool start (devices_at (place_of new w))
      (history ++ given) (Err fault)
  reader_lost tool start old new w history given texts io.Read written sound due unshown stops =
      let none : given ++ stops.past ≡ given = rw stops.cause.0 (append-nil given) in
      record {
        unshown = unshown;
        written = record {
          takes = rw none at (Consumes-trans (look.input start.reader).left (ahead look.input old) (look.input new.reader).left history (given ++ stops.past) written.takes stops.next);
          writes = rw due at written.writes;
          reports = rw due at written.reports;
        };
        failed = stops.cause.1;
        output = sound.output;
        report = sound.report;
      }
  reader_lost tool start old new w history given texts io.InputTooLong written sound due unshown stops =
      let before = written.count in
      let count = stops.count in
      let limit = stops.cause.1 in
      record {
        unshown = unshown;
        past = stops.past;
        few = stops.cause.0;
        limit = omega (arith, length-append history given);
        written = record {
          takes = rw (← append_assoc history given stops.past) at (Consumes-trans (look.input start.reader).left (ahead look.input old) (look.input new.reader).left history (given ++ stops.past) written.takes stops.next);
          writes = rw due at written.writes;
          reports = rw due at written.reports;
        };
        reader = stops.device refl ∙ sound.reader;
        output = sound.output;
        report = sound.report;
      }
  reader_lost tool start old new w history given texts fault written sound due unshown stops =
      absurd stops.cause

-- a prefix of a text is also a prefix of that text with more after it
take_less : (count : ℕ) (text more : List ℕ)
    → take count text ≡ take (min count (length text)) (text ++ more)
take_less count text more = sym (take-append-le (min count (length text)) text more (min-le_right count (length text)) ∙ take_min count text)

module _ {W E : Type 0} (out_look : W → Output) (report_look : E → Output) where
  -- A writer failed in `texts`, before `more` was begun. If `texts` has a report, `more` has no
  -- output.
  pub part_of_more : (old new : Writers W E) (texts more : Texts) (fault : IoFault)
      → (0 < length texts.report → more.output ≡ [])
      → FailedWrite out_look report_look old new texts fault
      → FailedWrite out_look report_look old new (texts then more) fault
  part_of_more old new texts more fault same part = record {
    kind = part.kind;
    output_count = min part.output_count (length texts.output);
    report_count = min part.report_count (length texts.report);
    output = rw (← take_less part.output_count texts.output more.output) part.output;
    report = rw (← take_less part.report_count texts.report more.report) part.report;
    failed = ⊎_elim
        (λ lost. inl (
        let less = lost.part in
        let none = lost.none in
        record { failed = lost.failed; part = omega (arith, length-append texts.output more.output); none = omega arith; report_sound = lost.report_sound }))
        (λ lost. inr (
        let less = lost.part in
        let whole = lost.whole in
        let no_more = ap length (same (omega arith)) in
        record { failed = lost.failed; part = omega (arith, length-append texts.report more.report); whole = omega (arith, length-append texts.output more.output); output_sound = lost.output_sound }))
        part.failed;
  }

  pub writes_none : (writers : Writers W E) → Writes out_look report_look writers writers no_texts
  writes_none writers = record {
    output = Appends-nil (out_look writers.output).written;
    report = Appends-nil (report_look writers.report).written;
    output_sound = refl;
    report_sound = refl;
  }

  pub writes_then : (old mid new : Writers W E) (first second : Texts)
      → Writes out_look report_look old mid first → Writes out_look report_look mid new second
      → Writes out_look report_look old new (first then second)
  writes_then old mid new first second one two = record {
    output = Appends-trans (out_look old.output).written (out_look mid.output).written (out_look new.output).written first.output second.output one.output two.output;
    report = Appends-trans (report_look old.report).written (report_look mid.report).written (report_look new.report).written first.report second.report one.report two.report;
    output_sound = two.output_sound ∙ one.output_sound;
    report_sound = two.report_sound ∙ one.report_sound;
  }

  -- a text was written to the output, and then a writer failed in further texts
  pub part_behind : (old mid new : Writers W E) (first : List ℕ) (second : Texts) (fault : IoFault)
      → Writes out_look report_look old mid (on_output first)
      → FailedWrite out_look report_look mid new second fault
      → FailedWrite out_look report_look old new (on_output first then second) fault
  part_behind old mid new first second fault one part = record {
    kind = part.kind;
    output_count = length first + part.output_count;
    report_count = part.report_count;
    output = rw take-append-add (Appends-trans (out_look old.output).written (out_look mid.output).written (out_look new.output).written first (take part.output_count second.output) one.output part.output);
    report = Appends-trans (report_look old.report).written (report_look mid.report).written (report_look new.report).written [] (take part.report_count second.report) one.report part.report;
    failed = ⊎_elim
        (λ lost. inl (let less = lost.part in record { failed = lost.failed; part = omega (arith, length-append first second.output); none = lost.none; report_sound = lost.report_sound ∙ one.report_sound }))
        (λ lost. inr (let whole = lost.whole in record { failed = lost.failed; part = lost.part; whole = omega (arith, length-append first second.output); output_sound = lost.output_sound ∙ one.output_sound }))
        part.failed;
  }

  -- a text was written to the output, and then others, or a writer failed in these
  pub output_then : (old mid new : Writers W E) (first : List ℕ) (second : Texts)
      (result : Result (Unit {0}) IoFault)
      → Writes out_look report_look old mid (on_output first)
      → AfterWrite out_look report_look mid new second result
      → AfterWrite out_look report_look old new (on_output first then second) result
  output_then old mid new first second (Ok done) one two =
      writes_then old mid new (on_output first) second one two
  output_then old mid new first second (Err fault) one part =
      part_behind old mid new first second fault one part

module _ {W E : Type 0} (out_look : W → Output) (report_look : E → Output) (old mid new : Writers W E) where
  -- a text was written to the output, and then another, or a writer failed in it
  pub outputs_then : (first second : List ℕ) (result : Result (Unit {0}) IoFault)
      → Writes out_look report_look old mid (on_output first)
      → AfterWrite out_look report_look mid new (on_output second) result
      → AfterWrite out_look report_look old new (on_output (first ++ second)) result
  outputs_then first second =
      output_then out_look report_look old mid new first (on_output second)
