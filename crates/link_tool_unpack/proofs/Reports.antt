-- A text is written, and then another to the report.
use Rattle.std.proofs.Common.{ℕ, ◌+◌, Result, Ok, Err, List, [], ◌++◌, length, take, ⊎_elim, inr, refl, ◌∙◌, length-append, arith}
use Rattle.std.proofs.{Math.Seq.take-append-add, KnownBytes.Appends-trans}
use Rattle.link_wire.specs.{Device.Output, declared.IoFault.IoFault}
use Rattle.link_run.specs.Run.{◌then◌}
use Rattle.link_run.specs.Writers.{on_output, on_report, Writes, FailedWrite, AfterWrite}
use Rattle.link_run.specs.declared.writers.Writers.{Writers}
use Rattle.link_run.proofs.Runs.{part_of_more, writes_then}

module _ {W E : Type 0} (out_look : W → Output) (report_look : E → Output) where
  -- the first was not written whole
  pub reports_part : (old new : Writers W E) (first second : List ℕ) (fault : IoFault)
      → FailedWrite out_look report_look old new (on_report first) fault
      → FailedWrite out_look report_look old new (on_report (first ++ second)) fault
  reports_part old new first second fault part =
      part_of_more out_look report_look old new (on_report first) (on_report second) fault
      (λ some. refl) part

  pub reports_then : (old mid new : Writers W E) (first second : List ℕ)
      (result : Result (Unit {0}) IoFault)
      → Writes out_look report_look old mid (on_report first)
      → AfterWrite out_look report_look mid new (on_report second) result
      → AfterWrite out_look report_look old new (on_report (first ++ second)) result
  reports_then old mid new first second (Ok done) one two =
      writes_then out_look report_look old mid new (on_report first) (on_report second) one two
  reports_then old mid new first second (Err fault) one part = record {
    kind = part.kind;
    output_count = part.output_count;
    report_count = length first + part.report_count;
    output = Appends-trans (out_look old.output).written (out_look mid.output).written
        (out_look new.output).written [] (take part.output_count []) one.output part.output;
    report = rw take-append-add
        (Appends-trans (report_look old.report).written (report_look mid.report).written
        (report_look new.report).written first (take part.report_count second) one.report part.report);
    failed = ⊎_elim
        (λ lost. let less = lost.part in absurd (omega arith))
        (λ lost. inr (
        let less = lost.part in
        let whole = lost.whole in
        record {
          failed = lost.failed;
          part = omega (arith, length-append first second);
          whole = whole;
          output_sound = lost.output_sound ∙ one.output_sound;
        }))
        part.failed;
  }

  -- the same, if the first goes to the output
  pub output_part : (old new : Writers W E) (first second : List ℕ) (fault : IoFault)
      → FailedWrite out_look report_look old new (on_output first) fault
      → FailedWrite out_look report_look old new (on_output first then on_report second) fault
  output_part old new first second fault part =
      part_of_more out_look report_look old new (on_output first) (on_report second) fault
      (λ some. refl) part
