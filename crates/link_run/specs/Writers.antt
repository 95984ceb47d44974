-- What the calls of a run's writers write.
use Rattle.std.specs.Prelude.{◌≡◌, ℕ, ◌<◌, ◌≤◌, ◌⊎◌, true, List, [], length, take, Result, Ok, Err}
use Rattle.std.specs.Io.KnownBytes.{Appends}
use Rattle.link_wire.specs.Device.{Output}
use Rattle.link_wire.specs.declared.IoFault.{IoFault}
use Rattle.link_wire.specs.declared.IoFault.TheVariants as io
use Rattle.link_wire.specs.declared.{Source.Source, fault.Stop.Stop}
use Rattle.link_wire.specs.declared.fault.Stop.TheVariants as stop
use Rattle.link_report.specs.Fault.{fault_text}
use Rattle.link_report.specs.declared.fault.Fault.TheVariants.{Wire}
use Rattle.link_run.specs.Run.{Texts, DevicesInRun}
use Rattle.link_run.specs.declared.{run.Status.Status, writers.Writers.Writers}

-- a text for one of the two writers

-- a text that is written to the output, and none to the report
abbrev pub on_output : List ℕ → Texts
on_output text = record { output = text; report = [] }

-- a text that is written to the report, and none to the output
abbrev pub on_report : List ℕ → Texts
on_report text = record { output = []; report = text }

-- the line that is written next
abbrev pub next_line : {W E : Type 0} → Writers W E → List ℕ
next_line writers = writers.line.items

-- the state of a run's devices, from its source and its writers
abbrev pub place_of : {R W E : Type 0} → Source R → Writers W E → DevicesInRun R W E
place_of source writers =
    record { source = source; output = writers.output; report = writers.report }

module _ {W E : Type 0} (out_look : W → Output) (report_look : E → Output) where
  -- these texts were written, and no writer failed in the meantime
  pub record Writes (old new : Writers W E) (texts : Texts) : Type 0 where
    pub output : Appends (out_look old.output).written (out_look new.output).written texts.output
    pub report : Appends (report_look old.report).written
        (report_look new.report).written texts.report
    pub output_sound : (out_look new.output).failed ≡ (out_look old.output).failed
    pub report_sound : (report_look new.report).failed ≡ (report_look old.report).failed

  -- The output failed after the first `output_count` bytes of its text, which are not all of it.
  -- Nothing was written to the report, and the report did not fail.
  pub record LostOutput (old new : Writers W E) (texts : Texts)
      (output_count report_count : ℕ) : Type 0 where
    pub failed : (out_look new.output).failed ≡ true
    pub part : output_count < length texts.output
    pub none : report_count ≡ 0
    pub report_sound : (report_look new.report).failed ≡ (report_look old.report).failed

  -- The report failed after the first `report_count` bytes of its text, which are not all of it.
  -- The output did not fail. `output_count` is at least the length of its text, so all of that was
  -- written.
  pub record LostReport (old new : Writers W E) (texts : Texts)
      (output_count report_count : ℕ) : Type 0 where
    pub failed : (report_look new.report).failed ≡ true
    pub part : report_count < length texts.report
    pub whole : length texts.output ≤ output_count
    pub output_sound : (out_look new.output).failed ≡ (out_look old.output).failed

  -- A writer failed after a prefix of each of these texts was written. The output is written before
  -- the report.
  pub record FailedWrite (old new : Writers W E) (texts : Texts) (fault : IoFault) : Type 0 where
    pub kind : fault ≡ io.Write
    pub output_count : ℕ
    pub report_count : ℕ
    pub output : Appends (out_look old.output).written (out_look new.output).written
        (take output_count texts.output)
    pub report : Appends (report_look old.report).written (report_look new.report).written
        (take report_count texts.report)
    pub failed : LostOutput old new texts output_count report_count
        ⊎ LostReport old new texts output_count report_count

  -- these texts were written, or a writer failed while writing them
  abbrev pub AfterWrite : Writers W E → Writers W E → Texts → Result (Unit {0}) IoFault → Type 0
  AfterWrite old new texts (Ok done) = Writes old new texts
  AfterWrite old new texts (Err fault) = FailedWrite old new texts fault

  -- these texts were written, and the run ends with this status; or a writer failed
  abbrev pub AfterLastWrite : Writers W E → Writers W E → Texts → (status : ℕ)
      → Result Status IoFault → Type 0
  AfterLastWrite old new texts status (Ok ended) = Writes old new texts × (ended.0 ≡ status)
  AfterLastWrite old new texts status (Err fault) = FailedWrite old new texts fault

  -- A fault of the wire got its line in the report and the status 3, or a writer failed. Any other
  -- stop is returned as an error, and nothing was written.
  abbrev pub AfterStop : Stop → Writers W E → Writers W E → Result Status IoFault → Type 0
  AfterStop (stop.Wire offset fault) old new answer =
      AfterLastWrite old new (on_report (fault_text (Wire offset fault))) 3 answer
  AfterStop (stop.Io fault) old new answer = (answer ≡ Err fault) × (new ≡ old)

  -- A writer failed to hand on what was written, and no text was added. The output is handed on
  -- before the report.
  pub record FailedSettle (old new : Writers W E) (fault : IoFault) : Type 0 where
    pub kind : fault ≡ io.Write
    pub output : Appends (out_look old.output).written (out_look new.output).written []
    pub report : Appends (report_look old.report).written (report_look new.report).written []
    pub failed :
        (((out_look new.output).failed ≡ true) × (new.report ≡ old.report))
        ⊎ (((report_look new.report).failed ≡ true)
        × ((out_look new.output).failed ≡ (out_look old.output).failed))

  -- A call of `settle` added no text. Either no writer failed, or `FailedSettle` holds. Other
  -- clauses of `settle` state that everything written before was handed on.
  abbrev pub AfterSettle : Writers W E → Writers W E → Result (Unit {0}) IoFault → Type 0
  AfterSettle old new (Ok done) = Writes old new (on_output [])
  AfterSettle old new (Err fault) = FailedSettle old new fault
