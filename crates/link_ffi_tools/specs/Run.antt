-- Relations: what a run of a whole tool over a slice, into two slices, has written, and what is
-- returned.
use Rattle.std.specs.Prelude.{◌≡◌, ℕ, ◌^◌, ◌-◌, nat_le, min, List, [], length, Option, Some, None, Result, Ok, Err}
use Rattle.link_run.specs.Run.{Tool, Outcome}
use Rattle.link_run.specs.declared.run.Status.{Status}
use Rattle.link_wire.specs.declared.IoFault.{IoFault}
use Rattle.link_wire.specs.declared.IoFault.TheVariants as io
use Rattle.link_ffi_tools.specs.Slice.{overlaid}
use Rattle.link_ffi_tools.specs.Tool.{Slices, ReturnsTexts, ReturnsNothing}
use Rattle.link_ffi_tools.specs.declared.running.Ended.{Ended}
use Rattle.link_ffi_tools.specs.declared.running.Run.{Run}
use Rattle.link_ffi_tools.specs.declared.running.Wants.{Wants}
use Rattle.link_ffi_tools.specs.declared.running.Written.{Written}

-- ---- how the run has gone

-- these are the two texts of the outcome, and the run ended with its status
pub record FinishedTexts (whole : Outcome) (output report : List ℕ) (status : Status) : Type 0 where
  pub output_is : output ≡ whole.texts.output
  pub report_is : report ≡ whole.texts.report
  pub ends : status.0 ≡ whole.status

-- no text was written, since the request for memory was refused
pub record RefusedMemory (output report : List ℕ) (fault : IoFault) : Type 0 where
  pub no_output : output ≡ []
  pub no_report : report ≡ []
  pub lacks : fault ≡ io.Memory

-- What a run of the tool over these bytes has written. No device failed, so the run has an exit
-- status. If the tool is `None`, its request for memory was refused.
abbrev pub AfterSliceRun : Option Tool → (bytes output report : List ℕ) → Result Status IoFault
    → Type 0
AfterSliceRun (Some tool) bytes output report (Ok status) =
    FinishedTexts (tool.whole bytes) output report status
AfterSliceRun (Some tool) bytes output report (Err fault) = ⊥
AfterSliceRun None bytes output report (Ok status) = ⊥
AfterSliceRun None bytes output report (Err fault) = RefusedMemory output report fault

-- The text was written to the start of a slice, as far as it fits. The slice contained `before`,
-- and now it contains `slice`. `written` says how long the whole text is, up to 2^64 - 1, and
-- whether all of it fits.
pub record IsWrittenOver (text before slice : List ℕ) (written : Written) : Type 0 where
  pub slice_is : slice ≡ overlaid before text
  pub count : written.count ≡ min (length text) (2 ^ 64 - 1)
  pub fits : written.fits ≡ nat_le (length text) (length slice)

-- A run of the tool over `bytes` has written these two texts to the slices. `ended` contains its
-- exit status or the refusal of memory, and what was written to each slice.
pub record RunsIntoSlices (tool : Option Tool) (bytes : List ℕ) (old new : Slices)
    (ended : Ended) : Type 0 where
  pub output_text : List ℕ
  pub report_text : List ℕ
  pub wrote : AfterSliceRun tool bytes output_text report_text ended.answer
  pub output : IsWrittenOver output_text old.output new.output ended.output
  pub report : IsWrittenOver report_text old.report new.report ended.report

-- ---- what a call returns

-- what a run of the tool has returned; if the tool is `None`, its request for memory was refused
abbrev pub ReturnsTextsOrNothing : Option Tool → List ℕ → Wants → (old new : Slices) → Run → ℕ
    → Type 0
ReturnsTextsOrNothing (Some tool) bytes wants old new run status =
    ReturnsTexts (tool.whole bytes) wants old new run status
ReturnsTextsOrNothing None bytes wants old new run status = ReturnsNothing old new run status
