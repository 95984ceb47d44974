-- A run over slices: it never fails, and what it has written is in its slices.
use Rattle.std.proofs.Common.{◌≡◌, ◌≤◌, ◌⊎◌, ◌==◌, Bool, if◌then◌else◌, ℕ, true, false, List, [], ◌++◌, length, Option, Some, None, Result, Ok, Err, refl, ap, sym, ◌∙◌, inl, inr, ⊎_elim, append-nil, append_assoc, length-append, arith}
use Rattle.link_run.specs.Run.{Tool, Texts, Looks, Devices, HasTakenAndWrittenAtEnd, FinishedRun, AfterRunAnswer}
use Rattle.link_run.specs.WholeRun.{devices_of}
use Rattle.link_run.specs.declared.run.{RunEnd.RunEnd, Status.Status}
use Rattle.link_tools.specs.Options.{AfterTool}
use Rattle.link_wire.specs.{Limits.longest_input, declared.IoFault.IoFault}
use Rattle.link_wire.specs.declared.IoFault.TheVariants.{Read, InputTooLong, Write, Memory}
use Rattle.link_ffi_numbers.specs.Status.{status_range, status_memory}
use Rattle.link_ffi_tools.specs.Options.{blocks_numbers, blocks_in_range, blocks_in, check_numbers, check_in_range, check_in}
use Rattle.link_ffi_tools.specs.Reading.{reading_tool}
use Rattle.link_ffi_tools.specs.Tool.{Slices, texts_status, blocks_tool_of, check_tool_of}
use Rattle.link_ffi_tools.specs.Run.{AfterSliceRun, IsWrittenOver, ReturnsTextsOrNothing}
use Rattle.link_ffi_tools.specs.declared.{reading.Reading.Reading}
use Rattle.link_ffi_tools.specs.declared.running.{Run.Run, Wants.Wants, Written.Written}
use Rattle.link_ffi_tools.proofs.Overlays.{holds_front, keeps_rest, overlaid_nothing}

-- ---- runs

-- what was written since: texts, and how the run of the tool over these bytes went
pub record RanTool (tool : Option Tool)
    (bytes output_start output_end report_start report_end : List ℕ)
    (answer : Result Status IoFault) : Type 0 where
  pub output : List ℕ
  pub report : List ℕ
  pub output_is : output_end ≡ output_start ++ output
  pub report_is : report_end ≡ report_start ++ report
  pub wrote : AfterSliceRun tool bytes output report answer

module _ {R W E : Type 0} (look : Looks R W E)
    (start : Devices R W E) (end : RunEnd R W E)
    (bytes left output_start output_end report_start report_end : List ℕ)
    (full : (look.input start.reader).left ≡ Some bytes)
    (rest : (look.input end.reader).left ≡ Some left)
    (had_output : (look.output start.output).written ≡ Some output_start)
    (has_output : (look.output end.output).written ≡ Some output_end)
    (had_report : (look.report start.report).written ≡ Some report_start)
    (has_report : (look.report end.report).written ≡ Some report_end)
    (sound_reader : (look.input end.reader).failed ≡ false)
    (sound_output : (look.output end.output).failed ≡ false)
    (sound_report : (look.report end.report).failed ≡ false)
    (short : length bytes ≤ longest_input) where
  module _ (tool : Tool) where
    bytes_are : (given : List ℕ) (texts : Texts) → HasTakenAndWrittenAtEnd look start (devices_of end) given texts
        → bytes ≡ given ++ left
    bytes_are given texts back = rw (full, rest) at back.takes

    finished : (given : List ℕ) (status : Status) → FinishedRun look tool start (devices_of end) given status
        → RanTool (Some tool) bytes output_start output_end report_start report_end (Ok status)
    finished given status run =
        let parts = bytes_are (given ++ run.ungiven) (tool.whole given).texts run.written in
        let same : tool.whole bytes ≡ tool.whole given = ⊎_elim
        (λ all. let none : left ≡ [] = rw rest at all.1 in
        rw (parts, none, all.0) (simp append-nil))
        (λ (stays : (more : List ℕ) → tool.whole (given ++ more) ≡ tool.whole given).
        rw (parts, append_assoc given run.ungiven left) (stays (run.ungiven ++ left)))
        run.settled in
        let output : output_end ≡ output_start ++ (tool.whole given).texts.output =
        rw (had_output, has_output) at run.written.writes in
        let report : report_end ≡ report_start ++ (tool.whole given).texts.report =
        rw (had_report, has_report) at run.written.reports in
        record {
          output = (tool.whole bytes).texts.output;
          report = (tool.whole bytes).texts.report;
          output_is = rw same output;
          report_is = rw same report;
          wrote = record { output_is = refl; report_is = refl; ends = rw same run.ends };
        }

    no_fault : (fault : IoFault) (given : List ℕ)
        → AfterRunAnswer look tool start (devices_of end) given (Err fault) → ⊥
    no_fault Read given run = cc (sound_reader, run.failed)
    no_fault InputTooLong given run =
        let parts = bytes_are (given ++ run.past) (tool.so_far given) run.written in
        omega (arith, simp length-append at (ap length parts), short, run.limit)
    no_fault Write given run = ⊎_elim (λ lost. cc (sound_output, lost.0))
        (λ lost. cc (sound_report, lost.0)) run.failed
    no_fault Memory given run = absurd run

    ran : (answer : Result Status IoFault) (given : List ℕ)
        → AfterRunAnswer look tool start (devices_of end) given answer
        → RanTool (Some tool) bytes output_start output_end report_start report_end answer
    ran (Ok status) given run = finished given status run
    ran (Err fault) given run = absurd (no_fault fault given run)

  -- the memory was refused
  lacked : (answer : Result Status IoFault) → answer ≡ Err Memory → devices_of end ≡ start
      → RanTool None bytes output_start output_end report_start report_end answer
  lacked (Ok status) is unchanged = let never : Ok status ≡ Err Memory = is in cc
  lacked (Err fault) is unchanged =
      let refused : Err fault ≡ Err Memory = is in
      let output : output_end ≡ output_start =
      cc (ap (λ (d : Devices R W E). (look.output d.output).written) unchanged, had_output, has_output) in
      let report : report_end ≡ report_start =
      cc (ap (λ (d : Devices R W E). (look.report d.report).written) unchanged, had_report, has_report) in
      record {
        output = [];
        report = [];
        output_is = rw append-nil output;
        report_is = rw append-nil report;
        wrote = record { no_output = refl; no_report = refl; lacks = cc };
      }

  -- a run of the tool, or of one that was refused its memory
  pub tool_ran : (tool : Option Tool) → AfterTool look tool start end
      → RanTool tool bytes output_start output_end report_start report_end end.answer
  tool_ran (Some tool) run = ran tool end.answer run.whole.given run.whole.gave
  tool_ran None run = lacked end.answer run.is run.unchanged

-- ---- what is returned of a run

-- a text is left in the slice of its writer
pub left_in : {text before old slice last : List ℕ} {written : Written} → before ≡ old → last ≡ slice
    → IsWrittenOver text before slice written → IsWrittenOver text old last written
left_in same_before same_slice left = rw (same_slice, ← same_before) left

module _ (wants : Wants) (old new : Slices) (output_text report_text : List ℕ)
    (output report : Written) (run : Run) (code : ℕ)
    (left_output : IsWrittenOver output_text old.output new.output output)
    (left_report : IsWrittenOver report_text old.report new.report report) where
  module _ (status : Status)
      (numbers : run ≡ record {
        exit_status = status.0;
        output_length = output.count;
        report_length = report.count;
      })
      (gives : code ≡ texts_status wants output.fits report.fits) where
    pub ok_returned : (tool : Option Tool) (bytes : List ℕ)
        → AfterSliceRun tool bytes output_text report_text (Ok status)
        → ReturnsTextsOrNothing tool bytes wants old new run code
    ok_returned None bytes wrote = absurd wrote
    ok_returned (Some tool) bytes wrote = record {
      output_front = rw (← wrote.output_is, left_output.slice_is) (holds_front _ output_text);
      output_rest = rw (← wrote.output_is, left_output.slice_is) (keeps_rest _ output_text);
      report_front = rw (← wrote.report_is, left_report.slice_is) (holds_front _ report_text);
      report_rest = rw (← wrote.report_is, left_report.slice_is) (keeps_rest _ report_text);
      output_length = rw (numbers, ← wrote.output_is) left_output.count;
      report_length = rw (numbers, ← wrote.report_is) left_report.count;
      exit = rw numbers wrote.ends;
      gives = rw (← wrote.output_is, ← wrote.report_is, ← left_output.fits, ← left_report.fits)
          gives;
    }

  module _ (fault : IoFault)
      (numbers : run ≡ record { exit_status = 0; output_length = 0; report_length = 0 })
      (gives : code ≡ status_memory) where
    pub err_returned : (tool : Option Tool) (bytes : List ℕ)
        → AfterSliceRun tool bytes output_text report_text (Err fault)
        → ReturnsTextsOrNothing tool bytes wants old new run code
    err_returned (Some tool) bytes wrote = absurd wrote
    err_returned None bytes wrote = record {
      no_output = rw (left_output.slice_is, wrote.no_output) (overlaid_nothing old.output);
      no_report = rw (left_report.slice_is, wrote.no_report) (overlaid_nothing old.report);
      numbers = numbers;
      gives = gives;
    }

-- ---- what the exports say of it

reading_tool-if : (test : Bool) (one other : Reading)
    → reading_tool (if test then one else other) ≡ (if test then reading_tool one else reading_tool other)
reading_tool-if true one other = refl
reading_tool-if false one other = refl

some_if : (test : Bool) (one other : Reading) → (if test then Some one else None) ≡ Some other
    → one ≡ other
some_if true one other is = cc is
some_if false one other is = cc is

-- the tool that the options of `blocks` ask for
pub blocks_are : (words : List ℕ) (reading : Reading) → blocks_in words ≡ Some reading
    → reading_tool reading ≡ blocks_tool_of (blocks_numbers words)
blocks_are words reading is =
    ap reading_tool (sym (some_if (blocks_in_range words) _ reading is))
    ∙ reading_tool-if ((blocks_numbers words).bundles == 1) _ _

-- the tool that the options of `check` ask for
pub check_is : (words : List ℕ) (reading : Reading) → check_in words ≡ Some reading
    → reading_tool reading ≡ check_tool_of (check_numbers words)
check_is words reading is =
    ap reading_tool (sym (some_if (check_in_range words) _ reading is))
    ∙ reading_tool-if ((check_numbers words).bundles == 1) _ _

-- a run returns no TCPCLKIT_RANGE
pub in_range : (tool : Option Tool) (bytes : List ℕ) (wants : Wants) (old new : Slices) (run : Run)
    (status : ℕ) → ReturnsTextsOrNothing tool bytes wants old new run status
    → status ≡ status_range → ⊥
in_range (Some tool) bytes wants old new run status gave is = grind (arith, gave.gives, is)
in_range None bytes wants old new run status gave is = omega (arith, gave.gives, is)
