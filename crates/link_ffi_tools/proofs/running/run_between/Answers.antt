use Rattle.std.proofs.Common.{◌≡◌, ℕ, List, ◌++◌, Some, false, refl, ap, ◌∙◌, arith}
use Rattle.link_run.specs.Run.{looks, Devices}
use Rattle.link_wire.specs.Device.{Input, Output}
use Rattle.link_ffi_tools.specs.{Slice.labelled, declared.device.SliceReader.SliceReader}
use Rattle.link_ffi_tools.specs.declared.device.SliceWriter.{SliceWriter}
use Rattle.link_ffi_tools.proofs.{Overlays.labels_are, Runs.{RanTool, tool_ran}}
use Rattle.link_ffi_tools.proofs.running.run_between.Given.{Over}
use Rattle.link_ffi_tools.proofs.running.run_between.Goals as goal

abbrev reader_look : SliceReader → Input
reader_look reader = record { left = Some reader.left.now; failed = false; held = reader.left.now }

abbrev text_of : SliceWriter → List ℕ
text_of writer = labelled writer.room.ghost_name writer.history.before writer.history.text

abbrev writer_look : SliceWriter → Output
writer_look writer =
    record { written = Some (text_of writer); failed = false; handed = Some (text_of writer) }

ran : (g : Over) (c : goal.After-run g) → RanTool (g.T.SliceTool.tool c.args.tool) c.args.bytes.now
    (text_of c.args.output) (text_of c.run.result.output)
    (text_of c.args.report) (text_of c.run.result.report) c.run.result.answer
ran g c =
    let end = c.run.result in
    let start : Devices SliceReader SliceWriter SliceWriter =
    record { reader = c.new.result; output = c.args.output; report = c.args.report } in
    tool_ran (looks reader_look writer_look writer_look) start end c.args.bytes.now _ _ _ _ _
    (ap (λ (state : Input). state.left) c.new.ensures) refl refl refl refl refl refl refl refl
    (omega arith) (g.T.SliceTool.tool c.args.tool) c.run.ensures

pub returns : goal.returns
returns g c =
    let it = ran g c in
    let end = c.run.result in
    let output = labels_are _ _ _ _ _ _ _ it.output_is in
    let report = labels_are _ _ _ _ _ _ _ it.report_is in
    let output_text : end.output.history.text ≡ it.output =
    output.2 ∙ ap (λ (text : List ℕ). text ++ it.output) c.requires.no_output in
    let report_text : end.report.history.text ≡ it.report =
    report.2 ∙ ap (λ (text : List ℕ). text ++ it.report) c.requires.no_report in
    record {
      output = output.0;
      output_before = output.1;
      report = report.0;
      report_before = report.1;
      run = rw (← output_text, ← report_text) at it.wrote;
    }
