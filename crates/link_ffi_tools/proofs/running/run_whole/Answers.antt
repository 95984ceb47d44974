use Rattle.std.proofs.Common.{◌≡◌, sym, ◌∙◌, rules}
use Rattle.link_ffi_tools.proofs.Runs.{left_in}
use Rattle.link_ffi_tools.proofs.running.run_whole.Goals as goal

-- Each writer still has its slice, so the last bytes of that are the writer's: the search finds it.
pub returns : goal.returns
returns g c =
    let ran = c.run_into_writers-answer in
    let output = ran.new.output in
    let report = ran.new.report in
    let output_before : output.history.before ≡ c.args.output.now =
    rw c.new-to_output.ensures.history at ran.ensures.output_before in
    let report_before : report.history.before ≡ c.args.report.now =
    rw c.new-to_report.ensures.history at ran.ensures.report_before in
    let same_output = sym (ran.ensures.output ∙ c.new-to_output.ensures.same_reference) in
    let same_report = sym (ran.ensures.report ∙ c.new-to_report.ensures.same_reference) in
    record {
      output_text = output.history.text;
      report_text = report.history.text;
      wrote = ran.ensures.run;
      output = left_in output_before (search (rules, same_output)) c.written_by.ensures;
      report = left_in report_before (search (rules, same_report)) c.written_by-2.ensures;
    }
