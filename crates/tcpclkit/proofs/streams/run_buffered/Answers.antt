use Rattle.std.proofs.Common.{◌≡◌, not, ◌&&◌, ap, sym, ◌∙◌, refl}
use Rattle.tcpclkit.specs.Ending.{answer_after_flush}
use Rattle.tcpclkit.proofs.streams.run_buffered.Goals as goal
use Rattle.tcpclkit.proofs.streams.run_buffered.Goals.{then-not-failed, else-not-failed}

pub returns : goal.returns
returns g c =
    let flushed : c.if-not-failed.flushed ≡ (not c.handed_on-output.result.failed && not c.handed_on_after-report.result.failed) =
    elim c.if-not-failed.branch [
      | then-not-failed w ↦ rw (w.flushed-is, w.failed-then-not-failed.ensures, sym c.failed.ensures ∙ w.if-not-failed.true) refl
      | else-not-failed w ↦ rw (w.flushed-is, w.if-not-failed.false, sym c.failed.ensures ∙ w.if-not-failed.false) refl
    ] in
    let end = c.run_tool-end.result in
    let parts = c.into_parts-input.ensures in
    record {
      end = end;
      run = c.run_tool-end.ensures;
      log = parts.ran;
      reads = parts.reader;
      writes = rw parts.output at c.handed_on-output.ensures;
      reports = rw parts.report at c.handed_on_after-report.ensures;
      answers = c.after_flush.ensures ∙ rw parts.answer (ap (λ b. answer_after_flush end.answer b) flushed);
    }
