use Rattle.std.proofs.Common.{refl}
use Rattle.link_ffi_tools.proofs.Runs.{ok_returned, err_returned}
use Rattle.link_ffi_tools.proofs.running.run_into.Goals as goal

pub returns-in-Ok : goal.returns-in-Ok
returns-in-Ok g c =
    let it = c.run_whole-ended.ensures in
    ok_returned _ _ _ it.output_text it.report_text _ _ _ _ it.output it.report c.in-Ok.status
    (rw c.from.ensures) c.texts_status.ensures (g.T.SliceTool.tool c.args.tool) c.args.bytes.now
    (rw c.in-Ok.is at it.wrote)

pub returns-in-Err : goal.returns-in-Err
returns-in-Err g c =
    let it = c.run_whole-ended.ensures in
    err_returned _ _ _ it.output_text it.report_text _ _ _ _ it.output it.report c.in-Err.field-0
    refl refl (g.T.SliceTool.tool c.args.tool) c.args.bytes.now (rw c.in-Err.is at it.wrote)
