use Rattle.std.proofs.lemmas.Result.{err_from_is_err_and}
use Rattle.link_run.proofs.Runs.{outputs_then}
use Rattle.link_tool_pack.proofs.Sending.{part_more}
use Rattle.link_tool_pack.proofs.segments.write_long.Goals as goal

pub returns-in_err-write_text : goal.returns-in_err-write_text
returns-in_err-write_text g c =
    let exit = err_from_is_err_and c.from_residual.result c.from_residual.ensures.1 in
    rw (exit.1, exit.2) (record {
      gives = part_more _ _ _ _ _ c.args.head.now.chunk.now _ c.in_err-write_text.ensures.gives;
    })

pub returns : goal.returns
returns g c = record {
  gives = outputs_then _ _ _ _ _ _ _ _
      c.in_ok-write_text.ensures.gives c.write_output.ensures.gives;
}
