use Rattle.std.proofs.Common.{arith}
use Rattle.link_bundle_blocks.specs.Blocks.{viewed_primary}
use Rattle.link_report_blocks.specs.Blocks.{primary_start_text, primary_rest_text, primary_text}
use Rattle.link_run.specs.Writers.{on_output}
use Rattle.link_run.proofs.Runs.{outputs_then, part_of_more}
use Rattle.link_tool_blocks.proofs.block_lines.write_primary.Goals as goal

pub returns-in-Err : goal.returns-in-Err
unfolding primary_text
returns-in-Err g c =
    part_of_more _ _ _ _
    (on_output (primary_start_text c.args.id (viewed_primary c.args.block.now) c.args.block.now.check c.args.block.now.end))
    (on_output (primary_rest_text (viewed_primary c.args.block.now))) c.in-Err.fault
    (λ some. absurd (omega arith)) c.in-Err.ensures.gives

pub returns : goal.returns
unfolding primary_text
returns g c =
    outputs_then _ _ _ _ _ _ _ _ c.in_default.ensures.gives c.write_text-2.ensures.gives
