use Rattle.std.proofs.Common.{◌∙◌}
use Rattle.link_tool_check.proofs.Closed.{length_are, of_data, of_length}
use Rattle.link_tool_check.proofs.Writing.{part_written, then_written}
use Rattle.link_tool_check.proofs.transfer.CheckedTransfer.write_closed.Goals as goal

pub returns-in-Err : goal.returns-in-Err
returns-in-Err g c = λ begun checks.
    let own = c.args.own.now in
    let are = length_are own begun c.args.self.now c.doubt.result c.as_slice.result.now checks
    (c.doubt.ensures own begun checks)
    (c.as_slice.ensures.value ∙ c.rules-rules.ensures begun.first checks.opening) in
    part_written (of_length own begun) (of_data own begun c.args.sender.now)
    (rw are at c.in-Err.ensures)

pub returns : goal.returns
returns g c = λ begun checks.
    let own = c.args.own.now in
    let are = length_are own begun c.args.self.now c.doubt.result c.as_slice.result.now checks
    (c.doubt.ensures own begun checks)
    (c.as_slice.ensures.value ∙ c.rules-rules.ensures begun.first checks.opening) in
    then_written (of_length own begun) (of_data own begun c.args.sender.now)
    (rw are at c.in_default.ensures) (c.write_data.ensures begun checks)
