use Rattle.link_transfer.specs.Cutting.{with_bytes}
use Rattle.link_tool_pack.proofs.Sending.{run_pushed, one_sent}
use Rattle.link_tool_pack.proofs.segments.write_run.Goals as goal

pub returns-in-Some-clause-gives : goal.returns-in-Some-clause-gives
returns-in-Some-clause-gives g c = λ so_far at few.
    one_sent (c.in-Some.ensures.cut so_far at) (c.in-Some.ensures.chunk so_far at)
    (c.in-Some.ensures.after so_far at) c.in-Some.ensures.quiet c.write_segment.ensures.gives

pub returns-in-None-clause-gives : goal.returns-in-None-clause-gives
returns-in-None-clause-gives g c = λ so_far at few.
    let whole = rw c.in-None.ensures.none at c.push_slice.ensures.whole in
    let pushed = rw c.in-None.ensures.none at c.push_slice.ensures.pushed in
    c.write_segments.ensures.gives (with_bytes c.args.run.now c.args.last so_far)
    (run_pushed _ so_far _ _ _ (whole few) (pushed so_far at))
