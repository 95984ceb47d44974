use Rattle.std.proofs.{Common.sym, lemmas.Result.err_from_is_err_and}
use Rattle.link_tool_pack.proofs.Sending.{sent_more, sent_part, sent_all}
use Rattle.link_tool_pack.proofs.segments.write_segments.Goals as goal

pub loop-cut-preserved : goal.loop-cut-preserved
loop-cut-preserved g c = λ so_far at.
    let some = c.loop-cut.invariant so_far at in
    let next = c.in-Some.ensures.after some.now some.at in
    sent_more _ _ some _ _ _ _ (sym (c.in-Some.ensures.cut some.now some.at))
    (c.bytes.ensures _ next) next c.in_ok-write_segment.ensures.gives

pub returns-in_err-write_segment-clause-gives : goal.returns-in_err-write_segment-clause-gives
returns-in_err-write_segment-clause-gives g c = λ so_far at.
    let some = c.loop-cut.invariant so_far at in
    let next = c.in-Some.ensures.after some.now some.at in
    let exit = err_from_is_err_and c.from_residual.result c.from_residual.ensures.1 in
    rw (exit.1, exit.2)
    (sent_part _ _ some _ _ _ _ (sym (c.in-Some.ensures.cut some.now some.at))
    (c.bytes.ensures _ next) _ c.in_err-write_segment.ensures.gives)

pub returns-clause-gives : goal.returns-clause-gives
returns-clause-gives g c = λ so_far at.
    let all = c.loop-cut.invariant so_far at in
    sent_all _ _ all _ (sym (c.in_default.ensures.cut all.now all.at))
    (c.in_default.ensures.after all.now all.at)
