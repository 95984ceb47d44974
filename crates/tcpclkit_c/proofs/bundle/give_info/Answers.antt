use Rattle.std.proofs.Common.{◌∙◌}
use Rattle.link_bundle.proofs.Pieces.{verdict_judged}
use Rattle.tcpclkit_c.proofs.bundle.give_info.Goals as goal

pub returns-in-Ok : goal.returns-in-Ok
returns-in-Ok c = λ bytes judged.
    let outcome = c.view.ensures.seen judged.seen judged.scanned ∙ verdict_judged _ _ judged in
    let shown = c.found-verdict.ensures bytes judged in
    rw (← outcome, c.in-Ok.is) (rw (shown, ← outcome, c.in-Ok.is) at c.give_good.ensures)

pub returns-in-Err : goal.returns-in-Err
returns-in-Err c = λ bytes judged.
    let same = verdict_judged _ _ judged in
    let outcome = c.view.ensures.seen judged.seen judged.scanned ∙ same in
    let shown = c.found-verdict.ensures bytes judged in
    let state = c.state.ensures.seen judged.seen judged.scanned in
    rw (← outcome, c.in-Err.is)
    (rw (shown, state, same, ← outcome, c.in-Err.is) at c.give_bad.ensures)
