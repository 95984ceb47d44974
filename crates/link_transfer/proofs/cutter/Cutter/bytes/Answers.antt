use Rattle.std.proofs.{Common.{◌≡◌, ◌<◌, length, ap, ◌∙◌, arith}, lemmas.Bool.Decides.nat_tests}
use Rattle.link_transfer.specs.Cutting.{uncut, shown}
use Rattle.link_transfer.proofs.Steps.{shown_left, shown_chunk}
use Rattle.link_transfer.proofs.cutter.Cutter.bytes.Goals as goal

pub returns-then-is_empty : goal.returns-then-is_empty
unfolding shown
returns-then-is_empty c = λ so_far at.
    let given = c.args.self.now.held.given in
    let none : length given ≡ 0 = grind (arith, nat_tests, ap length c.given-given.ensures) in
    c.bytes.ensures ∙ at.held ∙ shown_left so_far.chunk given (uncut so_far) at.chunk none

pub returns-else-is_empty : goal.returns-else-is_empty
unfolding shown
returns-else-is_empty c = λ so_far at.
    let given = c.args.self.now.held.given in
    let some : 0 < length given = grind (arith, nat_tests, ap length c.given-given.ensures) in
    c.given-given.ensures ∙ shown_chunk so_far.chunk given (uncut so_far) at.chunk some
