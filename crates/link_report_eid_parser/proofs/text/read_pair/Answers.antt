use Rattle.link_report_eid_parser.proofs.Numbers.{no_dots, digits_before, parts_at_dot}
use Rattle.link_report_eid_parser.proofs.text.read_pair.Goals as goal

pub returns-in_err-dot-clause-none : goal.returns-in_err-dot-clause-none
returns-in_err-dot-clause-none c =
    rw c.from_residual.ensures (no_dots c.args.text.now c.in_err-dot.ensures)

pub returns-in_err-first-clause-none : goal.returns-in_err-first-clause-none
returns-in_err-first-clause-none c =
    rw c.from_residual-in_err-first.ensures (λ number rest fits is.
    c.in_err-first.ensures.none number fits
    (digits_before c.args.text.now rest c.in_ok-dot.dot number c.in_ok-dot.ensures fits is))

pub returns-clause-some : goal.returns-clause-some
returns-clause-some c =
    rw c.in_ok-first.ensures.some (parts_at_dot c.args.text.now c.in_ok-dot.dot c.in_ok-dot.ensures)
