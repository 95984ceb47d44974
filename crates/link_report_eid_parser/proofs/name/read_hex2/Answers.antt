use Rattle.std.proofs.Common.{◌/◌, ◌%◌, arith}
use Rattle.link_report.specs.Text.{hex2}
use Rattle.link_report_eid_parser.proofs.Escapes.{hex2_is}
use Rattle.link_report_eid_parser.proofs.name.read_hex2.Goals as goal

pub returns-in_err-high-clause-none : goal.returns-in_err-high-clause-none
unfolding hex2
returns-in_err-high-clause-none c =
    rw c.from_residual.ensures
    (λ byte fits is. c.in_err-high.ensures.none (byte / 16) (omega arith) cc)

pub returns-in_err-low-clause-none : goal.returns-in_err-low-clause-none
unfolding hex2
returns-in_err-low-clause-none c =
    rw c.from_residual-in_err-low.ensures
    (λ byte fits is. c.in_err-low.ensures.none (byte % 16) (omega arith) cc)

pub returns-clause-some : goal.returns-clause-some
returns-clause-some c =
    hex2_is c.in_ok-high.high c.in_ok-low.low c.args.high c.args.low c.in_ok-high.ensures.below
    c.in_ok-low.ensures.below c.in_ok-high.ensures.some c.in_ok-low.ensures.some
