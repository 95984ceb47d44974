use Rattle.std.proofs.Common.{◌-◌, ◌+◌, ◌∙◌, arith}
use Rattle.link_report_eid_parser.proofs.Escapes.{high_digit}
use Rattle.link_report_eid_parser.proofs.name.read_digit.Goals as goal

pub returns-in-97-to-102-clause-some : goal.returns-in-97-to-102-clause-some
returns-in-97-to-102-clause-some c =
    let number = c.args.digit - 97 + 10 in
    high_digit number (omega arith) (omega arith) ∙ omega arith
