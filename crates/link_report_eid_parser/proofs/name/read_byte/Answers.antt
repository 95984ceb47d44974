use Rattle.std.proofs.Common.{sym, ◌∙◌}
use Rattle.link_report_eid_parser.proofs.Escapes.{short_escape, no_digits, needless_escape, escape_is, plain_byte, plain_fits, no_plain, no_text}
use Rattle.link_report_eid_parser.proofs.name.read_byte.Goals as goal

pub returns-in_default-escape-clause-none : goal.returns-in_default-escape-clause-none
returns-in_default-escape-clause-none c byte more fits is =
    short_escape c.args.text.now c.in-Some.escape.now c.in-Some.ensures
    c.in_default-escape.len_below byte more is

pub returns-in_err-byte-clause-none : goal.returns-in_err-byte-clause-none
returns-in_err-byte-clause-none c =
    rw c.from_residual.ensures
    (no_digits c.args.text.now c.in-Some.escape.now c.in-Some.ensures
    c.in_err-byte.ensures.none)

pub returns-then-is_plain-clause-none : goal.returns-then-is_plain-clause-none
returns-then-is_plain-clause-none c =
    needless_escape c.args.text.now c.in-Some.escape.now c.in_ok-byte.byte c.in-Some.ensures
    c.in_ok-byte.ensures.fits c.in_ok-byte.ensures.some (sym c.is_plain.ensures ∙ c.if-is_plain.true)

pub returns-else-is_plain-clause-some : goal.returns-else-is_plain-clause-some
returns-else-is_plain-clause-some c =
    escape_is c.args.text.now c.in-Some.escape.now c.in_ok-byte.byte c.in-Some.ensures
    c.in-len2-up.len_at_least c.in_ok-byte.ensures.some
    (sym c.is_plain.ensures ∙ c.if-is_plain.false)

pub returns-in_err-first-clause-none : goal.returns-in_err-first-clause-none
returns-in_err-first-clause-none c =
    rw c.from_residual-in_err-first.ensures
    (λ byte more fits. no_text c.args.text.now c.in_err-first.ensures.cases byte more)

pub returns-then-is_plain-2-clause-some : goal.returns-then-is_plain-2-clause-some
returns-then-is_plain-2-clause-some c =
    rw (plain_byte c.in_ok-first.first.now (sym c.is_plain-2.ensures ∙ c.if-is_plain-2.true))
    c.in_ok-first.ensures.cases.0

pub returns-then-is_plain-2-clause-fits : goal.returns-then-is_plain-2-clause-fits
returns-then-is_plain-2-clause-fits c =
    plain_fits c.in_ok-first.first.now (sym c.is_plain-2.ensures ∙ c.if-is_plain-2.true)

pub returns-else-is_plain-2-clause-none : goal.returns-else-is_plain-2-clause-none
returns-else-is_plain-2-clause-none c byte more fits is =
    no_plain c.args.text.now c.in_ok-first.rest.now c.in_ok-first.first.now
    c.in_ok-first.ensures.cases.0 (sym c.is_plain-2.ensures ∙ c.if-is_plain-2.false)
    c.in_default.ensures byte more is
