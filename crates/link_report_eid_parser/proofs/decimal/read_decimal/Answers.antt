use Rattle.std.proofs.Common.{◌≡◌, sym, ◌∙◌}
use Rattle.std.proofs.lemmas.{Bool.Decides.{Decides-eqb, not_from_Decides}, Fmt.{IsAscii-decimal, parse-decimal}, Slice.Eq.slice_eq-Decides, Str.IsUtf8-from_ascii}
use Rattle.std.specs.Fmt.{decimal}
use Rattle.link_report_eid_parser.proofs.decimal.read_decimal.Goals as goal

pub returns-in_default-clause-none : goal.returns-in_default-clause-none
returns-in_default-clause-none c number fits is =
    c.in_default.ensures.cases.0 (rw is at (IsUtf8-from_ascii (decimal number) (IsAscii-decimal number fits)))

-- the text of a number is parsed as this number
pub returns-in_default-parse-clause-none : goal.returns-in_default-parse-clause-none
returns-in_default-parse-clause-none c number fits is =
    let parsed = parse-decimal 64 number c.in-Ok.text.now c.parse.result fits fits
    (c.in-Ok.ensures.cases.0 ∙ sym is) c.parse.ensures.value.0 in
    cc

pub returns-else-eq-clause-none : goal.returns-else-eq-clause-none
returns-else-eq-clause-none c number fits is =
    let parsed = parse-decimal 64 number c.in-Ok.text.now c.parse.result fits fits
    (c.in-Ok.ensures.cases.0 ∙ sym is) c.parse.ensures.value.0 in
    let same : number ≡ c.in-Ok-parse.number = cc in
    not_from_Decides c.eq.result
    (slice_eq-Decides Decides-eqb c.as_bytes.result.now c.args.digits.now c.eq.result c.eq.ensures)
    c.if-eq.false
    (c.as_bytes.ensures.value ∙ c.format.ensures.text ∙ rw (← same) is)
