use Rattle.std.proofs.Common.{◌≡◌, length, sym, ◌∙◌, arith, refl}
use Rattle.std.proofs.lemmas.{Bool.{eqb-true, eqb-false}, List.Elements.{All-nil, All-push}}
use Rattle.link_io.specs.Bytes.{IsByte}
use Rattle.link_report.specs.Text.{escaped}
use Rattle.link_report_eid_parser.proofs.Escapes.{next_byte, text_more, text_less}
use Rattle.link_report_eid_parser.proofs.name.read_name.Goals as goal

pub loop-rest-init : goal.loop-rest-init
unfolding escaped
loop-rest-init c =
    record { are = rw c.new-name.ensures (All-nil IsByte); text = rw c.new-name.ensures refl }

pub returns-in_err-byte-clause-none : goal.returns-in_err-byte-clause-none
returns-in_err-byte-clause-none c =
    rw c.from_residual.ensures (λ other are short is.
    let next = next_byte c.loop-rest.name.items other c.loop-rest.rest.now c.loop-rest.invariant.are
    are (is ∙ c.loop-rest.invariant.text)
    (eqb-false (length c.loop-rest.rest.now) 0 (sym c.loop-rest-test.ensures)) in
    c.in_err-byte.ensures.none next.byte next.after next.is_byte next.text)

pub returns-then-is_full-clause-none : goal.returns-then-is_full-clause-none
returns-then-is_full-clause-none c other are short is =
    let next = next_byte c.loop-rest.name.items other c.loop-rest.rest.now c.loop-rest.invariant.are
    are (is ∙ c.loop-rest.invariant.text)
    (eqb-false (length c.loop-rest.rest.now) 0 (sym c.loop-rest-test.ensures)) in
    let full : length c.loop-rest.name.items ≡ 1024 =
    eqb-true (length c.loop-rest.name.items) 1024 (sym c.if-is_full.ensures.value) in
    omega (arith, next.longer)

pub loop-rest-smaller : goal.loop-rest-smaller
loop-rest-smaller c =
    text_less c.loop-rest.rest.now c.in_ok-byte.more.now c.in_ok-byte.byte c.in_ok-byte.ensures.some

pub loop-rest-preserved : goal.loop-rest-preserved
loop-rest-preserved c = record {
  are = rw c.push.ensures.items
      (All-push IsByte c.loop-rest.name.items c.in_ok-byte.byte c.loop-rest.invariant.are
      c.in_ok-byte.ensures.fits);
  text = rw c.push.ensures.items
      (text_more c.args.text.now c.loop-rest.name.items c.loop-rest.rest.now c.in_ok-byte.more.now
      c.in_ok-byte.byte c.loop-rest.invariant.text c.in_ok-byte.ensures.some);
}
