use Rattle.std.proofs.{Common.{sym, ◌∙◌}, lemmas.Bool.eq-eqb}
use Rattle.link_bundle_heads.specs.Rows.{check_field}
use Rattle.link_bundle_blocks.specs.CheckField.{check_of}
use Rattle.link_bundle_blocks.proofs.{Heads.row_at-accepted, Readings.field_at-equal}
use Rattle.link_bundle_blocks.proofs.whole.stored_at.Goals as goal

pub returns : goal.returns
unfolding check_of
returns c =
    let bytes = c.args.bytes.now in
    let content = c.in_ok-head.content in
    let stored = c.in_ok-stored.stored.now in
    let next = c.in_ok-stored.next in
    let there = rw c.check_width.ensures at c.in_ok-stored.ensures.read in
    field_at-equal c.args.kind c.args.start content next c.in_ok-check_field.field-0 bytes
    c.args.offset stored
    (row_at-accepted (check_field c.args.kind) bytes c.args.offset content c.in_ok-head.head
    c.in_ok-check_field.field-0
    c.in_ok-head.ensures (sym c.check_field.ensures.judged ∙ c.in_ok-check_field.was))
    there
    (eq-eqb _ _ (sym c.number_of.ensures ∙ c.if-number_of-check_of.false ∙ c.check_of.ensures))
