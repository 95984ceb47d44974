use Rattle.std.proofs.Common.{sym, ap, ◌∙◌}
use Rattle.link_ffi_writer.specs.Messages.{has_same}
use Rattle.link_ffi_writer.proofs.Fields.{no_fields, other_numbers, has_fields}
use Rattle.link_ffi_writer.proofs.message.fields_by.Goals as goal

pub returns-in_err-fields : goal.returns-in_err-fields
returns-in_err-fields c =
    rw c.from_residual.ensures
    (no_fields c.args.message.now (sym c.in_err-fields.ensures.fields))

pub returns-then-has_same : goal.returns-then-has_same
returns-then-has_same c =
    has_fields c.args.message.now c.in_ok-fields.fields c.in_ok-fields.ensures.fit
    (ap (λ shown. has_same c.args.message.now shown) (sym c.fields_shown.ensures)
    ∙ sym c.has_same.ensures ∙ c.if-has_same.true)

pub returns-else-has_same : goal.returns-else-has_same
returns-else-has_same c =
    other_numbers c.args.message.now c.in_ok-fields.fields (sym c.in_ok-fields.ensures.fields)
    (ap (λ shown. has_same c.args.message.now shown) (sym c.fields_shown.ensures)
    ∙ sym c.has_same.ensures ∙ c.if-has_same.false)
