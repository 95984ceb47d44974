use Rattle.link_wire.proofs.Gettings.{byte_read, exiting, number_exit}
use Rattle.link_wire.proofs.parts.number8.Goals as goal

pub returns-in_err-field : goal.returns-in_err-field
returns-in_err-field g c = λ live.
    exiting _ c.from_residual.ensures.1 (number_exit 1 (c.in_err-field.ensures live))

pub returns : goal.returns
returns g c = λ live. byte_read c.in_ok-field.field-0 (c.in_ok-field.ensures live)
