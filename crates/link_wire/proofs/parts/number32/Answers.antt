use Rattle.link_wire.proofs.Gettings.{exiting, number_exit, number_read}
use Rattle.link_wire.proofs.parts.number32.Goals as goal

pub returns : goal.returns
returns g c = λ live. rw c.read_u32.ensures (number_read 4 _ (c.in_ok-field.ensures live))

pub returns-in_err-field : goal.returns-in_err-field
returns-in_err-field g c = λ live.
    exiting _ c.from_residual.ensures.1 (number_exit 4 (c.in_err-field.ensures live))
