-- Relations: the stop of a session in which the reading of a part of a message halts.
use Rattle.std.specs.Prelude.{ℕ}
use Rattle.link_wire.specs.declared.fault.Stop.{Stop}
use Rattle.link_wire.specs.declared.fault.Stop.TheVariants as stop
use Rattle.link_wire.specs.declared.halt.Halt.{Halt}
use Rattle.link_wire.specs.declared.halt.Halt.TheVariants as halt

-- the stop with this reason, in the message that begins at the offset; a failure has no offset
abbrev pub stop_at : ℕ → Halt → Stop
stop_at offset (halt.Io fault) = stop.Io fault
stop_at offset (halt.Wire fault) = stop.Wire offset fault
