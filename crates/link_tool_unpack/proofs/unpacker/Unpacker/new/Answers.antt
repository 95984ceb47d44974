use Rattle.std.proofs.Common.{true, refl, arith}
use Rattle.link_tool_unpack.proofs.Told.{knows_nothing}
use Rattle.link_tool_unpack.proofs.unpacker.Unpacker.new.Goals as goal

pub returns : goal.returns
returns c = λ wanted.
    knows_nothing wanted (record { latest = c.new.result; good = true })
    (omega (arith, c.new.ensures.start, c.new.ensures.written)) c.new.ensures.total refl
