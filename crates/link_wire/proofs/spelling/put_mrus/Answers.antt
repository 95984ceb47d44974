use Rattle.std.proofs.Common.{append_assoc}
use Rattle.link_wire.proofs.spelling.put_mrus.Goals as goal

pub returns-clause-items : goal.returns-clause-items
returns-clause-items c =
    rw (c.put_u64-2.ensures.items, c.put_u64.ensures.items) (simp append_assoc)
