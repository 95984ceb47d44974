use Rattle.std.proofs.Common.{append_assoc}
use Rattle.link_wire.specs.Spelling.{total_bytes}
use Rattle.link_wire.proofs.spelling.put_total.Goals as goal

pub returns-clause-items : goal.returns-clause-items
unfolding total_bytes
returns-clause-items c = rw (
  c.put_u64.ensures.items,
  c.put_u16-2.ensures.items,
  c.put_u16.ensures.items,
  c.put_u8.ensures.items,
) (simp append_assoc)
