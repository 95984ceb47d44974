use Rattle.std.proofs.Common.{◌≤◌, length, append_assoc}
use Rattle.link_wire.proofs.Spellings.{sess_init_spelled}
use Rattle.link_wire.specs.Spelling.{sess_init_bytes}
use Rattle.link_wire.proofs.spelling.put_sess_init.Goals as goal

pub returns-clause-items : goal.returns-clause-items
unfolding sess_init_bytes
returns-clause-items c =
    rw (
      ← c.as_slice.ensures.value,
      c.put_u32.ensures.items,
      c.put_node.ensures.items,
      c.put_mrus.ensures.items,
      c.put_keepalive.ensures.items,
    ) (simp append_assoc)

pub returns-clause-spelled : goal.returns-clause-spelled
returns-clause-spelled c =
    let node = c.as_slice.result.now in
    let short : length node ≤ 1024 = c.as_slice.ensures.fits in
    rw (← c.as_slice.ensures.value)
    (sess_init_spelled c.args.keepalive c.args.segment_mru c.args.transfer_mru node
    c.ranges.keepalive.fits c.ranges.segment_mru.fits c.ranges.transfer_mru.fits c.put_node.ensures.bytes short)
