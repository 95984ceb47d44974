use Rattle.std.proofs.Common.{◌≡◌, true, arith}
use Rattle.link_wire_writer.proofs.Whole.{are_short, message_parts}
use Rattle.link_wire_writer.specs.MessageBytes.{is_writable}
use Rattle.link_wire_writer.proofs.message.write_message.Goals as goal

pub overflow_cast-items : goal.overflow_cast-items
overflow_cast-items c =
    let can : is_writable c.args.fields c.args.node.now c.args.items.now ≡ true = cc in
    let short = (are_short c.args.fields c.args.node.now c.args.items.now can).items_short in
    omega (arith, short)

pub put_front-requires-clause-short : goal.put_front-requires-clause-short
put_front-requires-clause-short c =
    let can : is_writable c.args.fields c.args.node.now c.args.items.now ≡ true = cc in
    (are_short c.args.fields c.args.node.now c.args.items.now can).node_short

pub returns : goal.returns
returns c =
    let can : is_writable c.args.fields c.args.node.now c.args.items.now ≡ true = cc in
    rw (
      can,
      message_parts c.args.fields c.args.node.now c.args.items.now can,
      ← c.put_front.ensures,
      ← c.tail_of-tail.ensures,
      ← c.as_slice.ensures.value,
      ← c.as_slice-2.ensures.value,
    ) c.write_parts.ensures
