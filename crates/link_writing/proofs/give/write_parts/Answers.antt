use Rattle.std.proofs.Common.{◌+◌, ◌≤◌, length, arith}
use Rattle.link_writing.proofs.Parts.{three_parts}
use Rattle.link_writing.proofs.give.write_parts.Goals as goal

pub returns : goal.returns
returns c =
    let fits : length c.args.first.now + length c.args.second.now + length c.args.third.now
    ≤ length c.args.slice.now = omega (arith, c.if-slice-size.false) in
    three_parts _ _ _ _ _ _ _ fits c.copy_at.ensures c.copy_at-2.ensures c.copy_at-3.ensures
