use Rattle.std.proofs.Common.{arith}
use Rattle.link_bundle_blocks.proofs.Items.{head_at-small}
use Rattle.link_bundle_blocks.proofs.item.small_at.Goals as goal

pub returns : goal.returns
returns c =
    rw c.from.ensures
    (head_at-small c.args.major c.in_ok-information.information c.args.bytes.now c.args.offset
    c.in_ok-information.ensures.within (c.in_ok-information.ensures.first (omega arith))
    (omega arith))
