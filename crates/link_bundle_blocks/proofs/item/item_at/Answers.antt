use Rattle.std.proofs.Common.{ℕ, ◌+◌, arith}
use Rattle.std.proofs.lemmas.List.{take_rest}
use Rattle.link_bundle_blocks.proofs.Items.{head_at-small, head_at-argument}
use Rattle.link_bundle_blocks.proofs.item.item_at.Goals as goal

pub returns-then-information-lt24 : goal.returns-then-information-lt24
returns-then-information-lt24 c =
    rw c.from.ensures
    (head_at-small c.args.major c.in_ok-information.information c.args.bytes.now c.args.offset
    c.in_ok-information.ensures.within (c.in_ok-information.ensures.first (omega arith))
    (omega arith))

pub returns : goal.returns
returns c =
    head_at-argument c.args.major c.in_ok-information.information c.in_ok-size.size
    c.read_u64.result c.args.bytes.now c.args.offset c.requires
    (omega arith) (c.in_ok-information.ensures.first (omega arith))
    c.in_ok-size.ensures.least c.in_ok-size.ensures.below c.in_ok-size.ensures.size
    (λ (index : ℕ). omega (arith, c.type_inv.bytes index))
    (rw (take_rest c.args.bytes.now (c.args.offset + 1)) at c.read_u64.ensures)
