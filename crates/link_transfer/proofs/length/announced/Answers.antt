use Rattle.std.proofs.Common.{refl, arith}
use Rattle.link_transfer.specs.Announced.{announced_of}
use Rattle.link_transfer.proofs.Announcing.{announced_of-more}
use Rattle.link_transfer.proofs.length.announced.Goals as goal

pub loop-item-init : goal.loop-item-init
unfolding announced_of
loop-item-init c = refl

pub loop-item-preserved : goal.loop-item-preserved
loop-item-preserved c =
    let h = c.announced_with-announced.ensures in
    grind (arith, announced_of-more)
