use Rattle.std.proofs.Common.{◌≡◌, take}
use Rattle.link_transfer.specs.Announced.{announced_of}
use Rattle.link_transfer.proofs.length.announced.Given as goal

abbrev pub invariant-loop-item : goal.invariant-loop-item
invariant-loop-item l = l.announced ≡ announced_of (take l.item-index l.item-items)
