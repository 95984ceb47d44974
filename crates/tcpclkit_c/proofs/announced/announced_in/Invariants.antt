use Rattle.std.proofs.Common.{◌≡◌, ◌≤◌, ◌-◌, length, drop}
use Rattle.link_wire.specs.Message.{items_at, items_of, HaveTotalsIfLengthItems}
use Rattle.link_wire.specs.declared.message.ListOf.TheVariants.{Transfer}
use Rattle.tcpclkit_c.specs.Announced.{announced_part}
use Rattle.tcpclkit_c.proofs.Items.{announced_then}
use Rattle.tcpclkit_c.proofs.announced.announced_in.Given as goal

-- the items of the whole list are those that were read, and then those of the bytes left
abbrev pub invariant-loop-left : goal.invariant-loop-left
invariant-loop-left l = record {
  reads : announced_part (items_of Transfer l.size (drop l.start l.bytes))
      ≡ announced_then l.items.items
      (items_at Transfer (64 - length l.items.items) l.left (drop l.at l.bytes));
  totals : HaveTotalsIfLengthItems l.items.items;
  within : l.at ≤ length l.bytes;
}

abbrev pub decreases-loop-left : goal.decreases-loop-left
decreases-loop-left l = l.left
