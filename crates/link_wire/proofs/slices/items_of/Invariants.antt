use Rattle.std.proofs.Common.{◌≡◌, ◌≤◌, ◌+◌, List, length, drop}
use Rattle.link_wire.specs.Message.{items_at}
use Rattle.link_wire.proofs.ItemReads.{with_items}
use Rattle.link_wire.specs.declared.message.{Item.Item, TheConstants.MAX_ITEMS}
use Rattle.link_wire.proofs.slices.items_of.Given as goal

-- the items of the whole list are some items, and then those of the bytes left
abbrev pub invariant-loop-left : goal.invariant-loop-left
invariant-loop-left l = record {
  before : List Item;
  reads : items_at l.owner MAX_ITEMS l.size (drop l.start l.bytes)
      ≡ with_items before (items_at l.owner l.room l.left (drop l.at l.bytes));
  within : l.at ≤ length l.bytes;
  ends : l.at + l.left ≡ l.start + l.size;
}

abbrev pub decreases-loop-left : goal.decreases-loop-left
decreases-loop-left l = l.left
