use Rattle.std.proofs.Common.{◌≡◌, ◌-◌, ◌≤◌, length, Result, List}
use Rattle.link_io.specs.Source.{IsLive}
use Rattle.link_wire.specs.{Message.{HaveTotalsIfLengthItems, items_at}, Getting.ReadsPart}
use Rattle.link_wire.proofs.Items.{with_before}
use Rattle.link_wire.specs.declared.{message.TheConstants.MAX_ITEMS, halt.Halt.Halt}
use Rattle.link_wire.specs.declared.message.{Item.Item, ListOf.TheVariants.Transfer}
use Rattle.link_io.specs.declared.source.Source.{Source}
use Rattle.link_wire.proofs.list.items_of.Given as goal

-- The items of the whole list are the items so far, and then those of the bytes left. In a
-- transfer's list, the items so far have their totals.
abbrev pub invariant-loop-left : goal.invariant-loop-left
invariant-loop-left g l =
    let look = g.R.InDevice.state in
    record {
      few : length l.items.items ≤ MAX_ITEMS;
      live : IsLive look l.fn.source → IsLive look l.source;
      rest : IsLive look l.fn.source → (new : Source g.row.R.Denot)
          (outcome : Result (List Item) Halt)
          → ReadsPart look (items_at l.owner (MAX_ITEMS - length l.items.items) l.left) l.source new outcome
          → ReadsPart look (items_at l.owner MAX_ITEMS l.length) l.fn.source new
          (with_before l.items.items outcome);
      totals : l.owner ≡ Transfer → HaveTotalsIfLengthItems l.items.items;
    }

abbrev pub decreases-loop-left : goal.decreases-loop-left
decreases-loop-left g l = l.left
