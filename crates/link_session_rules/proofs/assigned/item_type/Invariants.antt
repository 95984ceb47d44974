use Rattle.std.proofs.Common.{◌≡◌, ℕ, List, Option, drop}
use Rattle.std.specs.List.{enumerate_from, find}
use Rattle.link_wire.specs.{MessageBuffer.message_of, declared.message.{Item.Item, Message.Message}}
use Rattle.link_session_rules.specs.Assigned.{is_unassigned}
use Rattle.link_session_rules.proofs.assigned.item_type.Given as goal

-- the first item with such a type is among those that are left
abbrev pub first_from : Message → ℕ → List Item → Option (ℕ × Item)
first_from message number items =
    find (λ (numbered : ℕ × Item). is_unassigned message numbered.1.kind)
    (enumerate_from number items)

abbrev pub invariant-loop-item : goal.invariant-loop-item
invariant-loop-item l = record {
  number : l.number ≡ l.item-index;
  same : first_from (message_of l.message) 0 l.items
      ≡ first_from (message_of l.message) l.item-index (drop l.item-index l.items);
}
