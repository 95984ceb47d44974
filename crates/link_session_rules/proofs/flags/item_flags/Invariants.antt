use Rattle.std.proofs.Common.{◌≡◌, ℕ, List, Option, drop}
use Rattle.std.specs.List.{enumerate_from, find}
use Rattle.link_wire.specs.declared.message.Item.{Item}
use Rattle.link_rules_shared.specs.Flags.{has_other_flags}
use Rattle.link_session_rules.specs.Flags.{critical}
use Rattle.link_session_rules.proofs.flags.item_flags.Given as goal

-- the first item with another flag is among those that are left
abbrev pub first_from : ℕ → List Item → Option (ℕ × Item)
first_from number items =
    find (λ (numbered : ℕ × Item). has_other_flags critical numbered.1.flags)
    (enumerate_from number items)

abbrev pub invariant-loop-item : goal.invariant-loop-item
invariant-loop-item l = record {
  number : l.number ≡ l.item-index;
  same : first_from 0 l.items ≡ first_from l.item-index (drop l.item-index l.items);
}
