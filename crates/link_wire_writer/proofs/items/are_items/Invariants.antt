use Rattle.std.proofs.Common.{◌≡◌, ◌≤◌, length, drop, is_ok}
use Rattle.link_wire.specs.Message.{items_at, items_of}
use Rattle.link_wire_writer.proofs.items.are_items.Given as goal

-- whether the items that are left are items decides whether all are
abbrev pub invariant-loop-left : goal.invariant-loop-left
invariant-loop-left l =
    (l.at ≤ length l.items)
    × (is_ok (items_of l.owner (length l.items) l.items)
    ≡ is_ok (items_at l.owner l.room l.left (drop l.at l.items)))

abbrev pub decreases-loop-left : goal.decreases-loop-left
decreases-loop-left l = l.left
