-- The length that a transfer's extension items announce (RFC 9174 section 5.2.5.1).
use Rattle.std.specs.Prelude.{ℕ, Bool, ◌==◌, List, [], ◌∷◌, filter, Option, Some, None, if◌then◌else◌}
use Rattle.link_wire.specs.declared.message.Item.{Item}
use Rattle.link_transfer.specs.declared.announcement.Announced.{Announced}
use Rattle.link_transfer.specs.declared.announcement.Announced.TheVariants.{Absent, Total, Malformed}

-- whether an item is a Transfer Length item, of type 0001
abbrev pub is_transfer_length : Item → Bool
is_transfer_length item = item.kind == 1

-- The total, if the item has one. In items that were read, a Transfer Length item of 8 bytes
-- always has one (`HasTotalIfLengthItem` of link_wire), so `None` does not occur.
abbrev pub total_or_malformed : Option ℕ → Announced
total_or_malformed (Some total) = Total total
total_or_malformed None = Malformed

-- the announcement of one Transfer Length item: its total, if its value has 8 bytes
abbrev pub announced_by : Item → Announced
announced_by item = if item.length == 8 then total_or_malformed item.total else Malformed

-- the announcement of the Transfer Length items of a transfer, which may have at most one
abbrev pub announced_by_all : List Item → Announced
announced_by_all [] = Absent
announced_by_all (item ∷ []) = announced_by item
announced_by_all (item ∷ another ∷ more) = Malformed

-- the announcement of a transfer's extension items
unfoldable pub announced_of : List Item → Announced
announced_of items = announced_by_all (filter is_transfer_length items)

-- the announcement of some items, and then of one more Transfer Length item
abbrev pub announced_after : Announced → Item → Announced
announced_after Absent item = announced_by item
announced_after (Total total) item = Malformed
announced_after Malformed item = Malformed

-- the announcement of some items, and then of one more item of any type
abbrev pub announced_with : Announced → Item → Announced
announced_with announced item =
    if is_transfer_length item then announced_after announced item else announced
