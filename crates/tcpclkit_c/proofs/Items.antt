-- What the items of a transfer's list announce, read one after another as the definition does.
use Rattle.std.proofs.Common.{◌≡◌, ℕ, zero, suc, ◌+◌, ◌-◌, ◌<◌, eqb, false, List, [], ◌∷◌, ◌++◌, Option, Some, None, Ok, Err, refl, ap, sym, append-nil, append_assoc, arith}
use Rattle.std.proofs.lemmas.Bool.{ne_eqb}
use Rattle.link_wire.specs.Part.{Part, ◌>>=◌, number_at}
use Rattle.link_wire.specs.Message.{item_head_at, total_at, items_at, items_of, HasTotalIfLengthItem}
use Rattle.link_wire.specs.InSlice.{head_of}
use Rattle.link_wire.specs.declared.fault.WireFault.{WireFault}
use Rattle.link_wire.specs.declared.message.{Item.Item, ListOf.TheVariants.Transfer}
use Rattle.link_wire.proofs.FieldReads.{both_read, same_part}
use Rattle.link_transfer.specs.Announced.{announced_of}
use Rattle.link_transfer.specs.declared.announcement.Announced.{Announced}
use Rattle.tcpclkit_c.specs.Announced.{announced_part}

-- what these items announce and those that are read after them, if they are
abbrev pub announced_then : List Item → Part (List Item) → Option Announced
announced_then before (Ok (items, rest)) = Some (announced_of (before ++ items))
announced_then before (Err fault) = None

-- the items of the whole list
pub announced_all : (size : ℕ) (bytes : List ℕ)
    → announced_part (items_of Transfer size bytes)
    ≡ announced_then [] (items_at Transfer 64 size bytes)
unfolding items_of
announced_all size bytes = same (items_at Transfer 64 size bytes)
  where
    same : (part : Part (List Item))
        → announced_part (part >>= λ (items, bytes). Ok (record { items = items }, bytes))
        ≡ announced_then [] part
    same (Ok (items, rest)) = refl
    same (Err fault) = refl

module _ (before : List Item) where
  -- a part that is at fault, or has a fault after it
  at_fault : {A : Type 0} (part : Part A) (next : A × List ℕ → Part (List Item))
      → ((value : A) (rest : List ℕ) → part ≡ Ok (value, rest)
      → announced_then before (next (value, rest)) ≡ None)
      → announced_then before (part >>= next) ≡ None
  at_fault (Ok (value, rest)) next none = none value rest refl
  at_fault (Err fault) next none = refl

  -- the items that are read, with one before them
  after_one : (item : Item) (part : Part (List Item))
      → announced_then before (part >>= λ (others, bytes). Ok (item ∷ others, bytes))
      ≡ announced_then (before ++ item ∷ []) part
  after_one item (Ok (items, rest)) =
      ap (λ all. Some (announced_of all)) (sym (append_assoc before (item ∷ []) items))
  after_one item (Err fault) = refl

  -- no bytes of the list are left
  pub items_none : (room left : ℕ) (bytes : List ℕ) → left ≡ 0
      → announced_then before (items_at Transfer room left bytes) ≡ Some (announced_of before)
  unfolding items_at
  items_none zero left bytes none = rw (none, append-nil before)
  items_none (suc room) left bytes none = rw (none, append-nil before)

  module _ (left : ℕ) (bytes : List ℕ) (some : 0 < left) where
    some_left : eqb left 0 ≡ false
    some_left = ne_eqb left 0 (λ none. omega arith)

    -- there is no room for the next item
    pub items_full : (room : ℕ) → room ≡ 0
        → announced_then before (items_at Transfer room left bytes) ≡ None
    unfolding items_at
    items_full room none =
        rw (none, some_left) (at_fault (item_head_at left bytes) _ (λ head rest is. refl))

    -- the next item is at fault
    pub items_bad : (room : ℕ) (fault : WireFault)
        → (item_head_at left bytes >>= λ (head, rest). total_at Transfer head.kind head.length rest)
        ≡ Err fault
        → announced_then before (items_at Transfer room left bytes) ≡ None
    unfolding items_at
    items_bad zero fault bad = items_full zero refl
    items_bad (suc room) fault bad =
        rw some_left
        (at_fault (item_head_at left bytes) _ (λ head rest is. rw (rw is at bad) refl))

    -- the next item, and those after it
    pub items_more : (item : Item) (value rest : List ℕ) (room less : ℕ) → room ≡ suc less
        → item_head_at left bytes ≡ Ok (head_of item, value)
        → total_at Transfer item.kind item.length value ≡ Ok (item.total, rest)
        → announced_then before (items_at Transfer room left bytes)
        ≡ announced_then (before ++ item ∷ [])
        (items_at Transfer less (left - (5 + item.length)) rest)
    unfolding items_at
    items_more item value rest room less one head total =
        rw (one, some_left, head, total)
        (after_one item (items_at Transfer less (left - (5 + item.length)) rest))

-- the total of a Transfer Length item is kept
pub has_total : (item : Item) (value rest : List ℕ)
    → total_at Transfer item.kind item.length value ≡ Ok (item.total, rest) → HasTotalIfLengthItem item
unfolding total_at
has_total item value rest is kind size =
    let total = both_read (number_at 8 value) _ _ (rw (kind, size) at is) in
    rw (← (same_part total.2).0) refl
