-- The items of a list, one after another, as the definition reads them.
use Rattle.std.proofs.Common.{◌≡◌, ℕ, zero, suc, ◌+◌, ◌-◌, ◌<◌, List, [], ◌∷◌, ◌++◌, Option, Ok, Err, ap, sym, refl, append-nil, append_assoc}
use Rattle.link_wire.specs.Part.{Part, ◌>>=◌}
use Rattle.link_wire.proofs.Items.{item_of, some_left}
use Rattle.link_wire.specs.Message.{item_head_at, total_at, items_at, items_of}
use Rattle.link_wire.specs.declared.fault.{WireFault.WireFault, WireFault.TheVariants.TooManyItems}
use Rattle.link_wire.specs.declared.{list.ItemHead.ItemHead, message.Item.Item}
use Rattle.link_wire.specs.declared.message.ListOf.{ListOf}

-- puts items before those that were read
abbrev pub with_items : List Item → Part (List Item) → Part (List Item)
with_items before part = part >>= λ (items, rest). Ok (before ++ items, rest)

pub with_items-append : (xs ys : List Item) (part : Part (List Item))
    → with_items xs (with_items ys part) ≡ with_items (xs ++ ys) part
with_items-append xs ys (Ok (items, rest)) = ap (λ all. Ok (all, rest)) (sym (append_assoc xs ys items))
with_items-append xs ys (Err fault) = refl

pub with_items-none : (part : Part (List Item)) → part ≡ with_items [] part
with_items-none (Ok (items, rest)) = refl
with_items-none (Err fault) = refl

module _ (owner : ListOf) where
  -- no bytes of the list are left
  pub items_none : (room left : ℕ) (bytes : List ℕ) → left ≡ 0
      → items_at owner room left bytes ≡ Ok ([], bytes)
  unfolding items_at
  items_none zero left bytes none = rw none refl
  items_none (suc room) left bytes none = rw none refl

  module _ (left : ℕ) (bytes : List ℕ) (some : 0 < left) where
    -- the head of the next item is at fault
    pub items_bad_head : (room : ℕ) (fault : WireFault) → item_head_at left bytes ≡ Err fault
        → items_at owner room left bytes ≡ Err fault
    unfolding items_at
    items_bad_head zero fault is = rw (some_left left some, is) refl
    items_bad_head (suc room) fault is = rw (some_left left some, is) refl

    module _ (head : ItemHead) (value : List ℕ) (is : item_head_at left bytes ≡ Ok (head, value)) where
      -- there is no room for the next item
      pub items_full : (room : ℕ) → room ≡ 0 → items_at owner room left bytes ≡ Err TooManyItems
      unfolding items_at
      items_full room none = rw (none, some_left left some, is) refl

      -- the value of the next item is at fault
      pub items_bad_value : (room less : ℕ) (fault : WireFault) → room ≡ suc less
          → total_at owner head.kind head.length value ≡ Err fault
          → items_at owner room left bytes ≡ Err fault
      unfolding items_at
      items_bad_value room less fault one bad = rw (one, some_left left some, is, bad) refl

      -- the next item, and those after it
      pub items_more : (room less : ℕ) (total : Option ℕ) (rest : List ℕ) → room ≡ suc less
          → total_at owner head.kind head.length value ≡ Ok (total, rest)
          → items_at owner room left bytes
          ≡ with_items (item_of head total ∷ []) (items_at owner less (left - (5 + head.length)) rest)
      unfolding items_at
      items_more room less total rest one known = rw (one, some_left left some, is, known) refl

-- the items of a whole list are some items, and then this part
module _ (owner : ListOf) (size : ℕ) (bytes : List ℕ) (before : List Item) (part : Part (List Item))
    (is : items_at owner 64 size bytes ≡ with_items before part) where
  pub list_at_fault : (fault : WireFault) → part ≡ Err fault → items_of owner size bytes ≡ Err fault
  unfolding items_of
  list_at_fault fault bad = rw (is, bad) refl

  pub list_ended : (rest : List ℕ) → part ≡ Ok ([], rest)
      → items_of owner size bytes ≡ Ok (record { items = before }, rest)
  unfolding items_of
  list_ended rest none = rw (is, none, append-nil before) refl
