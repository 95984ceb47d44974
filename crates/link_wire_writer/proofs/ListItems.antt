-- Whether bytes are the items of a list, item by item.
use Rattle.std.proofs.Common.{◌≡◌, ℕ, zero, suc, ◌+◌, ◌-◌, ◌<◌, ◌≤◌, Bool, true, false, List, length, Option, Result, Ok, Err, is_ok, drop, arith, refl}
use Rattle.std.proofs.lemmas.{Bool.ne_eqb, Bool.Decides.nat_tests}
use Rattle.link_wire.specs.InSlice.{LocatesItem, head_of}
use Rattle.link_wire.specs.Limits.{longest_list, most_items}
use Rattle.link_wire.specs.Message.{total_at, item_head_at, items_at, items_of}
use Rattle.link_wire.specs.Part.{Part, ◌>>=◌}
use Rattle.link_wire.specs.declared.fault.WireFault.{WireFault}
use Rattle.link_wire.specs.declared.message.{Item.Item, ListOf.ListOf}
use Rattle.link_wire.specs.declared.{list.ItemHead.ItemHead, slices.ItemAt.ItemAt}
use Rattle.link_wire_writer.specs.MessageBytes.{are_items}

-- a part whose value is changed was read if the part was
is_ok-changed : {A B : Type 0} (part : Part A) (change : A × List ℕ → B × List ℕ)
    → is_ok (part >>= λ read. let r : Part B = Ok (change read) in r) ≡ is_ok part
is_ok-changed (Ok read) change = refl
is_ok-changed (Err fault) change = refl

never : {A : Type 0} (B : Type 0) (part : Part A) (fault : WireFault)
    → is_ok (part >>= λ read. let r : Part B = Err fault in r) ≡ false
never B (Ok read) fault = refl
never B (Err other) fault = refl

-- two parts one after another, and then others
second_failed : {A B C : Type 0} (first : Result A WireFault) (second : A → Result B WireFault)
    (others : A → B → Result C WireFault) (fault : WireFault) → first >>= second ≡ Err fault
    → is_ok (first >>= λ value. second value >>= others value) ≡ false
second_failed (Ok value) second others fault is = rw is refl
second_failed (Err other) second others fault is = refl

pub is_ok-items_of : (owner : ListOf) (size : ℕ) (bytes : List ℕ)
    → is_ok (items_of owner size bytes) ≡ is_ok (items_at owner most_items size bytes)
unfolding items_of
is_ok-items_of owner size bytes =
    is_ok-changed (items_at owner most_items size bytes) _

module _ (owner : ListOf) (left : ℕ) (bytes : List ℕ) (some : 0 < left) where
  -- an item that is read, and the items after it
  item_read : (room : ℕ) (head : ItemHead) (rest after : List ℕ) (total : Option ℕ)
      → item_head_at left bytes ≡ Ok (head, rest)
      → total_at owner head.kind head.length rest ≡ Ok (total, after)
      → is_ok (items_at owner (suc room) left bytes)
      ≡ is_ok (items_at owner room (left - (5 + head.length)) after)
  unfolding items_at
  item_read room head rest after total is_head is_total =
      rw (ne_eqb left 0 (λ none. absurd (omega arith)), is_head, is_total)
      (is_ok-changed (items_at owner room (left - (5 + head.length)) after) _)

  -- an item that is not read
  pub item_refused : (room : ℕ) (fault : WireFault)
      → (item_head_at left bytes
      >>= λ (head, rest). total_at owner head.kind head.length rest) ≡ Err fault
      → is_ok (items_at owner room left bytes) ≡ false
  unfolding items_at
  item_refused zero fault is =
      rw (ne_eqb left 0 (λ none. absurd (omega arith))) (never (List Item) (item_head_at left bytes) _)
  item_refused (suc room) fault is =
      rw (ne_eqb left 0 (λ none. absurd (omega arith)))
      (second_failed (item_head_at left bytes) _ _ fault is)

  -- no room is left for another item
  pub no_room : is_ok (items_at owner zero left bytes) ≡ false
  unfolding items_at
  no_room = rw (ne_eqb left 0 (λ none. absurd (omega arith))) (never (List Item) (item_head_at left bytes) _)

pub is_ok-one_more : (owner : ListOf) (room left at : ℕ) (bytes : List ℕ) (found : ItemAt)
    → 0 < left → 0 < room → LocatesItem owner bytes left at (Ok found)
    → is_ok (items_at owner room left (drop at bytes))
    ≡ is_ok (items_at owner (room - 1) (left - (5 + found.item.length))
    (drop (found.value + found.item.length) bytes))
is_ok-one_more owner zero left at bytes found some none lies = absurd (omega arith)
is_ok-one_more owner (suc room) left at bytes found some more lies =
    let less : suc room - 1 ≡ room = omega arith in
    rw less (item_read owner left (drop at bytes) some room (head_of found.item) (drop found.value bytes)
    (drop (found.value + found.item.length) bytes) found.item.total lies.head lies.total)

-- no bytes of the list are left
pub no_more : (owner : ListOf) (room : ℕ) (bytes : List ℕ)
    → is_ok (items_at owner room 0 bytes) ≡ true
unfolding items_at
no_more owner room bytes = grind arith

pub are_items_by : (owner : ListOf) (items : List ℕ) (found : Bool)
    → length items ≤ longest_list → is_ok (items_of owner (length items) items) ≡ found
    → found ≡ are_items owner items
are_items_by owner items found short is = grind (arith, nat_tests)
