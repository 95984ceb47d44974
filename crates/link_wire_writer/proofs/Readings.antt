-- Parts of a message that were read: more bytes do not change them, and they have these sizes.
use Rattle.std.proofs.Common.{◌≡◌, ℕ, zero, suc, ◌+◌, ◌-◌, ◌<◌, ◌^◌, ◌==◌, Bool, true, false, List, [], ◌++◌, length, Option, Ok, nat_lt, arith, refl, ap}
use Rattle.std.proofs.lemmas.{Bool.eqb-true, List.nil_from_length}
use Rattle.arrayvec.specs.ArrayVec.{ArrayVec}
use Rattle.link_wire.proofs.FieldReads.{bytes_gone, both_read, same_part}
use Rattle.link_wire.proofs.{Sound.{has_total_size, only_number}, Within.{taken_else, item_fits, number_gone, within_items_of}}
use Rattle.link_wire.specs.Limits.{most_items}
use Rattle.link_wire.specs.Message.{is_total_length, skipped_at, total_at, item_head_at, items_at, items_of}
use Rattle.link_wire.specs.Part.{bytes_at, number_at}
use Rattle.link_wire.specs.declared.fault.WireFault.TheVariants.{ItemsOverrun}
use Rattle.link_wire.specs.declared.message.{Item.Item, ListOf.ListOf}
use Rattle.link_wire.specs.declared.list.ItemHead.{ItemHead}
use Rattle.link_writing.specs.Numbers.{be}

-- a number that was written is read back
pub number_there : (k n : ℕ) (more : List ℕ) → n < 256 ^ k
    → number_at k (be k n ++ more) ≡ Ok (n, more)
number_there k n more fits = (only_number k n).by (be k n) (fits, refl) more

head_gone : (left : ℕ) (bytes : List ℕ) (head : ItemHead) (rest : List ℕ)
    → item_head_at left bytes ≡ Ok (head, rest) → length bytes ≡ length rest + 5
unfolding item_head_at
head_gone left bytes head rest is =
    let some = (taken_else (nat_lt left 5) _ (head, rest) ItemsOverrun is).1 in
    let flags = both_read (number_at 1 bytes) _ (head, rest) some in
    let kind = both_read (number_at 2 flags.0.1) _ (head, rest) flags.2 in
    let size = both_read (number_at 2 kind.0.1) _ (head, rest) kind.2 in
    let fits = (taken_else (nat_lt (left - 5) size.0.0) _ (head, rest) ItemsOverrun size.2).1 in
    omega (
      arith,
      number_gone 1 bytes flags.0.0 flags.0.1 flags.1,
      number_gone 2 flags.0.1 kind.0.0 kind.0.1 kind.1,
      number_gone 2 kind.0.1 size.0.0 size.0.1 size.1,
      ap length (same_part fits).1,
    )

total_gone : (owner : ListOf) (kind size : ℕ) (bytes : List ℕ) (total : Option ℕ) (rest : List ℕ)
    (test : Bool) → is_total_length owner kind size ≡ test
    → total_at owner kind size bytes ≡ Ok (total, rest) → length bytes ≡ length rest + size
unfolding total_at skipped_at
total_gone owner kind size bytes total rest true known is =
    let read = both_read (number_at 8 bytes) _ (total, rest) (rw known at is) in
    let gone = number_gone 8 bytes read.0.0 read.0.1 read.1 in
    omega (arith, gone, ap length (same_part read.2).1, has_total_size owner kind size known)
total_gone owner kind size bytes total rest false known is =
    let skipped = both_read (skipped_at size bytes) _ (total, rest) (rw known at is) in
    let read = both_read (bytes_at size bytes) _ skipped.0 skipped.1 in
    let gone = (bytes_gone size bytes read.0.0 read.0.1 read.1).0 in
    omega (arith, gone, ap length (same_part read.2).1, ap length (same_part skipped.2).1)

-- the items of a list fill it
items_gone : (owner : ListOf) (room left : ℕ) (bytes : List ℕ) (items : List Item)
    (rest : List ℕ) (none : Bool) → (left == 0) ≡ none
    → items_at owner room left bytes ≡ Ok (items, rest) → length bytes ≡ length rest + left
unfolding items_at
items_gone owner zero left bytes items rest true none is =
    omega (arith, eqb-true left 0 none, ap length (same_part (rw none at is)).1)
items_gone owner (suc room) left bytes items rest true none is =
    omega (arith, eqb-true left 0 none, ap length (same_part (rw none at is)).1)
items_gone owner zero left bytes items rest false some is =
    absurd (let read = both_read (item_head_at left bytes) _ (items, rest) (rw some at is) in cc (read.2))
items_gone owner (suc room) left bytes items rest false some is =
    let one = both_read (item_head_at left bytes) _ (items, rest) (rw some at is) in
    let head = one.0.0 in
    let two = both_read (total_at owner head.kind head.length one.0.1) _ (items, rest) one.2 in
    let later = left - (5 + head.length) in
    let three = both_read (items_at owner room later two.0.1) _ (items, rest) two.2 in
    omega (
      arith,
      head_gone left bytes head one.0.1 one.1,
      item_fits left bytes head one.0.1 one.1,
      total_gone owner head.kind head.length one.0.1 two.0.0 two.0.1 _ refl two.1,
      items_gone owner room later two.0.1 three.0.0 three.0.1 _ refl three.1,
      ap length (same_part three.2).1,
    )

-- the items of a list, with more bytes after them
pub items_there : (owner : ListOf) (bytes : List ℕ) (items : ArrayVec Item) (rest : List ℕ)
    → items_of owner (length bytes) bytes ≡ Ok (items, rest)
    → (more : List ℕ) → items_of owner (length bytes) (bytes ++ more) ≡ Ok (items, more)
unfolding items_of
items_there owner bytes items rest is more =
    let size = length bytes in
    let read = both_read (items_at owner most_items size bytes) _ (items, rest) is in
    let gone = items_gone owner most_items size bytes read.0.0 read.0.1 _ refl read.1 in
    let none : rest ≡ [] = nil_from_length rest (omega (arith, gone, ap length (same_part read.2).1)) in
    rw none at ((within_items_of owner size size (omega arith)).steady.read bytes more items rest is)
