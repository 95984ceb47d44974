-- Items that were written one after another are read as they were.
use Rattle.std.proofs.Common.{◌≡◌, ℕ, zero, suc, ◌+◌, ◌-◌, ◌<◌, ◌≤◌, ◌^◌, Bool, true, false, List, [], ◌∷◌, ◌++◌, length, Ok, arith, refl, ap, sym, ◌∙◌, length-append}
use Rattle.std.specs.List.{All}
use Rattle.std.specs.Prelude.{map}
use Rattle.std.proofs.lemmas.{Bool.ne_eqb, List.Elements.{All-head, All-tail}}
use Rattle.link_wire.proofs.{FieldReads.bytes_at-there, Sound.{both, has_total_size, only_item_head}}
use Rattle.link_wire.specs.Limits.{longest_list, most_items}
use Rattle.link_wire.specs.Message.{is_total_length, skipped_at, total_at, items_at, items_of}
use Rattle.link_wire.specs.Part.{bytes_at, number_at}
use Rattle.link_wire.specs.Spelled.{total_of}
use Rattle.link_wire.specs.declared.message.{Item.Item, ListOf.ListOf}
use Rattle.link_writing.specs.Numbers.{be}
use Rattle.link_wire_writer.specs.MessageBytes.{item_bytes}
use Rattle.link_wire_writer.specs.ReadsBack.{NewItem, ItemFieldsFit, items_bytes, read_item, ItemsReadBack}

value_there : (owner : ListOf) (kind : ℕ) (value more : List ℕ) (test : Bool)
    → is_total_length owner kind (length value) ≡ test
    → total_at owner kind (length value) (value ++ more)
    ≡ Ok (total_of owner kind (length value) value, more)
unfolding total_at skipped_at number_at
value_there owner kind value more true known =
    let eight = has_total_size owner kind (length value) known in
    let there : bytes_at 8 (value ++ more) ≡ Ok (value, more) =
    ap (λ n. bytes_at n (value ++ more)) (sym eight) ∙ bytes_at-there value more in
    rw (known, there) refl
value_there owner kind value more false known = rw (known, bytes_at-there value more) refl

one_more : (owner : ListOf) (room left : ℕ) (item : NewItem) (tail : List ℕ) (others : List Item)
    → ItemFieldsFit item → length item.value < 2 ^ 16 → left ≡ 5 + length item.value + length tail
    → items_at owner room (length tail) tail ≡ Ok (others, [])
    → items_at owner (suc room) left (item_bytes item.flags item.kind item.value ++ tail)
    ≡ Ok (read_item owner item ∷ others, [])
unfolding items_at item_bytes
one_more owner room left item tail others fit short is rest =
    let size = length item.value in
    let less : left - (5 + size) ≡ length tail = omega (arith, is) in
    let head = (only_item_head left item.flags item.kind size (omega (arith, is))).by _
    (both (be 1 item.flags) (be 2 item.kind ++ be 2 size) (fit.0, refl)
    (both (be 2 item.kind) (be 2 size) (fit.1, refl) (short, refl))) (item.value ++ tail) in
    rw (
      ne_eqb left 0 (λ none. absurd (omega (arith, none, is))),
      head,
      value_there owner item.kind item.value tail (is_total_length owner item.kind size) refl,
      less,
      rest,
    ) refl

items_there : (owner : ListOf) (items : List NewItem) (room : ℕ)
    → All ItemFieldsFit items → length items ≤ room → length (items_bytes items) ≤ longest_list
    → items_at owner room (length (items_bytes items)) (items_bytes items)
    ≡ Ok (map (read_item owner) items, [])
unfolding items_at item_bytes
items_there owner [] zero all few short = refl
items_there owner [] (suc room) all few short = refl
items_there owner (item ∷ items) zero all few short = absurd (omega arith)
items_there owner (item ∷ items) (suc room) all few short =
    let tail = items_bytes items in
    let size = length-append item.value tail in
    one_more owner room (length (items_bytes (item ∷ items))) item tail (map (read_item owner) items)
    (All-head ItemFieldsFit item items all) (omega arith) (omega arith)
    (items_there owner items room (All-tail ItemFieldsFit item items all) (omega arith) (omega arith))

pub items_back : ItemsReadBack
unfolding items_of
items_back owner items all few short = rw (items_there owner items most_items all few short) refl
