-- The announcement of items, with one more item.
use Rattle.std.proofs.Common.{◌≡◌, ℕ, ◌+◌, ◌<◌, List, [], ◌∷◌, ◌++◌, length, take, get_or, ⊎_elim, refl, ap, ◌∙◌, arith}
use Rattle.std.specs.List.{filter}
use Rattle.std.proofs.lemmas.{Bool.cases_Bool, List.{append-nil, take_more}, List.Elements.filter-append}
use Rattle.link_wire.specs.declared.message.Item.{Item}
use Rattle.link_transfer.specs.Announced.{announced_by_all, announced_after, announced_with, announced_of, is_transfer_length}

by_all-push : (items : List Item) (item : Item)
    → announced_by_all (items ++ item ∷ []) ≡ announced_after (announced_by_all items) item
by_all-push [] item = refl
by_all-push (one ∷ []) item = grind arith
by_all-push (one ∷ another ∷ more) item = refl

pub announced_of-push : (items : List Item) (item : Item)
    → announced_of (items ++ item ∷ []) ≡ announced_with (announced_of items) item
unfolding announced_of
announced_of-push items item =
    rw (filter-append is_transfer_length items (item ∷ [])) (⊎_elim
    (λ is. rw is (by_all-push (filter is_transfer_length items) item))
    (λ other. rw other (rw append-nil))
    (cases_Bool (is_transfer_length item)))

pub announced_of-more : (items : List Item) (at : ℕ) (item : Item) → at < length items
    → announced_of (take (at + 1) items)
    ≡ announced_with (announced_of (take at items)) (get_or items at item)
announced_of-more items at item below = ap announced_of (take_more items at item below) ∙ announced_of-push (take at items) (get_or items at item)
