-- The items of a segment in a buffer.
use Rattle.std.proofs.Common.{◌≡◌, ℕ, List, [], ◌∷◌, length, true, false, cond, codes, refl, arith}
use Rattle.std.proofs.lemmas.Fmt.{decimal_digit}
use Rattle.arrayvec.specs.ArrayVec.{ArrayVec}
use Rattle.link_wire.specs.{Codes.is_start, MessageBuffer.segment_items, declared.message.Item.Item}
use Rattle.link_report.specs.Message.{start_items_text, segment_text, items_text}
use Rattle.link_report.specs.Text.{number_text}

-- the text of a list without items
pub no_items : (items : List Item) → length items ≡ 0 → items_text items ≡ codes " items=0"
unfolding items_text number_text
no_items [] none = rw (decimal_digit 0 (omega arith)) refl
no_items (item ∷ items) none = absurd (omega (arith, none))

-- The line shows items only for a segment with START. A message keeps only those items.
pub start_items_text-segment_items : (flags : ℕ) (items : ArrayVec Item) →
    start_items_text flags (segment_items flags items).items ≡ start_items_text flags items.items
unfolding start_items_text
start_items_text-segment_items flags items =
    let none : ArrayVec Item = record { items = [] } in
    elim (is_start flags) as (λ starts. cond starts (items_text (cond starts items none).items) [] ≡ cond starts (items_text items.items) []) [
      | true ↦ refl
      | false ↦ refl
    ]

pub text_of_segment : (flags id : ℕ) (items : ArrayVec Item) (size : ℕ) →
    segment_text flags id (segment_items flags items).items size ≡ segment_text flags id items.items size
unfolding segment_text
text_of_segment flags id items size = rw start_items_text-segment_items
