-- Slices that a text was written to.
use Rattle.std.proofs.Common.{◌≡◌, ℕ, suc, min, List, [], ◌∷◌, ◌++◌, length, take, drop, refl, ap, append_assoc, arith}
use Rattle.std.proofs.lemmas.List.{drop_all, take_at, drop_at}
use Rattle.link_ffi_tools.specs.Slice.{HoldsPrefix, LeavesRest, overlaid, labelled}

-- a piece that was written after the text
pub after_piece : (before text piece : List ℕ) (at : ℕ)
    → at ≡ min (length (overlaid before text)) (length text)
    → take at (overlaid before text) ++ overlaid (drop at (overlaid before text)) piece
    ≡ overlaid before (text ++ piece)
after_piece [] text piece at is =
    let none : (xs : List ℕ) → overlaid [] xs ≡ [] = λ xs. drop_all (length xs) [] (omega arith) in
    let start : at ≡ 0 = omega (arith, ap length (none text)) in
    rw (start, none text, none piece, none (text ++ piece))
after_piece (x ∷ before) [] piece at is =
    let start : at ≡ 0 = omega arith in
    rw start
after_piece (x ∷ before) (y ∷ text) piece at is =
    let less : at ≡ suc (min (length (overlaid before text)) (length text)) = omega arith in
    rw less (ap (λ (xs : List ℕ). y ∷ xs) (after_piece before text piece _ refl))

pub overlaid_nothing : (before : List ℕ) → overlaid before [] ≡ before
overlaid_nothing [] = refl
overlaid_nothing (x ∷ before) = refl

pub holds_front : (before text : List ℕ) → HoldsPrefix (overlaid before text) text
holds_front [] [] = refl
holds_front [] (y ∷ text) = refl
holds_front (x ∷ before) [] = refl
holds_front (x ∷ before) (y ∷ text) = ap (λ (xs : List ℕ). y ∷ xs) (holds_front before text)

pub keeps_rest : (before text : List ℕ) → LeavesRest before (overlaid before text) text
keeps_rest [] [] = refl
keeps_rest [] (y ∷ text) = refl
keeps_rest (x ∷ before) [] = refl
keeps_rest (x ∷ before) (y ∷ text) = keeps_rest before text

-- ---- what a label says

-- two texts after labels that are the same: the names, the slices and the texts
pub labels_are : (a b : ℕ) (xs ys s t piece : List ℕ)
    → labelled a xs s ≡ labelled b ys t ++ piece → (a ≡ b) × (xs ≡ ys) × (s ≡ t ++ piece)
labels_are a b xs ys s t piece is =
    let all : labelled a xs s ≡ labelled b ys (t ++ piece) = rw append_assoc at is in
    let names : a ≡ b = cc in
    let size : length xs ≡ length ys = cc in
    let befores : xs ≡ ys = cc (take_at xs s _ size, take_at ys (t ++ piece) _ refl) in
    let texts : s ≡ t ++ piece = cc (drop_at xs s _ size, drop_at ys (t ++ piece) _ refl) in
    (names, befores, texts)
