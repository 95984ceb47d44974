-- Texts in slices that may be too small.
use Rattle.std.specs.Prelude.{◌≡◌, ℕ, List, ◌∷◌, ◌++◌, length, take, drop}

-- the slice begins with the text, or has the text's first bytes if it is too small
abbrev pub HoldsPrefix : List ℕ → List ℕ → Type 0
HoldsPrefix slice text = take (length text) slice ≡ take (length slice) text

-- the bytes of the slice after the text are as they were
abbrev pub LeavesRest : (old new text : List ℕ) → Type 0
LeavesRest old new text = drop (length text) new ≡ drop (length text) old

-- What a slice contains after the text was written to its start, as far as it fits. The slice had
-- the bytes `before`.
abbrev pub overlaid : (before text : List ℕ) → List ℕ
overlaid before text = take (length before) text ++ drop (length text) before

-- What counts as written to a slice: a label of the slice, and then the text. The label is the name
-- of the reference to the slice, its length, and the bytes that it had before. It shows that a run
-- has returned the same slice.
abbrev pub labelled : (name : ℕ) → (before text : List ℕ) → List ℕ
labelled name before text = name ∷ length before ∷ (before ++ text)
