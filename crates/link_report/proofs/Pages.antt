-- The text in a page.
use Rattle.std.proofs.Common.{◌≡◌, ℕ, ◌+◌, ◌-◌, ◌≤◌, List, ◌++◌, length, take, drop, refl, ap, sym, ◌∙◌, append_assoc, length-append, take-append-drop, arith}
use Rattle.std.proofs.Math.Seq.{take-append-add, take-append_seam}
use Rattle.std.proofs.lemmas.List.{length-take-le, take-append-le}

-- a text that was written from an index on
pub text_from : (old new text : List ℕ) (at end : ℕ) → at ≤ length old → at + length text ≡ end
    → take at new ≡ take at old → drop at new ≡ text ++ drop end old
    → take end new ≡ take at old ++ text
text_from old new text at end within ends before written =
    let whole : new ≡ (take at old ++ text) ++ drop end old = sym (take-append-drop at new) ∙ rw (before, written) (sym (append_assoc (take at old) text (drop end old))) in
    let size : length (take at old ++ text) ≡ end = length-append (take at old) text ∙ omega (arith, length-take-le at old within) in
    ap (take end) whole ∙ (rw size at (take-append_seam (take at old ++ text) (drop end old)))

-- the first bytes of a text in a page
pub front_behind : (old new text : List ℕ) (at end count : ℕ) → at ≤ length old
    → count ≤ length text → take end new ≡ take at old ++ text →
    take (at + count) new ≡ take at old ++ take count text
front_behind old new text at end count within fits stands =
    let size : length (take at old) ≡ at = length-take-le at old within in
    let ends : at + count ≤ length (take end new) = omega (arith, ap length stands, length-append (take at old) text, size) in
    ap (take (at + count)) (sym (take-append-drop end new)) ∙ take-append-le (at + count) (take end new) (drop end new) ends
    ∙ ap (take (at + count)) stands ∙ (rw size at (take-append-add (take at old) text count))

-- a text that was written over the end of another one
pub over_end : (old copied new text last : List ℕ) (at start end : ℕ) → at ≤ length old
    → length last ≤ length text → end ≡ at + length text → end ≤ length copied → start + length last ≡ end
    → take end copied ≡ take at old ++ text → take start new ≡ take start copied
    → drop start new ≡ last ++ drop end copied
    → take end new ≡ take at old ++ (take (length text - length last) text ++ last)
over_end old copied new text last at start end within fits is room ends stands before written =
    let count : at + (length text - length last) ≡ start = omega arith in
    let front : take start copied ≡ take at old ++ take (length text - length last) text = rw (← count) (front_behind old copied text at end (length text - length last) within (omega arith) stands) in
    text_from copied new last start end (omega arith) ends before written ∙ rw (front, append_assoc) refl
