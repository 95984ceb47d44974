-- Pieces that are written into a slice one after another.
use Rattle.std.proofs.Common.{◌≡◌, ℕ, ◌+◌, ◌≤◌, nat_le, true, List, ◌++◌, length, take, drop, Some, Ok, arith, refl, ap, ◌∙◌, length-append, zero-add}
use Rattle.std.proofs.Math.Seq.{take-append_seam, drop-append-add}
use Rattle.std.proofs.lemmas.{List.drop-drop, Bool.Decides.nat_tests}
use Rattle.link_writing.specs.Writes.{WritesIntoSlice}

-- the slice after some bytes were written to its start
abbrev pub begun : (front slice : List ℕ) → List ℕ
begun front slice = front ++ drop (length front) slice

-- a piece that is written after them
begun-next : (front bytes slice : List ℕ)
    → take (length front) (begun front slice) ++ bytes
    ++ drop (length front + length bytes) (begun front slice)
    ≡ begun (front ++ bytes) slice
begun-next front bytes slice =
    rw (
      take-append_seam front (drop (length front) slice),
      drop-append-add front (drop (length front) slice) (length bytes),
      drop-drop (length bytes) (length front) slice,
      length-append front bytes,
    ) refl

-- bytes that fit were written to the start of a slice
all_written : (bytes slice : List ℕ) → length bytes ≤ length slice
    → WritesIntoSlice (Some bytes) slice (begun bytes slice) (Ok (length bytes))
all_written bytes slice fits =
    let room : nat_le (length bytes) (length slice) ≡ true = grind (arith, nat_tests) in
    record { slice = rw room refl; returns = rw room refl }

pub three_parts : (f g h slice one two all : List ℕ)
    → length f + length g + length h ≤ length slice
    → one ≡ take 0 slice ++ f ++ drop (0 + length f) slice
    → two ≡ take (length f) one ++ g ++ drop (length f + length g) one
    → all ≡ take (length f + length g) two ++ h ++ drop (length f + length g + length h) two
    → WritesIntoSlice (Some (f ++ g ++ h)) slice all (Ok (length f + length g + length h))
three_parts f g h slice one two all fits is_one is_two is_all =
    let first : one ≡ begun f slice = rw zero-add at is_one in
    let second : two ≡ begun (f ++ g) slice =
    rw first at is_two ∙ begun-next f g slice in
    let third : all ≡ begun (f ++ g ++ h) slice =
    rw (second, ← length-append f g) at is_all ∙ begun-next (f ++ g) h slice in
    let size : length (f ++ g ++ h) ≡ length f + length g + length h =
    length-append (f ++ g) h ∙ ap (λ n. n + length h) (length-append f g) in
    rw (third, ← size) (all_written (f ++ g ++ h) slice (rw size fits))
