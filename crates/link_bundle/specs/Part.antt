-- Relations: the payload's bytes of a piece of the data.
use Rattle.std.specs.Prelude.{ℕ, ◌+◌, ◌-◌, min, List, length, slice_range}

-- The bytes of a piece whose offsets in the data are at least `offset`, and below `offset + count`.
-- The piece begins after the first `before` bytes of the data.
abbrev pub part_in : List ℕ → (before offset count : ℕ) → List ℕ
part_in piece before offset count =
    let end = min ((offset + count) - before) (length piece) in
    slice_range piece (min (offset - before) end) end
