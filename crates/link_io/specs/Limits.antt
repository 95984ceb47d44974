-- The limits of an input. The numbers are written here again, so a change of a constant of the code
-- changes no definition.
use Rattle.std.specs.Prelude.{ℕ, ◌-◌, ◌^◌}

-- The most bytes of an input. With this limit an offset fits in 64 bits, and so does the sum of an
-- offset and a length that was read.
abbrev pub longest_input : ℕ
longest_input = 2 ^ 63 - 1

-- the most bytes that a source reads ahead
abbrev pub window_size : ℕ
window_size = 8192
