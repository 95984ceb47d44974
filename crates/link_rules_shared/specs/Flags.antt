-- Flags that are not defined.
use Rattle.std.specs.Prelude.{ℕ, Bool, not, ◌==◌, bit_and}

-- whether a flag is set that is not defined
abbrev pub has_other_flags : (defined flags : ℕ) → Bool
has_other_flags defined flags = not (bit_and flags defined == flags)
