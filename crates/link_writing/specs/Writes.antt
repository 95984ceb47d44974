-- What a writer leaves in a slice of its caller, and what it returns.
use Rattle.std.specs.Prelude.{◌≡◌, ℕ, nat_le, List, ◌++◌, length, drop, Option, Some, None, Result, Ok, Err, if◌then◌else◌}
use Rattle.link_writing.specs.declared.fault.WriteFault.{WriteFault}
use Rattle.link_writing.specs.declared.fault.WriteFault.TheVariants.{OutOfRange, TooSmall}

-- the slice with these bytes at its start; a slice that is too small for them stays as it was
abbrev pub overwritten : (slice bytes : List ℕ) → List ℕ
overwritten slice bytes =
    if nat_le (length bytes) (length slice) then bytes ++ drop (length bytes) slice else slice

-- the slice after a writer that had these bytes to write; `None` writes nothing
abbrev pub slice_after : (slice : List ℕ) → Option (List ℕ) → List ℕ
slice_after slice None = slice
slice_after slice (Some bytes) = overwritten slice bytes

-- What the writer returns: the number of bytes written, or the length that a larger slice needs. A
-- writer without bytes to write was given a value out of its range.
abbrev pub outcome : (slice : List ℕ) → Option (List ℕ) → Result ℕ WriteFault
outcome slice None = Err OutOfRange
outcome slice (Some bytes) =
    if nat_le (length bytes) (length slice) then Ok (length bytes)
    else Err (TooSmall (length bytes))

-- A writer had these bytes to write, or `None` if a value is out of its range. It left `new` in the
-- slice, which was `old`, and returned `result`.
pub record WritesIntoSlice (bytes : Option (List ℕ)) (old new : List ℕ)
    (result : Result ℕ WriteFault) : Type 0 where
  pub slice : new ≡ slice_after old bytes
  pub returns : result ≡ outcome old bytes
