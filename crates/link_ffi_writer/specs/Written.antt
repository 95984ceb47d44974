-- What a writer returns, as numbers.
use Rattle.std.specs.Prelude.{◌≡◌, ℕ, List, Option, Result, Ok, Err}
use Rattle.link_writing.specs.Writes.{slice_after, outcome}
use Rattle.link_writing.specs.declared.fault.WriteFault.{WriteFault}
use Rattle.link_writing.specs.declared.fault.WriteFault.TheVariants.{OutOfRange, TooSmall}
use Rattle.link_ffi_writer.specs.declared.written.Written.{Written}
use Rattle.link_ffi_numbers.specs.Status.{status_ok, status_too_small, status_range}

-- the number of bytes written, the number of bytes needed, and the status: TCPCLKIT_OK,
-- TCPCLKIT_TOO_SMALL or TCPCLKIT_RANGE
abbrev pub written_shown : Result ℕ WriteFault → Written × ℕ
written_shown (Ok size) = (record { count = size; needed = size }, status_ok)
written_shown (Err (TooSmall size)) = (record { count = 0; needed = size }, status_too_small)
written_shown (Err OutOfRange) = (record { count = 0; needed = 0 }, status_range)

-- A function of the C library had these bytes to write, or `None` if a number is out of its range.
-- It left `new` in the slice `old`, and returned `written` and `status`.
pub record ReturnsWritten (bytes : Option (List ℕ)) (old new : List ℕ) (written : Written)
    (status : ℕ) : Type 0 where
  pub slice : new ≡ slice_after old bytes
  pub answer : (written, status) ≡ written_shown (outcome old bytes)
