-- Lists of bytes.
use Rattle.std.specs.{Prelude.{ℕ, ◌<◌, List}, List.All}

-- a number from 0 to 255
abbrev pub IsByte : ℕ → Type 0
IsByte byte = byte < 256

-- a byte list: each member is a number from 0 to 255
abbrev pub AreBytes : List ℕ → Type 0
AreBytes bytes = All IsByte bytes
