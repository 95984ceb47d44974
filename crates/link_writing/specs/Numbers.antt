-- Numbers as bytes.
use Rattle.std.specs.Prelude.{ℕ, List}
use Rattle.std.specs.Int.{bytes_high_first}

-- the `k` bytes whose value is `n`, the most significant first
abbrev pub be : ℕ → ℕ → List ℕ
be k n = bytes_high_first k n
