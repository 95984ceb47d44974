-- A history and the first bytes of a slice, with more of them.

use Rattle.std.proofs.Common.{◌≡◌, ℕ, ◌+◌, ◌-◌, ◌<◌, List, ◌∷◌, [], ◌++◌, length, take, drop, get_or}
use Rattle.std.proofs.lemmas.List.{append_assoc, take_more, take_rest}
use Rattle.std.proofs.Math.Seq.{take-add}

pub joined_more : (before bytes : List ℕ) (count : ℕ) → count < length bytes
    → (before ++ take count bytes) ++ get_or bytes count 0 ∷ [] ≡ before ++ take (count + 1) bytes
joined_more before bytes count below = rw (take_more bytes count 0 below, append_assoc)

pub joined_run : (before bytes : List ℕ) (count more : ℕ)
    → (before ++ take count bytes) ++ take more (drop count bytes)
    ≡ before ++ take (count + more) bytes
joined_run before bytes count more = rw (take-add count more bytes, append_assoc)

-- A scan has taken the first bytes of a slice, and then more of them. `Taken` relates a scan before
-- and after it has taken some bytes.
pub taken_run : {S : Type 0} (Taken : S → S → List ℕ → Type 0)
    → ((old middle new : S) (run more : List ℕ) → Taken old middle run → Taken middle new more
    → Taken old new (run ++ more))
    → (old middle new : S) (bytes : List ℕ) (count more : ℕ) → Taken old middle (take count bytes)
    → Taken middle new (take more (take (length bytes - count) (drop count bytes)))
    → Taken old new (take (count + more) bytes)
taken_run Taken joins old middle new bytes count more first second =
    rw (take-add count more bytes)
    (joins old middle new _ _ first (rw (take_rest bytes count) at second))
