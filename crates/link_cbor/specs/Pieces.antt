-- The bytes that a scan consumes of those that it is given.

use Rattle.std.specs.Prelude.{◌≡◌, ◌↔◌, ℕ, ◌<◌, Bool, true, false, List, [], ◌∷◌, ◌++◌, length, take, if◌then◌else◌}
use Rattle.std.proofs.Common.{◌⊎◌}

-- `seen` is the list of bytes seen before; `goes` is whether more bytes are needed after a list

-- the bytes that a scan consumes: the shortest prefix after which no more are needed, or all bytes
unfoldable pub taken : (List ℕ → Bool) → List ℕ → List ℕ → List ℕ
taken goes seen [] = []
taken goes seen (byte ∷ bytes) =
    if goes seen then byte ∷ taken goes (seen ++ byte ∷ []) bytes else []

-- `front` is the prefix that `taken` returns, described by its properties
pub record IsShortestPrefix (goes : List ℕ → Bool) (seen bytes front : List ℕ) : Type 0 where
  pub is_front : front ≡ take (length front) bytes
  -- more bytes were needed before each byte that was taken
  pub wanted : (count : ℕ) → count < length front → goes (seen ++ take count front) ≡ true
  -- no more bytes are needed, or none is left
  pub stops : (goes (seen ++ front) ≡ false) ⊎ (front ≡ bytes)

-- cutting the bytes into two pieces does not change which of them are taken
abbrev pub PiecesAreTakenAsOne : (List ℕ → Bool) → Type 0
PiecesAreTakenAsOne goes =
    (seen first second : List ℕ) →
    taken goes seen (first ++ second) ≡ taken goes seen first
    ++ taken goes (seen ++ taken goes seen first) second

-- A law: `taken` is the shortest prefix. It is the only list with the properties of
-- `IsShortestPrefix`.
abbrev pub TakenIsShortestPrefix : (List ℕ → Bool) → Type 0
TakenIsShortestPrefix goes =
    (seen bytes front : List ℕ)
    → IsShortestPrefix goes seen bytes front ↔ (front ≡ taken goes seen bytes)
