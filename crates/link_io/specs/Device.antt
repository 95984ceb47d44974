-- The state of a device, as contracts see it.
use Rattle.std.specs.Prelude.{◌≡◌, ℕ, Bool, List, ◌++◌, Option, None, Some, ⊤}

-- An input device. `left` is the bytes that are left, or `None` if they are not known. `failed` is
-- whether a read has failed. `held` is the first of the bytes left, which the device holds already.
pub record Input : Type 0 where
  pub left : Option (List ℕ)
  pub failed : Bool
  pub held : List ℕ

-- An output device. `written` is the bytes written, and `handed` is those of them that were handed
-- on. Each is `None` if it is not known. `failed` is whether a write or a settle has failed.
pub record Output : Type 0 where
  pub written : Option (List ℕ)
  pub failed : Bool
  pub handed : Option (List ℕ)

-- the bytes, if they are known, begin with these
abbrev pub BeginsWith : Option (List ℕ) → List ℕ → Type 0
BeginsWith None bytes = ⊤
BeginsWith (Some all) bytes = (rest : List ℕ) × (all ≡ bytes ++ rest)
