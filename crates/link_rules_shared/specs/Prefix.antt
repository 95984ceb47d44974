-- Relations: the first bytes of a bundle.
use Rattle.std.specs.Prelude.{◌≡◌, ℕ, List, take}
use Rattle.link_rules_shared.specs.declared.unread.Prefix.{Prefix}

-- the prefix has the first four of these bytes, or all if there are fewer
pub record HasFirstFourBytes (prefix : Prefix) (seen : List ℕ) : Type 0 where
  pub bytes : prefix.bytes.items ≡ take 4 seen
