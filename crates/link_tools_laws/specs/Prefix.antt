-- The texts of a tool that some bytes determine, and the texts of inputs that begin with them.
use Rattle.std.specs.Prelude.{◌≡◌, ℕ, List, ◌++◌}
use Rattle.link_run.specs.Run.{Tool}

-- the whole list begins with this one
abbrev pub IsPrefixOf : {A : Type 0} → List A → List A → Type 0
IsPrefixOf {A} list whole = (rest : List A) × (whole ≡ list ++ rest)

-- The texts that the bytes determine are prefixes of the texts of an input that has these bytes and
-- then `more`.
pub record HasPrefixTexts (tool : Tool) (bytes more : List ℕ) : Type 0 where
  pub output : IsPrefixOf (tool.so_far bytes).output (tool.whole (bytes ++ more)).texts.output
  pub report : IsPrefixOf (tool.so_far bytes).report (tool.whole (bytes ++ more)).texts.report
