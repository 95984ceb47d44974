-- A tool that says less than another of the same bytes withholds something.
use Rattle.std.proofs.Common.{ℕ, ◌<◌, ⊎_elim, List, length, ap, ◌∙◌, length-append, arith}
use Rattle.link_run.specs.Run.{Tool}
use Rattle.link_tools_laws.specs.{Prefix.{IsPrefixOf, HasPrefixTexts}, Withheld.{HasLongestSoFar, SaysLess}}

-- a prefix is not longer
no_longer : (text whole : List ℕ) → IsPrefixOf text whole → length whole < length text → ⊥
no_longer text whole (rest, is) fewer =
    omega (arith, fewer, ap length is ∙ length-append text rest)

pub said_less : {tool : Tool} (less : Tool) (bytes : List ℕ)
    → ((more : List ℕ) → HasPrefixTexts tool bytes more)
    → SaysLess tool less bytes → HasLongestSoFar less bytes → ⊥
said_less {tool} less bytes prefix says nothing =
    ⊎_elim
    (λ fewer. no_longer _ _ (nothing.output (tool.so_far bytes).output
    (λ more are. rw says.whole (prefix more).output)) fewer)
    (λ fewer. no_longer _ _ (nothing.report (tool.so_far bytes).report fewer.0
    (λ more are. rw says.whole (prefix more).report)) fewer.1)
    says.lacks
