-- Relations: what a call did that wrote a text into a page.

use Rattle.std.specs.Prelude.{◌≡◌, ℕ, ◌+◌, ◌≤◌, List, ◌++◌, length, take}

-- A call turned the page `old` into `new`: it wrote the text `written` from `at` on. The text ends
-- before `end`, and has at most `room` bytes. From `end` on, `new` may hold anything.
pub record PutsText (old new : List ℕ) (at end room : ℕ) (written : List ℕ) : Type 0 where
  pub text : take end new ≡ take at old ++ written
  pub fits : end ≤ at + room
  pub size : length new ≡ length old
