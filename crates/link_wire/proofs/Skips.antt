-- Bytes that are skipped in pieces.
use Rattle.std.proofs.Common.{◌≡◌, ℕ, ◌+◌, ◌<◌, ◌≤◌, List, length, drop, Ok, Err, arith, refl, ⊎_elim, length-drop}
use Rattle.std.proofs.lemmas.{Bool.{le-ltb, cases_lt}, List.drop-drop}
use Rattle.link_wire.specs.Part.{◌>>=◌, bytes_at}
use Rattle.link_wire.proofs.FieldReads.{bytes_at-short}
use Rattle.link_wire.specs.{Message.skipped_at, declared.fault.WireFault.TheVariants.Truncated}

pub skipped_at-short : (n : ℕ) (bytes : List ℕ) → length bytes < n
    → skipped_at n bytes ≡ Err Truncated
unfolding skipped_at
skipped_at-short n bytes short = rw (bytes_at-short n bytes short) refl

pub skipped_at-there : (n : ℕ) (bytes : List ℕ) → n ≤ length bytes
    → skipped_at n bytes ≡ Ok (tt, drop n bytes)
unfolding skipped_at bytes_at
skipped_at-there n bytes there = rw (le-ltb (length bytes) n there) refl

-- skipping bytes in two pieces
pub skipped_at-add : (a b : ℕ) (bytes : List ℕ)
    → (skipped_at a bytes >>= λ v. skipped_at b v.1) ≡ skipped_at (a + b) bytes
skipped_at-add a b bytes =
    let size = length-drop a bytes in
    ⊎_elim
    (λ short. rw (
      skipped_at-short a bytes short,
      skipped_at-short (a + b) bytes (omega arith),
    ) refl)
    (λ there. rw (skipped_at-there a bytes there) (⊎_elim
    (λ short. rw (
      skipped_at-short b (drop a bytes) short,
      skipped_at-short (a + b) bytes (omega arith),
    ) refl)
    (λ enough. rw (
      skipped_at-there b (drop a bytes) enough,
      skipped_at-there (a + b) bytes (omega arith),
      drop-drop b a bytes,
    ) refl)
    (cases_lt (length (drop a bytes)) b)))
    (cases_lt (length bytes) a)
