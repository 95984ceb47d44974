-- That many bytes from an offset on, taken in runs.

use Rattle.std.proofs.Common.{◌≡◌, ℕ, ◌+◌, ◌-◌, ◌<◌, ◌≤◌, Bool, true, false, List, [], ◌++◌, length, take, drop, Option, Result, Ok, Err, refl, sym, ap, ◌∙◌, arith, add-zero, ltb, length-append, length-drop}
use Rattle.std.specs.Prelude.{if◌then◌else◌}
use Rattle.std.proofs.lemmas.{Bool.{le-ltb, lt-ltb}, List.drop-drop}
use Rattle.std.proofs.Math.Seq.{drop-append_seam, take-append-add}
use Rattle.link_bundle_heads.specs.Rows.{◌>>=◌}
use Rattle.link_cbor.specs.declared.check.CheckKind.{CheckKind}
use Rattle.link_bundle_blocks.specs.{Reading.{ReadAt, Stop, cut_short, bytes_at}, Canonical.content_at}

pub bytes_at-none : (bytes : List ℕ) (offset : ℕ) → offset ≤ length bytes
    → bytes_at 0 bytes offset ≡ Ok ([], offset)
unfolding bytes_at
bytes_at-none bytes offset within =
    let enough : ltb (length bytes) (offset + 0) ≡ false =
    le-ltb (length bytes) (offset + 0) (omega arith) in
    rw enough (rw add-zero refl)

-- more bytes are needed if the bytes end before
pub bytes_at-cut : (left : ℕ) (bytes : List ℕ) (offset : ℕ) → length bytes < offset + left
    → bytes_at left bytes offset ≡ cut_short bytes
unfolding bytes_at
bytes_at-cut left bytes offset ends = rw (lt-ltb (length bytes) (offset + left) ends) refl

pub content_at-cut : (size : ℕ) (check : Option CheckKind) (start : ℕ) (bytes : List ℕ) (offset : ℕ)
    → length bytes < offset + size → content_at size check start bytes offset ≡ cut_short bytes
unfolding content_at
content_at-cut size check start bytes offset ends = rw (bytes_at-cut size bytes offset ends) refl

pub drop-run : (bytes more run : List ℕ) (offset : ℕ) → drop offset bytes ≡ run ++ more
    → drop (offset + length run) bytes ≡ more
drop-run bytes more run offset here =
    sym (drop-drop (length run) offset bytes) ∙ ap (λ (rest : List ℕ). drop (length run) rest) here
    ∙ drop-append_seam run more

-- a run lies within the bytes
pub run_within : (bytes more run : List ℕ) (offset : ℕ) → drop offset bytes ≡ run ++ more
    → 0 < length run → offset + length run ≤ length bytes
run_within bytes more run offset here some =
    omega (arith, length-drop offset bytes, ap length here, length-append run more)

abbrev pub with_run : List ℕ → ReadAt (List ℕ) → ReadAt (List ℕ)
with_run run reading = reading >>= λ (bytes, offset). Ok (run ++ bytes, offset)

with_run-chosen : (short : Bool) (next : ℕ) (bytes run rest : List ℕ)
    → (if short then cut_short bytes else Ok (run ++ rest, next))
    ≡ with_run run (if short then cut_short bytes else Ok (rest, next))
with_run-chosen true next bytes run rest = refl
with_run-chosen false next bytes run rest = refl

-- the bytes of a run, and then the others
pub bytes_at-run : (left : ℕ) (bytes more run : List ℕ) (offset : ℕ)
    → drop offset bytes ≡ run ++ more → length run ≤ left
    → bytes_at left bytes offset
    ≡ with_run run (bytes_at (left - length run) bytes (offset + length run))
unfolding bytes_at
bytes_at-run left bytes more run offset here fits =
    let all : left ≡ length run + (left - length run) = omega arith in
    let end : offset + left ≡ offset + length run + (left - length run) = omega arith in
    let split : take left (drop offset bytes) ≡ run ++ take (left - length run) more =
    ap (λ (rest : List ℕ). take left rest) here
    ∙ ap (λ (count : ℕ). take count (run ++ more)) all
    ∙ take-append-add run more (left - length run) in
    rw (end, split, drop-run bytes more run offset here)
    (with_run-chosen (ltb (length bytes) (offset + length run + (left - length run)))
    (offset + length run + (left - length run)) bytes run (take (left - length run) more))

-- what follows a run and the others
pub with_run-then : {A : Type 0} (run : List ℕ) (reading : ReadAt (List ℕ))
    (next later : List ℕ × ℕ → Result A Stop)
    → ((rest : List ℕ) (offset : ℕ) → next (run ++ rest, offset) ≡ later (rest, offset))
    → (with_run run reading >>= next) ≡ (reading >>= later)
with_run-then run (Ok (rest, offset)) next later each = each rest offset
with_run-then run (Err stop) next later each = refl
