-- Fields that are there, and fields that are missing.
use Rattle.std.proofs.Common.{◌≡◌, ℕ, false, eqb, ◌+◌, ◌<◌, ◌≤◌, List, ◌++◌, length, take, drop, Result, Ok, Err, arith, refl, ap, sym, ◌∙◌, length-append, length-drop, ⊎_elim}
use Rattle.std.proofs.lemmas.Bool.{cases_lt, lt-ltb, le-ltb, ne_eqb}
use Rattle.std.proofs.Math.Seq.{take-append_seam, drop-append_seam}
use Rattle.link_wire.specs.Message.{fields_at}
use Rattle.link_wire.specs.Part.{Part, ◌>>=◌, bytes_at}
use Rattle.link_wire.specs.declared.fault.WireFault.{WireFault}
use Rattle.link_wire.specs.declared.fault.WireFault.TheVariants.{Truncated, UnknownType}

pub bytes_at-short : (n : ℕ) (bytes : List ℕ) → length bytes < n → bytes_at n bytes ≡ Err Truncated
unfolding bytes_at
bytes_at-short n bytes short = rw (lt-ltb (length bytes) n short) refl

pub bytes_at-enough : (n : ℕ) (bytes : List ℕ) → n ≤ length bytes
    → bytes_at n bytes ≡ Ok (take n bytes, drop n bytes)
unfolding bytes_at
bytes_at-enough n bytes enough = rw (le-ltb (length bytes) n enough) refl

pub bytes_at-there : (field more : List ℕ)
    → bytes_at (length field) (field ++ more) ≡ Ok (field, more)
unfolding bytes_at
bytes_at-there field more =
    let there : length field ≤ length (field ++ more) = omega (arith, length-append field more) in
    rw (le-ltb (length (field ++ more)) (length field) there, take-append_seam, drop-append_seam) refl

-- two results of one reading are equal
pub same_part : {A : Type 0} {value other : A} {bytes more : List ℕ}
    → (let read : Part A = Ok (value, bytes) in read) ≡ Ok (other, more)
    → (value ≡ other) × (bytes ≡ more)
same_part {A} {value} {other} {bytes} {more} is =
    let both : (value, bytes) ≡ (other, more) = cc in
    (ap (λ (p : A × List ℕ). p.0) both, ap (λ (p : A × List ℕ). p.1) both)

-- a part that was read in two steps
pub both_read : {A B : Type 0} (read : Result A WireFault) (next : A → Result B WireFault)
    (value : B) → read >>= next ≡ Ok value
    → (first : A) × (read ≡ Ok first) × (next first ≡ Ok value)
both_read (Ok first) next value is = (first, refl, is)
both_read (Err fault) next value is = absurd (cc)

-- a type byte that no message has is a fault, whatever follows it
pub fields_at-unknown : (kind : ℕ) (rest : List ℕ)
    → ((n : ℕ) → (0 < n) × (n ≤ 7) → kind ≡ n → ⊥) → fields_at kind rest ≡ Err (UnknownType kind)
unfolding fields_at
fields_at-unknown kind rest other =
    let no : (n : ℕ) → (0 < n) × (n ≤ 7) → eqb kind n ≡ false =
    λ n known. ne_eqb kind n (other n known) in
    rw (
      no 1 (omega arith, omega arith),
      no 2 (omega arith, omega arith),
      no 3 (omega arith, omega arith),
      no 4 (omega arith, omega arith),
      no 5 (omega arith, omega arith),
      no 6 (omega arith, omega arith),
      no 7 (omega arith, omega arith),
    ) refl

-- a field of `n` bytes that was read, and the bytes after it
pub bytes_gone : (n : ℕ) (bytes field rest : List ℕ) → bytes_at n bytes ≡ Ok (field, rest)
    → (length bytes ≡ length rest + n) × (n ≤ length bytes)
    × (take n bytes ≡ field) × (drop n bytes ≡ rest)
bytes_gone n bytes field rest is = ⊎_elim
    (λ short. let never = sym (bytes_at-short n bytes short) ∙ is in absurd (cc))
    (λ enough.
    let same = same_part (sym (bytes_at-enough n bytes enough) ∙ is) in
    (omega (arith, enough, ap length same.1, length-drop n bytes), enough, same.0, same.1))
    (cases_lt (length bytes) n)
