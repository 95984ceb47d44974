-- A piece that is consumed byte by byte.

use Rattle.std.proofs.Common.{◌≡◌, ℕ, ◌+◌, ◌<◌, ◌≤◌, Bool, true, false, List, ◌++◌, length, take, drop, get_or, sym, ap, ◌∙◌, append_assoc, arith}
use Rattle.std.proofs.lemmas.List.{append-nil, take_more, drop_more, length-take-le, drop_all}
use Rattle.link_cbor.specs.{Pieces.taken, PieceLaws.{taken-cons, taken-nil, taken-idle}}

-- the bytes taken are the first `count` bytes of the piece and those taken of the rest
pub record TakenSoFar (goes : List ℕ → Bool) (seen bytes : List ℕ) (count : ℕ) : Type 0 where
  pub splits : taken goes seen bytes ≡ take count bytes
      ++ taken goes (seen ++ take count bytes) (drop count bytes)

-- the bytes taken at the end, and their number
pub record TakenInAll (goes : List ℕ → Bool) (seen bytes : List ℕ) (count : ℕ) : Type 0 where
  pub front : taken goes seen bytes ≡ take count bytes
  pub size : count ≡ length (taken goes seen bytes)

pub none_taken : (goes : List ℕ → Bool) (seen bytes : List ℕ) → TakenSoFar goes seen bytes 0
none_taken goes seen bytes =
    record { splits = ap (λ h. taken goes h bytes) (sym (append-nil seen)) }

pub taken_more : (goes : List ℕ → Bool) (seen bytes : List ℕ) (count : ℕ) → count < length bytes
    → goes (seen ++ take count bytes) ≡ true
    → TakenSoFar goes seen bytes count → TakenSoFar goes seen bytes (count + 1)
taken_more goes seen bytes count below wanted before = record {
  splits = rw (
    before.splits,
    drop_more bytes count 0 below,
    taken-cons goes _ (get_or bytes count 0) (drop (count + 1) bytes) wanted,
    take_more bytes count 0 below,
  ) (simp append_assoc);
}

in_all : (goes : List ℕ → Bool) (seen bytes : List ℕ) (count : ℕ) → count ≤ length bytes
    → taken goes seen bytes ≡ take count bytes → TakenInAll goes seen bytes count
in_all goes seen bytes count within front = record {
  front = front;
  size = sym (ap length front ∙ length-take-le count bytes within);
}

pub taken_stop : (goes : List ℕ → Bool) (seen bytes : List ℕ) (count : ℕ) → count ≤ length bytes
    → goes (seen ++ take count bytes) ≡ false → TakenSoFar goes seen bytes count
    → TakenInAll goes seen bytes count
taken_stop goes seen bytes count within idle before =
    in_all goes seen bytes count within
    (rw (before.splits, taken-idle goes _ (drop count bytes) idle) (append-nil (take count bytes)))

pub taken_all : (goes : List ℕ → Bool) (seen bytes : List ℕ) (count : ℕ) → count ≡ length bytes
    → TakenSoFar goes seen bytes count → TakenInAll goes seen bytes count
taken_all goes seen bytes count all before =
    in_all goes seen bytes count (omega arith) (rw (
      before.splits,
      drop_all count bytes (omega arith),
      taken-nil,
    ) (append-nil (take count bytes)))
