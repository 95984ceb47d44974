-- Relations: the laws of `taken`, over lists alone. They are in this folder because the trait
-- `Piecewise` cites them in its own laws.

use Rattle.std.proofs.Common.{◌≡◌, ℕ, zero, suc, ◌<◌, Bool, true, false, List, [], ◌∷◌, ◌++◌, length, take, refl, sym, ap, ◌⊎◌, inl, inr, ⊎_elim, append_assoc, arith}
use Rattle.std.proofs.lemmas.List.{append-nil}
use Rattle.std.proofs.lemmas.Bool.{cases_Bool}
use Rattle.link_cbor.specs.Pieces.{taken, IsShortestPrefix, PiecesAreTakenAsOne, TakenIsShortestPrefix}

-- no byte is taken if none is needed
pub taken-idle : (goes : List ℕ → Bool) (seen bytes : List ℕ) → goes seen ≡ false
    → taken goes seen bytes ≡ []
unfolding taken
taken-idle goes seen [] idle = refl
taken-idle goes seen (byte ∷ bytes) idle = rw idle refl

-- a byte is taken if more are needed
pub taken-cons : (goes : List ℕ → Bool) (seen : List ℕ) (byte : ℕ)
    (bytes : List ℕ) → goes seen ≡ true
    → taken goes seen (byte ∷ bytes) ≡ byte ∷ taken goes (seen ++ byte ∷ []) bytes
unfolding taken
taken-cons goes seen byte bytes wanted = rw wanted refl

pub taken-nil : (goes : List ℕ → Bool) (seen : List ℕ) → taken goes seen [] ≡ []
unfolding taken
taken-nil goes seen = refl

pub joins_pieces : (goes : List ℕ → Bool) → PiecesAreTakenAsOne goes
joins_pieces goes seen [] second =
    rw (taken-nil goes seen, append-nil seen)
joins_pieces goes seen (byte ∷ first) second =
    ⊎_elim
    (λ wanted. rw (
      taken-cons goes seen byte (first ++ second) wanted,
      taken-cons goes seen byte first wanted,
      joins_pieces goes (seen ++ byte ∷ []) first second,
      append_assoc seen (byte ∷ []) (taken goes (seen ++ byte ∷ []) first),
    ))
    (λ idle. rw (
      taken-idle goes seen (byte ∷ first ++ second) idle,
      taken-idle goes seen (byte ∷ first) idle,
      append-nil seen,
      taken-idle goes seen second idle,
    ))
    (cases_Bool (goes seen))

shortest-none : (goes : List ℕ → Bool) (seen bytes : List ℕ) → (goes seen ≡ false) ⊎ ([] ≡ bytes)
    → IsShortestPrefix goes seen bytes []
shortest-none goes seen bytes stop = record {
  is_front = refl;
  wanted = λ count below. absurd (omega arith);
  stops = rw append-nil stop;
}

-- If more bytes are needed before `byte`, and after it before each byte of `front`, then they are
-- needed before each byte of `byte ∷ front`.
wanted-more : (goes : List ℕ → Bool) (seen : List ℕ) (byte : ℕ) (front : List ℕ) → goes seen ≡ true
    → ((count : ℕ) → count < length front → goes ((seen ++ byte ∷ []) ++ take count front) ≡ true)
    → (count : ℕ) → count < suc (length front) → goes (seen ++ take count (byte ∷ front)) ≡ true
wanted-more goes seen byte front wanted rest zero below = rw append-nil wanted
wanted-more goes seen byte front wanted rest (suc count) below =
    rw append_assoc at (rest count (omega arith))

shortest-more : (goes : List ℕ → Bool) (seen : List ℕ) (byte : ℕ) (bytes front : List ℕ)
    → goes seen ≡ true
    → IsShortestPrefix goes (seen ++ byte ∷ []) bytes front
    → IsShortestPrefix goes seen (byte ∷ bytes) (byte ∷ front)
shortest-more goes seen byte bytes front wanted rest = record {
  is_front = cc;
  wanted = wanted-more goes seen byte front wanted rest.wanted;
  stops = grind (arith, append_assoc {A = ℕ}, rest.stops);
}

taken_is_shortest : (goes : List ℕ → Bool) (seen bytes : List ℕ)
    → IsShortestPrefix goes seen bytes (taken goes seen bytes)
taken_is_shortest goes seen [] = rw (taken-nil goes seen) (shortest-none goes seen [] (inr refl))
taken_is_shortest goes seen (byte ∷ bytes) =
    ⊎_elim (λ wanted. rw (taken-cons goes seen byte bytes wanted)
    (shortest-more goes seen byte bytes _ wanted
    (taken_is_shortest goes (seen ++ byte ∷ []) bytes)))
    (λ idle. rw (taken-idle goes seen (byte ∷ bytes) idle)
    (shortest-none goes seen (byte ∷ bytes) (inl idle)))
    (cases_Bool (goes seen))

-- what is taken is the only shortest prefix
is_taken : (goes : List ℕ → Bool) (seen bytes front : List ℕ)
    → IsShortestPrefix goes seen bytes front → front ≡ taken goes seen bytes
is_taken goes seen [] [] shortest = sym (taken-nil goes seen)
is_taken goes seen [] (first ∷ front) shortest = absurd (let none = shortest.is_front in cc)
is_taken goes seen (byte ∷ bytes) [] shortest =
    ⊎_elim (λ idle. sym (taken-idle goes seen (byte ∷ bytes) (rw append-nil at idle)))
    (λ all. absurd (cc)) shortest.stops
is_taken goes seen (byte ∷ bytes) (first ∷ front) shortest =
    let parts : first ∷ front ≡ byte ∷ take (length front) bytes = shortest.is_front in
    let same : first ≡ byte = cc in
    let rest : IsShortestPrefix goes (seen ++ byte ∷ []) bytes front = record {
      is_front = cc;
      wanted = λ count below. rw (append_assoc seen (byte ∷ []) (take count front), ← same)
          (shortest.wanted (suc count) (omega arith));
      stops = rw (append_assoc seen (byte ∷ []) front, ← same)
          (⊎_elim (λ stop. inl stop) (λ all. inr (cc)) shortest.stops);
    } in
    rw (taken-cons goes seen byte bytes (rw append-nil at (shortest.wanted 0 (omega arith))), same)
    (ap (λ (t : List ℕ). byte ∷ t) (is_taken goes (seen ++ byte ∷ []) bytes front rest))

pub takes_shortest : (goes : List ℕ → Bool) → TakenIsShortestPrefix goes
takes_shortest goes seen bytes front = (
  is_taken goes seen bytes front,
  λ same. rw same (taken_is_shortest goes seen bytes),
)
