-- The head that some bytes begin with, read at once.

use Rattle.std.proofs.Common.{◌≡◌, ℕ, ◌-◌, ◌/◌, ◌^◌, ◌<◌, ◌≤◌, true, nat_lt, List, [], ◌∷◌, length, take, drop, get_or, refl, arith}
use Rattle.std.specs.Prelude.{◌==◌, bit_and}
use Rattle.std.proofs.lemmas.{Bool.{eqb-true, Decides.nat_tests}, List.{take_rest, length-drop}, Nat.{and_le_r, and_mask}}
use Rattle.link_cbor.specs.Head.{Cut, argument_front, front_by, head_front, is_cut}
use Rattle.link_cbor.proofs.HeadLaws.{left_by, cut_by-left, front_by-argument}

pub head_front-nil : (bytes : List ℕ) → (length bytes == 0) ≡ true → head_front bytes ≡ Cut
unfolding head_front
head_front-nil [] none = refl
head_front-nil (first ∷ rest) none = absurd (omega (arith, eqb-true (length (first ∷ rest)) 0 none))

-- a head by its first byte and the others
pub first_by : (first : ℕ) (rest : List ℕ)
    → head_front (first ∷ rest) ≡ front_by (first / 32) (bit_and first 31) rest
unfolding head_front
first_by first rest = rw (and_mask first 5) refl

pub by_first : (bytes : List ℕ) → 0 < length bytes
    → head_front bytes ≡ front_by (get_or bytes 0 0 / 32)
    (bit_and (get_or bytes 0 0) 31) (drop 1 bytes)
by_first [] some = absurd (omega arith)
by_first (first ∷ rest) some = first_by first rest

pub below_32 : (first : ℕ) → bit_and first 31 ≤ 31
below_32 first = and_le_r first 31

-- a head with additional information 24 to 27
pub by_argument : (bytes : List ℕ) (information : ℕ) → 0 < length bytes
    → bit_and (get_or bytes 0 0) 31 ≡ information → 24 ≤ information → information < 28
    → head_front bytes ≡ argument_front (get_or bytes 0 0 / 32) (2 ^ (information - 24))
    (take (length bytes - 1) (drop 1 bytes))
by_argument bytes information some is least below =
    rw (
      take_rest bytes 1,
      by_first bytes some,
      is,
      front_by-argument (get_or bytes 0 0 / 32) information (drop 1 bytes) least below,
    )

-- whether a head is cut, by its additional information
pub cut_by : (bytes : List ℕ) → 0 < length bytes
    → is_cut (head_front bytes)
    ≡ nat_lt (length bytes - 1) (left_by (bit_and (get_or bytes 0 0) 31))
cut_by bytes some =
    rw (
      by_first bytes some,
      cut_by-left (get_or bytes 0 0 / 32) (bit_and (get_or bytes 0 0) 31) (drop 1 bytes),
      length-drop 1 bytes,
    ) refl

pub ruleset cut = (head_front-nil, cut_by, nat_tests)

-- what the reading of a first byte follows from
pub ruleset first_byte = (head_front-nil, first_by, by_first, below_32)
