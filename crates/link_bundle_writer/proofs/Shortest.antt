-- No head is shorter than the one that is written.
use Rattle.std.proofs.Common.{◌≡◌, ℕ, zero, suc, ◌+◌, ◌-◌, ◌/◌, ◌%◌, ◌^◌, ◌<◌, ◌≤◌, Bool, List, [], ◌∷◌, length, take, get_or, Some, None, if◌then◌else◌, arith, sym, ◌∙◌, ⊎_elim}
use Rattle.std.proofs.lemmas.{Bool.cases_lt, List.Elements.{All-head, All-tail}, Bool.Decides.nat_tests}
use Rattle.byteorder.specs.Numbers.{big_from-lt, length-bytes_high_first}
use Rattle.link_cbor.proofs.HeadLaws.{big_endian-big_from, argument_front-cut, argument_front-there, front_by-small, front_by-argument, front_by-reserved, front_by-none}
use Rattle.link_cbor.specs.Head.{AreBytes, HeadFront, Whole, IllFormed, big_endian, with_argument, no_argument, front_by, head_front}
use Rattle.link_bundle_writer.specs.Heads.{head_bytes, HeadIsShortest}

module _ (major value : ℕ) where
  length-none : value < 24 → length (head_bytes major value) ≤ 1
  unfolding head_bytes
  length-none below = grind (arith, nat_tests)

  length-one : value < 2 ^ 8 → length (head_bytes major value) ≤ 2
  unfolding head_bytes
  length-one below = grind (arith, nat_tests, length-bytes_high_first 1 value)

  length-two : value < 2 ^ 16 → length (head_bytes major value) ≤ 3
  unfolding head_bytes
  length-two below = grind (arith, nat_tests, length-bytes_high_first 1 value, length-bytes_high_first 2 value)

  length-four : value < 2 ^ 32 → length (head_bytes major value) ≤ 5
  unfolding head_bytes
  length-four below =
      grind (arith, nat_tests, length-bytes_high_first 1 value, length-bytes_high_first 2 value, length-bytes_high_first 4 value)

  length-eight : length (head_bytes major value) ≤ 9
  unfolding head_bytes
  length-eight =
      grind (arith, nat_tests, length-bytes_high_first 1 value, length-bytes_high_first 2 value, length-bytes_high_first 4 value, length-bytes_high_first 8 value)

  -- an argument that fits in one, two, four or eight bytes
  length-argument : (k : ℕ) → k < 4 → value < 256 ^ (2 ^ k)
      → length (head_bytes major value) ≤ 1 + 2 ^ k
  length-argument zero few fits = length-one fits
  length-argument (suc zero) few fits = length-two fits
  length-argument (suc (suc zero)) few fits = length-four fits
  length-argument (suc (suc (suc zero))) few fits = length-eight
  length-argument (suc (suc (suc (suc k)))) few fits = absurd (omega arith)

byte_in : (bytes : List ℕ) → AreBytes bytes → (k : ℕ) → get_or bytes k 0 < 256
byte_in [] all k = omega arith
byte_in (byte ∷ bytes) all zero = All-head (λ b. b < 256) byte bytes all
byte_in (byte ∷ bytes) all (suc k) = byte_in bytes (All-tail (λ b. b < 256) byte bytes all) k

-- a head whose argument was read
with_argument-is : (test : Bool) (found major argument value size given : ℕ)
    → (let front : HeadFront = if test then IllFormed
    else Whole (record { major = found; value = Some argument }) given in front)
    ≡ Whole (record { major = major; value = Some value }) size
    → (argument ≡ value) × (given ≡ size)
with_argument-is test found major argument value size given is = grind arith

no_argument-is : (test : Bool) (found major value size : ℕ)
    → (let front : HeadFront = if test then IllFormed
    else Whole (record { major = found; value = None }) 1 in front)
    ≡ Whole (record { major = major; value = Some value }) size → ⊥
no_argument-is test found major value size is = grind arith

module _ (first : ℕ) (rest : List ℕ) (all : AreBytes rest) (major value size : ℕ)
    (is : front_by (first / 32) (first % 32) rest
    ≡ Whole (record { major = major; value = Some value }) size) where
  small_shortest : first % 32 < 24 → length (head_bytes major value) ≤ size
  small_shortest below =
      grind (arith, front_by-small (first / 32) (first % 32) rest below, length-none major value)

  in_with : (count : ℕ) → with_argument (first / 32) count (big_endian (take count rest))
      ≡ Whole (record { major = major; value = Some value }) size
      → (big_endian (take count rest) ≡ value) × (1 + count ≡ size)
  unfolding with_argument
  in_with count there = with_argument-is _ (first / 32) major (big_endian (take count rest)) value size (1 + count) there

  -- the argument of a head, in as many bytes as its information says
  argument_is : 24 ≤ first % 32 → first % 32 < 28
      → (let count = 2 ^ (first % 32 - 24) in (value < 256 ^ count) × (1 + count ≡ size))
  argument_is least below =
      let count = 2 ^ (first % 32 - 24) in
      let read = sym (front_by-argument (first / 32) (first % 32) rest least below) ∙ is in
      ⊎_elim
      (λ short. absurd (
      let cut = sym (argument_front-cut (first / 32) count rest short) ∙ read in cc))
      (λ enough.
      let there = sym (argument_front-there (first / 32) count rest enough) ∙ read in
      let found = in_with count there in
      let number = big_endian-big_from count rest enough in
      let bound = big_from-lt 0 count rest (byte_in rest all) in
      (omega (arith, found.0, number, bound), found.1))
      (cases_lt (length rest) count)

  argument_shortest : 24 ≤ first % 32 → first % 32 < 28 → length (head_bytes major value) ≤ size
  argument_shortest least below =
      let found = argument_is least below in
      omega (arith, found.1, length-argument major value (first % 32 - 24) (omega arith) found.0)

  other : 28 ≤ first % 32 → ⊥
  unfolding no_argument
  other least = ⊎_elim
      (λ below. let ill = sym (front_by-reserved (first / 32) (first % 32) rest least below) ∙ is in cc)
      (λ none.
      no_argument-is _ (first / 32) major value size
      (sym (front_by-none (first / 32) (first % 32) rest none) ∙ is))
      (cases_lt (first % 32) 31)

  any_shortest : length (head_bytes major value) ≤ size
  any_shortest = ⊎_elim small_shortest
      (λ least. ⊎_elim (argument_shortest least) (λ more. absurd (other more))
      (cases_lt (first % 32) 28))
      (cases_lt (first % 32) 24)

pub head_shortest : HeadIsShortest
unfolding head_front
head_shortest [] major value size all is = absurd (cc)
head_shortest (first ∷ rest) major value size all is =
    any_shortest first rest (All-tail (λ b. b < 256) first rest all) major value size is
