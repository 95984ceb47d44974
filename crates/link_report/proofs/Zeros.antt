-- The digits of a number from those of a multiple of 10,000.
use Rattle.std.proofs.Common.{◌≡◌, ℕ, ◌+◌, ◌-◌, ◌/◌, ◌%◌, ◌^◌, ◌<◌, ◌≤◌, List, [], ◌∷◌, ◌++◌, ◌∙◌, length, take, ap, refl, append_assoc, length-append, ⊎_elim, arith}
use Rattle.std.specs.Fmt.{decimal}
use Rattle.std.proofs.Math.Seq.{take-append-add}
use Rattle.std.proofs.lemmas.{Bool.cases_lt, Fmt.{decimal_digit, length-decimal-le}}
use Rattle.itoa.proofs.Decimal.{pair, decimal_two, decimal_pair, decimal_four}

abbrev pub zeros : List ℕ
zeros = 48 ∷ 48 ∷ 48 ∷ 48 ∷ []

-- a number below 10,000 with leading zeros, by its number of digits
pub with_zeros : (n : ℕ) → n < 10000
    → pair (n / 100) ++ pair (n % 100) ≡ take (4 - length (decimal n)) zeros ++ decimal n
with_zeros n few =
    ⊎_elim
    (λ one.
    let a : n / 100 / 10 ≡ 0 = omega arith in
    let b : n / 100 % 10 ≡ 0 = omega arith in
    let c : n % 100 / 10 ≡ 0 = omega arith in
    let d : n % 100 % 10 ≡ n = omega arith in
    rw (decimal_digit n one, a, b, c, d) refl)
    (λ from_two. ⊎_elim
    (λ two.
    let a : n / 100 / 10 ≡ 0 = omega arith in
    let b : n / 100 % 10 ≡ 0 = omega arith in
    let c : n % 100 ≡ n = omega arith in
    rw (decimal_two n from_two two, a, b, c) refl)
    (λ from_three. ⊎_elim
    (λ (three : n < 1000).
    let a : n / 100 / 10 ≡ 0 = omega arith in
    let b : n / 100 % 10 ≡ n / 100 = omega arith in
    let fits : n < 2 ^ 64 = omega arith in
    let below : n / 100 < 10 = omega arith in
    rw (decimal_pair n from_three fits, decimal_digit (n / 100) below, a, b) refl)
    (λ four.
    rw (decimal_pair n from_three (omega arith), decimal_two (n / 100) (omega arith) (omega arith))
    refl)
    (cases_lt n 1000))
    (cases_lt n 100))
    (cases_lt n 10)

-- the text of a multiple of 10,000
decimal-multiple : (round : ℕ) → 0 < round → round < 2 ^ 64 → round % 10000 ≡ 0
    → decimal round ≡ decimal (round / 10000) ++ zeros
decimal-multiple round some fits is = rw (decimal_four round (omega arith) fits, is) refl

pub length_of_last : (n : ℕ) → n < 10000 → length (decimal n) ≤ 4
length_of_last n few = length-decimal-le 4 n (omega arith) few (omega arith)

-- its zeros leave room for four digits
pub length_of_multiple : (round : ℕ) → 0 < round → round < 2 ^ 64 → round % 10000 ≡ 0
    → 4 ≤ length (decimal round)
length_of_multiple round some fits is =
    omega (arith, ap length (decimal-multiple round some fits is), length-append (decimal (round / 10000)) zeros)

-- the last four digits of a number, over the zeros of a multiple
pub over_zeros : (n round : ℕ) → 0 < round → n < 2 ^ 64 → round % 10000 ≡ 0
    → round + n % 10000 ≡ n
    → take (length (decimal round) - length (decimal (n % 10000))) (decimal round) ++ decimal (n % 10000) ≡ decimal n
over_zeros n round some fits zeros_at is =
    let front = decimal (n / 10000) in
    let last = n % 10000 in
    let same : round / 10000 ≡ n / 10000 = omega arith in
    let text : decimal round ≡ front ++ zeros = decimal-multiple round some (omega arith) zeros_at ∙ rw same refl in
    let short : length (decimal last) ≤ 4 = length_of_last last (omega arith) in
    let size : length (decimal round) - length (decimal last) ≡ length front + (4 - length (decimal last)) = omega (arith, ap length text, length-append front zeros) in
    rw (size, text, take-append-add front zeros (4 - length (decimal last)), append_assoc, ← (with_zeros last (omega arith)), ← (decimal_four n (omega arith) fits)) refl
