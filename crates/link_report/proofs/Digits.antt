-- How many digits a number has.
use Rattle.std.proofs.Common.{◌≡◌, ℕ, zero, suc, ◌+◌, ◌*◌, ◌/◌, ◌^◌, ◌<◌, ◌≤◌, ◌∙◌, length, ap, length-append, arith}
use Rattle.std.specs.Fmt.{decimal}
use Rattle.std.proofs.{Math.Nat.pow-suc, lemmas.Fmt.{decimal_digit, decimal_step, length-decimal-le}}

-- a number of 64 bits has at most 20 digits
pub length_of_decimal : (n : ℕ) → n < 2 ^ 64 → length (decimal n) ≤ 20
length_of_decimal n fits = length-decimal-le 20 n (omega arith) (omega arith) fits

pub length_of_digit : (n : ℕ) → n < 10 → length (decimal n) ≡ 1
length_of_digit n few = ap length (decimal_digit n few)

-- a number from a power of ten on, and below the next one
pub length_from_power : (power n : ℕ) → 10 ^ power ≤ n → n < 10 * 10 ^ power → n < 2 ^ 64
    → length (decimal n) ≡ power + 1
length_from_power zero n from below fits = ap length (decimal_digit n (omega arith))
length_from_power (suc power) n from below fits =
    let grows : 10 ^ suc power ≡ 10 ^ power * 10 = pow-suc 10 power in
    let shorter = length_from_power power (n / 10) (omega arith) (omega arith) (omega arith) in
    ap length (decimal_step n (omega arith) fits) ∙ length-append (decimal (n / 10)) _ ∙ (omega (arith, shorter))

pub length_of_two : (n : ℕ) → 10 ≤ n → n < 100 → length (decimal n) ≡ 2
length_of_two n many few = length_from_power 1 n (omega arith) (omega arith) (omega arith)

pub length_of_three : (n : ℕ) → 100 ≤ n → n < 1000 → length (decimal n) ≡ 3
length_of_three n many few = length_from_power 2 n (omega arith) (omega arith) (omega arith)

pub ruleset few_digits = (length_of_digit, length_of_two, length_of_three)
