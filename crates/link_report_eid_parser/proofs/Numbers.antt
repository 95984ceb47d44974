-- The digits of a number have no dot, so that they end at the first dot of a text.
use Rattle.std.proofs.Common.{◌≡◌, ◌≢◌, ℕ, ◌+◌, ◌-◌, ◌^◌, ◌<◌, Bool, true, false, ◌==◌, ltb, List, ◌∷◌, ◌++◌, ◌∙◌, None, Some, length, get_or, take, drop, refl, ap, sym, length-append, arith}
use Rattle.std.specs.List.{position, position_or_len}
use Rattle.std.specs.Str.Parse.{AllDigits, digits_value}
use Rattle.std.specs.Fmt.{decimal}
use Rattle.std.proofs.lemmas.{Bool.{lt-ltb, eq-eqb, eqb-true, ne_eqb, cond-true}, Fmt.{digits_decimal, decimal_injective}, List.{get_or_append_left, get_or_at, take_at, drop_at, drop_more, take_rest, take-append-drop}, List.Quantifiers.position-Some, List.Sums.position_or_len_is, Option.{none-some, same_Some}, Str.Parse.{IsNumeralModel, numerals_by_value, tells_digits, not_in_digits}}

own : IsNumeralModel (AllDigits 10) (digits_value 10)
own = numerals_by_value (AllDigits 10) tells_digits

pub no_dot : (number : ℕ) → number < 2 ^ 64 → (k : ℕ) → k < length (decimal number)
    → get_or (decimal number) k 0 ≢ 46
no_dot number fits k within =
    not_in_digits own (decimal number) 46 (digits_decimal own number fits) (λ digit. omega arith) k within

abbrev is_dot : ℕ → Bool
is_dot byte = byte == 46

-- the first dot of a number and a dot
dot_at : (number : ℕ) (rest : List ℕ) → number < 2 ^ 64
    → position is_dot (decimal number ++ 46 ∷ rest) ≡ Some (length (decimal number))
dot_at number rest fits =
    let digits = decimal number in
    let text = digits ++ 46 ∷ rest in
    let size = length digits in
    let within : size < length text = omega (arith, length-append digits (46 ∷ rest)) in
    let none : (k : ℕ) → k < size → is_dot (get_or text k 0) ≡ false = λ k before.
    ap is_dot (get_or_append_left digits (46 ∷ rest) 0 k before) ∙ ne_eqb (get_or digits k 0) 46 (no_dot number fits k before) in
    let here : is_dot (get_or text size 0) ≡ true = eq-eqb (get_or text size 0) 46 (get_or_at digits 46 rest 0 size refl) in
    let first : position_or_len is_dot text ≡ size = position_or_len_is is_dot text size 0 (omega arith) none (λ _. here) in
    rw first (cond-true (ltb size (length text)) (Some size) _ (lt-ltb size (length text) within))

pub no_dots : (text : List ℕ) → None ≡ position is_dot text → (number : ℕ) (rest : List ℕ)
    → number < 2 ^ 64 → decimal number ++ 46 ∷ rest ≢ text
no_dots text none number rest fits is =
    none-some (length (decimal number)) (none ∙ ap (position is_dot) (sym is) ∙ dot_at number rest fits)

-- the digits of a number end at the first dot
pub digits_before : (text rest : List ℕ) (dot number : ℕ) → Some dot ≡ position is_dot text
    → number < 2 ^ 64 → decimal number ++ 46 ∷ rest ≡ text → decimal number ≡ take dot text
digits_before text rest dot number first fits is =
    let size = same_Some dot (length (decimal number)) (first ∙ ap (position is_dot) (sym is) ∙ dot_at number rest fits) in
    sym (rw (← is) (take_at (decimal number) (46 ∷ rest) dot (sym size)))

-- a text before and after its first dot
pub parts_at_dot : (text : List ℕ) (dot : ℕ) → Some dot ≡ position is_dot text
    → take dot text ++ 46 ∷ take (length text - (dot + 1)) (drop (dot + 1) text) ≡ text
parts_at_dot text dot first =
    let found = position-Some is_dot text dot 0 (sym first) in
    let dot_is : get_or text dot 0 ≡ 46 = eqb-true (get_or text dot 0) 46 found.1 in
    let after : drop dot text ≡ 46 ∷ drop (dot + 1) text = rw (← dot_is) (drop_more text dot 0 found.0) in
    rw (take_rest text (dot + 1), ← after) (take-append-drop dot text)

-- a text has one number before its first dot
pub same_pair : (one other : ℕ) (after rest : List ℕ) → one < 2 ^ 64 → other < 2 ^ 64
    → decimal one ++ 46 ∷ after ≡ decimal other ++ 46 ∷ rest → (one ≡ other) × (after ≡ rest)
same_pair one other after rest one_fits other_fits is =
    let dots = sym (dot_at one after one_fits) ∙ ap (position is_dot) is ∙ dot_at other rest other_fits in
    let size : length (decimal one) ≡ length (decimal other) = cc in
    let digits : decimal one ≡ decimal other =
    sym (take_at (decimal one) (46 ∷ after) (length (decimal one)) refl) ∙ ap (take (length (decimal one))) is
    ∙ take_at (decimal other) (46 ∷ rest) (length (decimal one)) (sym size) in
    let ends : 46 ∷ after ≡ 46 ∷ rest =
    sym (drop_at (decimal one) (46 ∷ after) (length (decimal one)) refl) ∙ ap (drop (length (decimal one))) is
    ∙ drop_at (decimal other) (46 ∷ rest) (length (decimal one)) (sym size) in
    (decimal_injective one other one_fits other_fits digits, cc)

-- a number is no pair
pub no_pair : (one other : ℕ) (rest : List ℕ) → one < 2 ^ 64
    → decimal one ≢ decimal other ++ 46 ∷ rest
no_pair one other rest fits is =
    let size = length (decimal other) in
    no_dot one fits size (omega (arith, ap length is, length-append (decimal other) (46 ∷ rest)))
    (ap (λ (text : List ℕ). get_or text size 0) is ∙ get_or_at (decimal other) 46 rest 0 size refl)
