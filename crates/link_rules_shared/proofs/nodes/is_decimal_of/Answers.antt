use Rattle.std.proofs.Common.{◌≡◌, ◌≢◌, ℕ, ◌<◌, refl, true, List, length, rules, arith}
use Rattle.std.proofs.lemmas.{Bool.ne_eqb, Bool.Decides.nat_tests, Fmt.IsAscii-from_digits, Str.IsUtf8-from_ascii}
use Rattle.std.proofs.lemmas.Str.Parse.{IsNumeralModel, numerals_by_value, parse_gives}
use Rattle.std.specs.{Char.is_ascii_digit, List.list_all, Str.IsUtf8, Str.Parse.digits_value}
use Rattle.link_rules_shared.specs.NodeIds.{is_number}
use Rattle.link_rules_shared.specs.Nodes.{is_decimal_of}
use Rattle.link_rules_shared.proofs.nodes.is_decimal_of.Goals as goal

own : IsNumeralModel (λ digits. list_all is_ascii_digit digits ≡ true) (digits_value 10)
own = numerals_by_value _ (search rules)

all_digits : (digits : List ℕ) → is_number digits ≡ true → list_all is_ascii_digit digits ≡ true
all_digits digits number = search rules

not_empty : (digits : List ℕ) → is_number digits ≡ true → 0 < length digits
not_empty digits number = grind (arith, nat_tests)

utf8 : (digits : List ℕ) → is_number digits ≡ true → IsUtf8 digits
utf8 digits number =
    IsUtf8-from_ascii digits (IsAscii-from_digits digits (own.to digits (all_digits digits number)))

pub returns-in_default : goal.returns-in_default
returns-in_default c =
    let number : is_number c.args.digits.now ≡ true = cc in
    absurd (c.in_default.ensures.cases.0 (utf8 c.args.digits.now number))

-- digits whose value fits in 64 bits are parsed
pub returns-in-Err : goal.returns-in-Err
unfolding is_decimal_of
returns-in-Err c =
    let digits = c.args.digits.now in
    let number : is_number digits ≡ true = cc in
    let other : digits_value 10 digits ≢ c.args.number = λ same.
    let parsed = parse_gives own 64 digits c.parse.result
    (rw c.in-Ok.ensures.cases.0 at c.parse.ensures.value.0)
    (all_digits digits number) (not_empty digits number) (omega arith) in
    cc in
    rw (number, ne_eqb (digits_value 10 digits) c.args.number other) refl
