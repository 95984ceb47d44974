-- The number that `get_one` of `clap` returns, by the rows of the matches.
use Rattle.std.proofs.Common.{◌≡◌, ◌∙◌, ℕ, ◌<◌, Bool, [], ◌∷◌, Option, Some, None, Result, ap, refl, length}
use Rattle.std.proofs.lemmas.Bool.{false_from_ne_true, Decides.{Decides-and, Decides-ltb}}
use Rattle.std.specs.{Prelude.{◌&&◌, ◌^◌, nat_lt, option_and_then}, List.list_all, Char.digit_value, Bool.Decides}
use Rattle.std.specs.Str.Parse.{AllDigits, ExplainsUnsignedError, HasUnsignedDigitsIfOk, IsNumeral, ParsesUnsigned, digits_value, without_leading_plus}
use Rattle.std.specs.declared.num.ParseIntError.{ParseIntError}
use Rattle.clap.specs.Words.{ReadsOne, Text, one_text, rows_of}
use Rattle.clap.specs.declared.parser.matches.Found.{Found}
use Rattle.clap.proofs.WalkLemmas.{first_value-rows, one_text-rows}
use Rattle.link_tools_command.specs.Invoked.{is_numeral, number_below, number_in}

digits_decided : (digits : Text)
    → Decides (list_all (λ digit. nat_lt (digit_value digit) 10) digits) (AllDigits 10 digits)
digits_decided [] = (λ passed. tt, λ all. refl)
digits_decided (d ∷ digits) =
    Decides-and _ _ (Decides-ltb (digit_value d) 10) (digits_decided digits)

abbrev is_below : ℕ → Text → Bool
is_below limit text = is_numeral text && nat_lt (digits_value 10 (without_leading_plus text)) limit

below_decided : (limit : ℕ) (text : Text) → Decides (is_below limit text)
    (IsNumeral 10 (without_leading_plus text)
    × (digits_value 10 (without_leading_plus text) < limit))
below_decided limit text =
    let digits = without_leading_plus text in
    Decides-and _ _ (Decides-and _ _ (Decides-ltb 0 (length digits)) (digits_decided digits))
    (Decides-ltb (digits_value 10 digits) limit)

-- the contract of `parse` for an unsigned type of `bits` bits
abbrev pub ParsesAs : (bits : ℕ) → Text → Result ℕ ParseIntError → Type 0
ParsesAs bits text r = ParsesUnsigned bits 10 text r × ExplainsUnsignedError 10 text r × HasUnsignedDigitsIfOk text r

module _ (bits : ℕ) where
  number_read : (text : Text) (r : Option ℕ) → ReadsOne (ParsesAs bits) text r
      → r ≡ number_below (2 ^ bits) text
  number_read text (Some n) read =
      rw ((below_decided (2 ^ bits) text).1 read.0.0) (ap Some read.0.1)
  number_read text None read =
      rw (false_from_ne_true (is_below (2 ^ bits) text)
      (λ below. read.1.0 ((below_decided (2 ^ bits) text).0 below))) refl

  pub number_got : (f : Found) (name : Text) (r : Option ℕ) → (one_text f name ≡ None → r ≡ None)
      → ((text : Text) → one_text f name ≡ Some text → ReadsOne (ParsesAs bits) text r)
      → r ≡ number_in (2 ^ bits) name (rows_of f)
  unfolding number_in
  number_got f name r none some = go (one_text f name) refl ∙ ap (option_and_then (number_below (2 ^ bits))) (one_text-rows f name)
    where
      go : (o : Option Text) → one_text f name ≡ o → r ≡ option_and_then (number_below (2 ^ bits)) o
      go None e = none e
      go (Some text) e = number_read text r (some text e)

pub ruleset texts = (first_value-rows)
