-- Which message has the numbers of a struct.

use Rattle.std.proofs.Common.{◌≡◌, ℕ, true, false, arith, refl, sym, ap, ◌∙◌}
use Rattle.std.specs.Prelude.{◌==◌, Some, None}
use Rattle.std.proofs.lemmas.Bool.{both_ways, eq-eqb, Decides.nat_tests}
use Rattle.link_wire.specs.declared.message.Fields.{Fields}
use Rattle.link_wire_writer.specs.ReadsBack.{FieldsFit}
use Rattle.link_ffi_numbers.specs.Recording.{fields_shown}
use Rattle.link_ffi_numbers.specs.declared.recording.Message.{Message}
use Rattle.link_ffi_writer.specs.Messages.{plain, fields_of, has_same, HasFields, IsNoMessage}

plain-shown : (fields : Fields) → plain (fields_shown fields) ≡ fields_shown fields
plain-shown fields = grind arith

-- ---- the comparison

always : (number : ℕ) → (number == number) ≡ true
always number = eq-eqb number number refl

has_same-plain : (first second : Message) → plain first ≡ plain second
    → has_same first second ≡ true
unfolding has_same
has_same-plain first second same =
    ap (λ its. has_same its (plain second)) same ∙ simp always

plain-same : (first second : Message) → has_same first second ≡ true
    → plain first ≡ plain second
unfolding has_same
plain-same first second same = grind (arith, nat_tests)

-- ---- the fields

fields_of-shown : (it : Message) (fields : Fields) → FieldsFit fields
    → plain it ≡ fields_shown fields → fields_of it ≡ Some fields
unfolding fields_of
fields_of-shown it fields fits shown = grind (arith, nat_tests)

-- ---- the message

pub no_fields : (it : Message) → fields_of it ≡ None → IsNoMessage it
no_fields it none fields fits shown =
    let found = fields_of-shown it fields fits shown in (cc)

pub other_numbers : (it : Message) (fields : Fields) → fields_of it ≡ Some fields
    → has_same it (fields_shown fields) ≡ false → IsNoMessage it
other_numbers it fields found differs other fits shown =
    let same : other ≡ fields = cc (fields_of-shown it other fits shown) in
    both_ways _ differs (has_same-plain it (fields_shown fields)
    (shown ∙ ap (λ its. fields_shown its) same ∙ sym (plain-shown fields)))

pub has_fields : (it : Message) (fields : Fields) → FieldsFit fields
    → has_same it (fields_shown fields) ≡ true → HasFields it fields
has_fields it fields fits same = record {
  fit = fits;
  shown = plain-same it (fields_shown fields) same ∙ plain-shown fields;
}
