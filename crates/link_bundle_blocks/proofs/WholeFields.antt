-- The fields of a primary block, whatever bytes follow it.

use Rattle.std.proofs.Common.{◌≡◌, ℕ, ◌≤◌, ◌<◌, List, ◌++◌, length, take, drop, Option, Ok, ap, sym, refl, ◌∙◌, ⊎_elim, take_all, take-append-drop, arith}
use Rattle.std.proofs.lemmas.{Bool.cases_lt, List.length-take-le}
use Rattle.link_cbor.specs.declared.check.CheckKind.{CheckKind}
use Rattle.link_bundle_blocks.specs.Blocks.{Primary}
use Rattle.link_bundle_blocks.specs.Primary.{all_fields}
use Rattle.link_bundle_blocks.specs.PrimaryFields.{fields_of, whole_elements, primary_fields}
use Rattle.link_bundle_blocks.specs.Whole.{whole_primary}
use Rattle.link_bundle_blocks.proofs.Elements.{elements_read, whole_primary-elements, whole_are}
use Rattle.link_bundle_blocks.proofs.{Steady.cut-below, Beginnings.primary_lasts}

-- a whole block has all fields
pub primary_fields-whole : (bytes more : List ℕ) (primary : Primary) (check : Option CheckKind)
    (next : ℕ) → whole_primary bytes ≡ Ok ((primary, check), next)
    → primary_fields (bytes ++ more) ≡ all_fields primary
unfolding primary_fields
primary_fields-whole bytes more primary check next is =
    rw (elements_read (whole_elements (bytes ++ more)) (sym (whole_primary-elements (bytes ++ more))
    ∙ primary_lasts bytes more (primary, check) next is)) refl

-- as many bytes as the block can have are enough
primary_fields-enough : (bytes more : List ℕ) → 3257 ≤ length bytes
    → primary_fields (bytes ++ more) ≡ primary_fields bytes
unfolding primary_fields
primary_fields-enough bytes more enough =
    let are = whole_are bytes more in
    ⊎_elim (λ cut. absurd (omega (arith, cut-below are.reads cut))) (ap fields_of) are.same

pub primary_fields-short : (bytes : List ℕ) → primary_fields (take 3257 bytes) ≡ primary_fields bytes
primary_fields-short bytes =
    ⊎_elim
    (λ (all : length bytes < 3257). ap primary_fields (take_all 3257 bytes (omega arith)))
    (λ (enough : 3257 ≤ length bytes).
    sym (primary_fields-enough (take 3257 bytes) (drop 3257 bytes)
    (omega (arith, length-take-le 3257 bytes enough)))
    ∙ ap primary_fields (take-append-drop 3257 bytes))
    (cases_lt (length bytes) 3257)
