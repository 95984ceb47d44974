-- The primary block is read as it was written.
use Rattle.std.proofs.Common.{◌≡◌, ℕ, ◌+◌, ◌^◌, ◌<◌, ◌≤◌, Bool, true, false, List, ◌∷◌, ◌++◌, length, Option, Some, None, Ok, Err, IfSome, arith, refl, ap, ◌∙◌, append_assoc}
use Rattle.std.proofs.lemmas.Bool.{and_parts}
use Rattle.link_cbor.specs.declared.check.CheckKind.{CheckKind}
use Rattle.link_bundle_heads.specs.Rows.{◌>>=◌, unsigned, pair, primary_block, version, primary_check_type, is_fragment, check_elements}
use Rattle.link_bundle_blocks.specs.Blocks.{Primary}
use Rattle.link_bundle_blocks.specs.{Bundle.opening_at, EndpointId.eid_at, Whole.whole_primary}
use Rattle.link_bundle_blocks.specs.Reading.{ReadAt, row_at}
use Rattle.link_bundle_blocks.specs.Primary.{AcceptedPrimaryFields, ElementsOrStop, fragment_elements as fragment_read, primary_elements as elements_read, primary_at}
use Rattle.link_bundle_writer.proofs.There.{EndsThere, ReadsThere, there_then, there_last, regrouped}
use Rattle.link_bundle_writer.proofs.EidsBack.{there_unsigned, there_pair, there_eid}
use Rattle.link_bundle_writer.proofs.RowsThere.{there_version, there_primary, there_primary_check}
use Rattle.link_bundle_writer.proofs.CheckBack.{field_there}
use Rattle.link_bundle_writer.specs.GoodBundle.{PrimaryFits}
use Rattle.link_bundle_writer.specs.NewBlocks.{check_bytes, fragment_elements, fragment_bytes, says_fragment, primary_elements, primary_bytes, primary_is_writable}

-- a part that comes after these fields
abbrev part_after : {A : Type 0} → AcceptedPrimaryFields → ReadAt A → ElementsOrStop A
part_after fields (Ok read) = Ok read
part_after fields (Err stop) = Err (fields, stop)

element_there : {A : Type 0} {read : List ℕ → ℕ → ReadAt A} {value : A} {written : List ℕ}
    (fields : AcceptedPrimaryFields) → ReadsThere read value written
    → ReadsThere (λ bytes offset. part_after fields (read bytes offset)) value written
element_there fields one = record {
  by = λ bytes offset more within here.
      ap (λ found. part_after fields found) (one.by bytes offset more within here);
}

module _ {A B : Type 0} (fields : AcceptedPrimaryFields) (read : List ℕ → ℕ → ReadAt A)
    (next : List ℕ → A × ℕ → ElementsOrStop B) {value : A} {given : ℕ → B × ℕ} where
  element_then : {first second : List ℕ} → ReadsThere read value first
      → EndsThere (λ bytes offset. next bytes (value, offset)) given second
      → EndsThere (λ bytes offset. part_after fields (read bytes offset) >>= next bytes) given
      (first ++ second)
  element_then one =
      there_then (λ bytes offset. part_after fields (read bytes offset)) next (element_there fields one)

-- the fields of a fragment, if the flags say that there are any
there_fragment : (is : Bool) (fragment : Option (ℕ × ℕ)) (block : Primary)
    → says_fragment is fragment ≡ true
    → IfSome fragment (λ (offset, total). (offset < 2 ^ 64) × (total < 2 ^ 64))
    → ReadsThere (fragment_read is block) fragment (fragment_bytes fragment)
unfolding fragment_read
there_fragment true None block says fits = absurd (cc)
there_fragment false (Some fragment) block says fits = absurd (cc)
there_fragment false None block says fits = record {
  by = λ bytes offset more within here.
      let same : offset ≡ offset + 0 = omega arith in ap (λ n. Ok (None, n)) same;
}
there_fragment true (Some (offset, total)) block says fits =
    element_then _ (row_at unsigned) _ (there_unsigned offset fits.0)
    (there_last (λ bytes offset. part_after _ (row_at unsigned bytes offset)) _
    (element_there _ (there_unsigned total fits.1)) (λ bytes offset. refl))

elements_fit : (fragment : Option (ℕ × ℕ)) (check : Option CheckKind)
    → 8 + fragment_elements fragment + check_elements check ≤ 11
elements_fit fragment check = grind arith

module _ (primary : Primary) (check : Option CheckKind) (fits : PrimaryFits primary)
    (writable : primary_is_writable primary ≡ true) where
  there_elements : ReadsThere elements_read (primary, check) (primary_elements primary check)
  unfolding elements_read primary_elements primary_is_writable
  there_elements =
      let count = 8 + fragment_elements primary.fragment + check_elements check in
      let least : 8 ≤ count = omega arith in
      let said = and_parts _ _ writable in
      let short = and_parts _ _ said.1 in
      let others = and_parts _ _ short.1 in
      regrouped
      (element_then _ (row_at primary_block) _
      (there_primary count least (elements_fit primary.fragment check))
      (element_then _ (row_at version) _ there_version
      (element_then _ (row_at unsigned) _ (there_unsigned primary.flags fits.flags)
      (element_then _ (row_at (primary_check_type count primary.flags)) _
      (there_primary_check primary.flags primary.fragment check said.0)
      (element_then _ eid_at _ (there_eid primary.destination fits.destination short.0)
      (element_then _ eid_at _ (there_eid primary.source fits.source others.0)
      (element_then _ eid_at _ (there_eid primary.report_to fits.report_to others.1)
      (element_then _ (row_at pair) _ there_pair
      (element_then _ (row_at unsigned) _ (there_unsigned primary.time fits.time)
      (element_then _ (row_at unsigned) _ (there_unsigned primary.sequence fits.sequence)
      (element_then _ (row_at unsigned) _ (there_unsigned primary.lifetime fits.lifetime)
      (there_last (fragment_read (is_fragment primary.flags) _) _
      (there_fragment (is_fragment primary.flags) primary.fragment _ said.0 fits.fragment)
      (λ bytes offset. refl)))))))))))))
      (simp append_assoc)

  -- the primary block after the first byte of a bundle
  pub primary_there : (tail rest : List ℕ) → tail ≡ primary_bytes primary check ++ rest
      → whole_primary (0x9f ∷ tail)
      ≡ Ok ((primary, check), 1 + length (primary_bytes primary check))
  unfolding whole_primary opening_at primary_at primary_bytes
  primary_there tail rest here =
      let bytes : List ℕ = 0x9f ∷ tail in
      let elements = primary_elements primary check in
      let some : 1 ≤ length bytes = omega arith in
      let read = (there_elements).by bytes 1 (check_bytes check elements ++ rest) some
      (here ∙ append_assoc elements (check_bytes check elements) rest) in
      rw (read, field_there check 1 elements bytes rest some here) refl
