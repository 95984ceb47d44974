-- Laws of the bytes of the payload.

use Rattle.std.proofs.Common.{◌≡◌, ℕ, ◌+◌, ◌≤◌, ⊎_elim, Bool, true, false, List, [], ◌++◌, length, take, drop, Option, None, Some, Result, Ok, Err, refl, sym, ap, ◌∙◌, length-drop, arith}
use Rattle.std.specs.Prelude.{◌==◌}
use Rattle.std.proofs.lemmas.{Bool.false≢true, List.{drop-append-le, take-append-le}}
use Rattle.std.proofs.Math.{ListN.drop_of_length-le, Seq.take-nil}
use Rattle.link_bundle_blocks.specs.Laws.{PayloadLasts, SpanDeterminesPayload, PayloadStaysAfterBundleEnd}
use Rattle.link_bundle_types.specs.declared.fault.BundleFault.TheVariants.{Cut}
use Rattle.link_bundle_heads.specs.Rows.{◌>>=◌}
use Rattle.link_bundle_blocks.specs.Reading.{Stop}
use Rattle.link_bundle_blocks.specs.Bundle.{Bundle, bundle_at, if_alone, judged_bundle, verdict_by, verdict, payload_of, bytes_of, payload_in, state_of, is_going, bundle_goes}
use Rattle.link_bundle_blocks.proofs.{Steady.of_either, Keeping.{end_of, nothing, bundle_at-keeps}}

-- the reading of all of the bytes; bytes after a bundle do not change its payload
whole_of : List ℕ → Result Bundle Stop → Result Bundle Stop
whole_of bytes reading = reading >>= λ bundle. if_alone bytes bundle

-- A stop at the bytes after a bundle says the same of the bundle as the bundle itself.
pub judged_as : {A : Type 0} (of : Result Bundle Stop → A) (bytes : List ℕ)
    → ((bundle : Bundle) → of (if_alone bytes bundle) ≡ of (Ok bundle))
    → of (judged_bundle bytes) ≡ of (bundle_at bytes)
unfolding judged_bundle whole_of
judged_as of bytes alone =
    elim (bundle_at bytes) as (λ reading. of (whole_of bytes reading) ≡ of reading) [
      | Ok bundle ↦ alone bundle
      | Err stop ↦ refl
    ]

payload_of-judged : (bytes : List ℕ) → payload_of (judged_bundle bytes) ≡ payload_of (bundle_at bytes)
payload_of-judged bytes = judged_as payload_of bytes (λ bundle.
    of_either (λ (reading : Result Bundle Stop). payload_of reading ≡ Some bundle.payload_span)
    (bundle.length == length bytes) _ _ refl refl)

-- ---- a known payload lasts

pub PayloadLasts-holds : PayloadLasts
PayloadLasts-holds bytes more payload is =
    let now = sym (payload_of-judged bytes) ∙ is in
    payload_of-judged (bytes ++ more)
    ∙ ⊎_elim (λ same. same ∙ now) (λ none. absurd (nothing (sym none.0 ∙ now)))
    (bundle_at-keeps bytes more).ends.pays

-- ---- a known payload determines which of its bytes are there

nothing_from : (bytes : List ℕ) (offset size : ℕ) → length bytes ≤ offset
    → [] ≡ take size (drop offset bytes)
nothing_from bytes offset size follows =
    sym (ap (λ (rest : List ℕ). take size rest) (drop_of_length-le bytes follows) ∙ take-nil size)

pub SpanDeterminesPayload-holds : SpanDeterminesPayload
unfolding payload_in
SpanDeterminesPayload-holds bytes more offset size is =
    let later = sym (payload_of-judged (bytes ++ more)) ∙ is in
    ap (λ (known : Option (ℕ × ℕ)). bytes_of known bytes) (payload_of-judged bytes)
    ∙ ⊎_elim
    (λ (same : payload_of (bundle_at (bytes ++ more)) ≡ payload_of (bundle_at bytes)).
    ap (λ (known : Option (ℕ × ℕ)). bytes_of known bytes) (sym same ∙ later))
    (λ none. ap (λ (known : Option (ℕ × ℕ)). bytes_of known bytes) none.0
    ∙ nothing_from bytes offset size (omega (arith, none.1 (offset, size) later)))
    (bundle_at-keeps bytes more).ends.pays

-- ---- no more bytes of it come once the bytes do not end inside the bundle

all_there : (known : Option (ℕ × ℕ)) (bytes more : List ℕ)
    → ((span : ℕ × ℕ) → known ≡ Some span → span.0 + span.1 ≤ length bytes)
    → bytes_of known (bytes ++ more) ≡ bytes_of known bytes
all_there None bytes more there = refl
all_there (Some (offset, size)) bytes more there =
    let within = there (offset, size) refl in
    let here : offset ≤ length bytes = omega arith in
    let fits : size ≤ length (drop offset bytes) = omega (arith, length-drop offset bytes) in
    rw (drop-append-le offset bytes more here, take-append-le size (drop offset bytes) more fits) refl

-- whether the bytes end inside the bundle
goes : List ℕ → Result Bundle Stop → Bool
goes bytes reading = is_going (state_of (verdict_by (whole_of bytes reading)))

cut_goes : (bytes : List ℕ) (reading : Result Bundle Stop) → end_of reading ≡ Err Cut
    → goes bytes reading ≡ true
unfolding goes whole_of
cut_goes bytes (Ok bundle) cut = cc
cut_goes bytes (Err stop) cut = let is : stop.fault ≡ Cut = cc in rw is refl

pub cut_goes-on : (bytes : List ℕ) → end_of (bundle_at bytes) ≡ Err Cut → bundle_goes bytes ≡ true
unfolding verdict judged_bundle goes whole_of
cut_goes-on bytes cut = cut_goes bytes (bundle_at bytes) cut

pub PayloadStaysAfterBundleEnd-holds : PayloadStaysAfterBundleEnd
unfolding payload_in
PayloadStaysAfterBundleEnd-holds bytes more stops =
    let ends = (bundle_at-keeps bytes more).ends in
    let going = λ (cut : end_of (bundle_at bytes) ≡ Err Cut).
    false≢true (sym stops ∙ cut_goes-on bytes cut) in
    ap (λ (known : Option (ℕ × ℕ)). bytes_of known (bytes ++ more))
    (payload_of-judged (bytes ++ more)
    ∙ ⊎_elim (λ cut. absurd (going cut.0)) (ap payload_of) ends.lasts)
    ∙ all_there (payload_of (bundle_at bytes)) bytes more
    (⊎_elim (λ cut. absurd (going cut)) (λ there. there) ends.there)
    ∙ ap (λ (known : Option (ℕ × ℕ)). bytes_of known bytes) (sym (payload_of-judged bytes))
