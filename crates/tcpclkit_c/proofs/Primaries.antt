-- The fields of a primary block that a scan has found are those of all bytes that it has judged.
use Rattle.std.proofs.Common.{◌≡◌, ℕ, true, false, List, [], ◌++◌, length, Result, Ok, Err, refl, sym, ap, ◌∙◌, ⊎_elim, append-nil}
use Rattle.std.proofs.lemmas.Bool.{false≢true}
use Rattle.link_bundle_types.specs.declared.fault.{BundleFault.TheVariants.Cut, State.State}
use Rattle.link_bundle_types.specs.declared.fault.State.TheVariants as state
use Rattle.link_bundle_blocks.specs.{Reading.{Stop, stopped}, Whole.whole_primary}
use Rattle.link_bundle_blocks.specs.Bundle.{bundle_at, judged_bundle, verdict, state_of, is_going, bundle_goes}
use Rattle.link_bundle_blocks.specs.PrimaryFields.{fields_of, primary_fields}
use Rattle.link_bundle_blocks.proofs.{Steady.IsCut, Readings.bundle_parts, Elements.{whole_are, whole_primary-elements}}
use Rattle.link_bundle.specs.{Scan.{HasJudged}, Stages.takes_bytes}
use Rattle.link_bundle.specs.declared.scan.BundleScan.{BundleScan}
use Rattle.link_bundle.proofs.Verdicts.{state_of-seen}

-- no more bytes are needed after a fault
is_going-false : (now : State) → takes_bytes now ≡ false → is_going now ≡ false
is_going-false state.Going stuck = absurd (false≢true (sym stuck))
is_going-false state.Ended stuck = refl
is_going-false (state.Failed fault offset) stuck = refl

cut_is : {A : Type 0} (bytes : List ℕ) (reading : Result A Stop) → IsCut bytes reading
    → reading ≡ Err (stopped Cut (length bytes))
cut_is bytes (Ok value) cut = absurd cut
cut_is bytes (Err stop) cut = ap Err cut

-- bytes that end inside the primary block end inside the bundle
cut_goes : (bytes : List ℕ) → IsCut bytes (whole_primary bytes) → bundle_goes bytes ≡ true
unfolding verdict judged_bundle
cut_goes bytes cut =
    let stops : bundle_at bytes ≡ Err (stopped Cut (length bytes)) =
    bundle_parts bytes ∙ rw (cut_is bytes (whole_primary bytes) cut) refl in
    rw stops refl

-- more bytes change no field, if no byte is needed
primary_fields-append : (seen more : List ℕ) → bundle_goes seen ≡ false
    → primary_fields (seen ++ more) ≡ primary_fields seen
unfolding primary_fields
primary_fields-append seen more stops = ⊎_elim
    (λ cut. absurd (false≢true (sym stops
    ∙ cut_goes seen (rw (whole_primary-elements seen) cut))))
    (λ same. ap fields_of same)
    (whole_are seen more).same

pub primary_judged : (scan : BundleScan) (content : List ℕ) (now : HasJudged scan content)
    → primary_fields now.seen ≡ primary_fields content
primary_judged scan content now = ⊎_elim
    (λ (all : now.rest ≡ []). ap primary_fields (rw (all, append-nil) at now.parts))
    (λ stuck.
    let stops : bundle_goes now.seen ≡ false =
    is_going-false (state_of (verdict now.seen)) (sym (ap takes_bytes (state_of-seen now.scanned)) ∙ stuck) in
    sym (primary_fields-append now.seen now.rest stops) ∙ ap primary_fields now.parts)
    now.enough
