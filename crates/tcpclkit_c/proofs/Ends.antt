-- The verdict on bytes of which a scan has seen the first, and needs no more.
use Rattle.std.proofs.Common.{◌≡◌, ℕ, ◌<◌, ◌≤◌, inr, Bool, true, false, List, [], ◌∷◌, ◌++◌, length, Result, Ok, Err, refl, sym, ap, ◌∙◌, append-nil, length-append, arith}
use Rattle.std.specs.Prelude.{◌==◌, ◌||◌, ◌&&◌, not, nat_lt, if◌then◌else◌}
use Rattle.std.proofs.lemmas.{Bool.{and_parts, false≢true, ne_eqb}, List.nil_from_length}
use Rattle.link_bundle_types.specs.declared.fault.{BundleFault.BundleFault, BundleFault.TheVariants.Trailing}
use Rattle.link_bundle_types.specs.declared.fault.State.TheVariants as state
use Rattle.link_bundle_types.specs.{declared.info.BundleInfo.BundleInfo, Faults.lasts}
use Rattle.link_bundle_blocks.specs.Bundle.{Bundle, judged_bundle, verdict_by, verdict, payload_of, payload_seen, state_of, is_going, bundle_goes}
use Rattle.link_bundle_blocks.specs.Reading.{Stop}
use Rattle.link_bundle_blocks.proofs.{Lengths.ByteAfterBundleIsTrailing-holds, Payloads.{PayloadLasts-holds, PayloadStaysAfterBundleEnd-holds}}
use Rattle.link_bundle.specs.{Scan.{HasScanned, HasJudged}, Stages.takes_bytes}
use Rattle.link_bundle.specs.declared.scan.BundleScan.{BundleScan}
use Rattle.link_bundle.proofs.Verdicts.{state_of-seen}
use Rattle.link_ffi_numbers.specs.Bundle.{with_span, ReturnsVerdict}
use Rattle.link_ffi_numbers.specs.Fault.{bundle_fault}

-- ---- bytes after a fault

-- no byte is taken after a fault that lasts
takes_bytes-failed : (test : Bool) (fault : BundleFault) (offset : ℕ)
    → is_going (if test then state.Failed fault offset else state.Going) ≡ false
    → takes_bytes (if test then state.Failed fault offset else state.Going) ≡ false
takes_bytes-failed true fault offset stops = refl
takes_bytes-failed false fault offset stops = absurd (false≢true (sym stops))

-- the bytes after those seen cannot change the verdict
pub judged_late : (scan : BundleScan) (seen rest : List ℕ) (fault : BundleFault) (offset : ℕ)
    → HasScanned scan seen → verdict seen ≡ Err (fault, offset) → bundle_goes seen ≡ false
    → HasJudged scan (seen ++ rest)
judged_late scan seen rest fault offset come is stops = record {
  seen = seen;
  rest = rest;
  parts = refl;
  scanned = come;
  enough = inr (ap takes_bytes (state_of-seen come)
      ∙ rw is (takes_bytes-failed (lasts fault) fault offset (rw is at stops)));
}

-- ---- bytes after a whole bundle

module _ (seen : List ℕ) (info : BundleInfo) where
  never : (stop : BundleFault × ℕ)
      → ◌≡◌ {A = Result BundleInfo (BundleFault × ℕ)} (Err stop) (Ok info) → ⊥
  never stop e = cc

  trails : (reading : Result Bundle Stop) → judged_bundle seen ≡ reading
      → verdict_by reading ≡ Ok info → (byte : ℕ) (more : List ℕ)
      → ReturnsVerdict (seen ++ byte ∷ more)
      (with_span (bundle_fault Trailing (length seen)) (payload_seen seen)) 4
  unfolding verdict payload_seen
  trails (Err stop) is good byte more = absurd (never (stop.fault, stop.offset) good)
  trails (Ok bundle) is good byte more =
      let outcome : verdict (seen ++ byte ∷ more) ≡ Err (Trailing, length seen) =
      ByteAfterBundleIsTrailing-holds seen more byte info (ap verdict_by is ∙ good) in
      let place = ap payload_of is in
      let spans : payload_seen (seen ++ byte ∷ more) ≡ payload_seen seen =
      rw (
        PayloadLasts-holds seen (byte ∷ more) bundle.payload_span place,
        place,
        PayloadStaysAfterBundleEnd-holds seen (byte ∷ more) (ap (λ now. is_going (state_of (verdict_by now))) is),
      ) refl in
      record { numbers = rw (outcome, spans) refl; answers = rw outcome refl }

  -- the verdict on a whole bundle and bytes after it
  pub trailing : (rest : List ℕ) → 0 < length rest → verdict seen ≡ Ok info
      → ReturnsVerdict (seen ++ rest)
      (with_span (bundle_fault Trailing (length seen)) (payload_seen seen)) 4
  unfolding verdict
  trailing [] some good = absurd (omega (arith, some))
  trailing (byte ∷ rest) some good = trails (judged_bundle seen) refl good byte rest

-- ---- how many bytes there are

-- as many as were seen are those
pub none_after : (seen rest : List ℕ) → length (seen ++ rest) ≤ length seen → seen ++ rest ≡ seen
none_after seen rest few =
    let none : rest ≡ [] = nil_from_length rest (omega (arith, length-append seen rest, few)) in
    rw none (append-nil seen)

-- more than were seen came after the end
pub ends_before : (seen : List ℕ) (count : ℕ) → length seen < count
    → ((count == length seen) || (nat_lt (length seen) count && not (bundle_goes seen))) ≡ true
    → bundle_goes seen ≡ false
ends_before seen count more may =
    let other : (count == length seen) ≡ false =
    ne_eqb count (length seen) (λ same. omega (arith, more, same)) in
    over (bundle_goes seen) (and_parts _ _ (rw other at may)).1
  where
    over : (goes : Bool) → not goes ≡ true → goes ≡ false
    over true is = absurd (false≢true is)
    over false is = refl
