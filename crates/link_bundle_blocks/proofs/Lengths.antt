-- A bundle that is read lies within the bytes. Laws of the verdict follow.

use Rattle.std.proofs.Common.{◌≡◌, ℕ, ◌<◌, false, List, ◌∷◌, ◌++◌, length, Result, Ok, Err, refl, sym, ap, ◌∙◌, ⊎_elim, length-append, arith}
use Rattle.std.specs.Prelude.{◌==◌, IsTrue}
use Rattle.std.proofs.lemmas.Bool.{cases_Bool, false≢true, eqb-true, ne_eqb}
use Rattle.std.proofs.lemmas.Bool.Decides.{nat_tests}
use Rattle.link_bundle_types.specs.declared.fault.BundleFault.{BundleFault}
use Rattle.link_bundle_types.specs.declared.fault.BundleFault.TheVariants.{Cut, Trailing}
use Rattle.link_bundle_types.specs.{declared.info.BundleInfo.BundleInfo, Faults.lasts}
use Rattle.link_bundle_heads.specs.Rows.{◌>>=◌}
use Rattle.link_bundle_blocks.specs.{Laws.{FaultLasts, ByteAfterBundleIsTrailing}, Reading.Stop}
use Rattle.link_bundle_blocks.specs.Bundle.{Bundle, bundle_at, if_alone, judged_bundle, verdict_by, verdict}
use Rattle.link_bundle_blocks.proofs.Keeping.{Lasts, cuts, same, bundle_at-lasts}

-- the verdict, by the reading of the bundle
judgement : List ℕ → Result Bundle Stop → Result BundleInfo (BundleFault × ℕ)
judgement bytes reading = verdict_by (reading >>= λ bundle. if_alone bytes bundle)

longer : (bytes : List ℕ) (byte : ℕ) (more : List ℕ) → length bytes < length (bytes ++ byte ∷ more)
longer bytes byte more = omega (arith, length-append bytes (byte ∷ more))

fault_of : Result BundleInfo (BundleFault × ℕ) → BundleFault
fault_of (Ok info) = Cut
fault_of (Err stop) = stop.0

fault-lasts : (bytes more : List ℕ) (fault : BundleFault) (offset : ℕ)
    (now later : Result Bundle Stop) → IsTrue (lasts fault)
    → Lasts (λ bundle. bundle.length) bytes now later → judgement bytes now ≡ Err (fault, offset)
    → judgement (bytes ++ more) later ≡ Err (fault, offset)
unfolding judgement fault_of
fault-lasts bytes more fault offset (Err stop) later lasting (cuts cut past) fails =
    let is : stop.fault ≡ fault = ap fault_of fails in
    let now : stop.fault ≡ Cut = cc in
    absurd (false≢true (ap lasts (sym now ∙ is) ∙ lasting))
fault-lasts bytes more fault offset (Err stop) later lasting (same is within) fails = rw is fails
fault-lasts bytes more fault offset (Ok bundle) later lasting (cuts cut past) fails = cc
fault-lasts bytes more fault offset (Ok bundle) later lasting (same is within) fails =
    ⊎_elim
    (λ whole. absurd (let ok : Ok bundle.info ≡ Err (fault, offset) = rw whole at fails in cc))
    (λ other.
    let now : Err (Trailing, bundle.length) ≡ Err (fault, offset) = rw other at fails in
    let here = within bundle.length refl in
    let beyond : (bundle.length == length (bytes ++ more)) ≡ false =
    ne_eqb bundle.length (length (bytes ++ more))
    (λ equal. absurd (grind (arith, nat_tests, length-append bytes more, other, here, equal))) in
    rw (is, beyond) now)
    (cases_Bool (bundle.length == length bytes))

trailing-lasts : (bytes more : List ℕ) (byte : ℕ) (info : BundleInfo)
    (now later : Result Bundle Stop)
    → Lasts (λ bundle. bundle.length) bytes now later → judgement bytes now ≡ Ok info
    → judgement (bytes ++ byte ∷ more) later ≡ Err (Trailing, length bytes)
unfolding judgement
trailing-lasts bytes more byte info (Err stop) later stays whole = cc
trailing-lasts bytes more byte info (Ok bundle) later (cuts cut past) whole = cc
trailing-lasts bytes more byte info (Ok bundle) later (same is within) whole =
    ⊎_elim
    (λ ends_here.
    let here : bundle.length ≡ length bytes = eqb-true bundle.length (length bytes) ends_here in
    let beyond : (bundle.length == length (bytes ++ byte ∷ more)) ≡ false =
    ne_eqb bundle.length (length (bytes ++ byte ∷ more))
    (λ equal. absurd (omega (arith, longer bytes byte more))) in
    rw (is, beyond, here) refl)
    (λ other. absurd (let fails : Err (Trailing, bundle.length) ≡ Ok info = rw other at whole in
    cc))
    (cases_Bool (bundle.length == length bytes))

pub FaultLasts-holds : FaultLasts
unfolding verdict judged_bundle judgement
FaultLasts-holds bytes more fault offset lasting outcome =
    fault-lasts bytes more fault offset (bundle_at bytes) (bundle_at (bytes ++ more)) lasting
    (bundle_at-lasts bytes more) outcome

pub ByteAfterBundleIsTrailing-holds : ByteAfterBundleIsTrailing
unfolding verdict judged_bundle judgement
ByteAfterBundleIsTrailing-holds bytes more byte info outcome =
    trailing-lasts bytes more byte info (bundle_at bytes) (bundle_at (bytes ++ byte ∷ more))
    (bundle_at-lasts bytes (byte ∷ more)) outcome
