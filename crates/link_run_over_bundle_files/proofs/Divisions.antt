-- The parts of an input, whatever bytes follow it.
use Rattle.std.proofs.Common.{◌≡◌, ℕ, zero, suc, ◌-◌, ◌≤◌, ◌⊎◌, inl, inr, Bool, true, false, if◌then◌else◌, List, [], ◌∷◌, ◌++◌, length, take, drop, Result, Ok, Err, refl, ap, sym, ◌∙◌, ⊎_elim, append_assoc, length-drop, arith}
use Rattle.std.proofs.lemmas.{Bool.{cases_Bool, cases_lt, false≢true}, List.take-append-drop}
use Rattle.link_cbor.specs.PieceLaws.{takes_shortest}
use Rattle.link_bundle_types.specs.{Faults.lasts, declared.fault.BundleFault.BundleFault}
use Rattle.link_bundle_types.specs.declared.info.BundleInfo.{BundleInfo}
use Rattle.link_bundle_types.specs.declared.fault.State.TheVariants as state
use Rattle.link_bundle_blocks.specs.Bundle.{verdict, is_going, bundle_goes}
use Rattle.link_run_over_bundle_files.specs.Bundles.{BundleWithInfo, Refusal, Longer, Faulty, IsUnfinishedBundle, bundle_prefix, divided, with_bundles}
use Rattle.link_run_over_bundle_files.proofs.Dividing.{prefix_again, none_open, some_stopped, refused_so, divided_whole, divided_longer, divided_faulty}

-- the bytes show why they begin with no bundle that the peer takes
pub record IsRefused (limit : ℕ) (bytes : List ℕ) : Type 0 where
  pub before_fault : List ℕ
  pub refusal : Refusal
  pub divides : (more : List ℕ) → divided limit (bytes ++ more) ≡ refused_so [] before_fault refusal

-- some bundles, and then bytes that are refused or begin another bundle, whatever bytes follow
pub record StaysDivided (limit : ℕ) (bytes : List ℕ) : Type 0 where
  pub bundles : List BundleWithInfo
  pub begun : List ℕ
  pub divides : (more : List ℕ)
      → divided limit (bytes ++ more) ≡ with_bundles bundles (divided limit (begun ++ more))
  pub last : IsRefused limit begun ⊎ IsUnfinishedBundle limit begun

-- a fault that stops the scan lasts
pub stopped_lasts : (stays : Bool) (fault : BundleFault) (place : ℕ)
    → is_going (if stays then state.Failed fault place else state.Going) ≡ false → stays ≡ true
stopped_lasts true fault place stops = refl
stopped_lasts false fault place stops = absurd (cc)

module _ (limit : ℕ) where
  -- no bundle comes first
  none_first : (bytes : List ℕ) → IsRefused limit bytes ⊎ IsUnfinishedBundle limit bytes → StaysDivided limit bytes
  none_first bytes last = record { bundles = []; begun = bytes; divides = λ more. refl; last = last }

  -- a prefix that needs no more bytes, by its verdict, and then the rest
  judged_so : (front rest : List ℕ) (said : Result BundleInfo (BundleFault × ℕ))
      → verdict front ≡ said → bundle_goes front ≡ false
      → bundle_prefix front ≡ front → length front ≤ limit
      → StaysDivided limit rest → StaysDivided limit (front ++ rest)
  judged_so front rest (Ok info) is stops all within later =
      let first : BundleWithInfo = record { bytes = front; info = info } in
      record {
        bundles = first ∷ later.bundles;
        begun = later.begun;
        divides = λ more. rw (
          append_assoc,
          divided_whole limit front (rest ++ more) info all is within,
          later.divides more,
        ) refl;
        last = later.last;
      }
  judged_so front rest (Err (fault, place)) is stops all within later =
      let stays = stopped_lasts (lasts fault) fault place (rw is at stops) in
      none_first (front ++ rest) (inl (record {
        before_fault = take (length front - 1) front;
        refusal = Faulty fault place;
        divides = λ more. rw append_assoc
            (divided_faulty limit front (rest ++ more) fault place all is stays within);
      }))

  divided_upto : (count : ℕ) (bytes : List ℕ) → length bytes ≤ count → StaysDivided limit bytes
  divided_upto zero [] fewer = none_first [] (inr (none_open limit))
  divided_upto zero (byte ∷ bytes) fewer = absurd (omega arith)
  divided_upto (suc count) bytes fewer =
      let front = bundle_prefix bytes in
      let rest = drop (length front) bytes in
      let shortest = (takes_shortest bundle_goes [] bytes front).1 refl in
      ⊎_elim
      (λ beyond. none_first bytes (inl (record {
        before_fault = take limit front;
        refusal = Longer limit;
        divides = λ more. divided_longer limit bytes more beyond;
      })))
      (λ within. ⊎_elim
      (λ goes.
      let all : front ≡ bytes = ⊎_elim (λ stops. absurd (false≢true (sym stops ∙ goes)))
      (λ all. all) shortest.stops in
      none_first bytes (inr (record {
        front = all;
        goes = ap bundle_goes (sym all) ∙ goes;
        within = omega (arith, ap length all);
      })))
      (λ stops.
      let some = some_stopped front stops in
      let parts : bytes ≡ front ++ rest = sym (take-append-drop (length front) bytes)
      ∙ ap (λ (xs : List ℕ). xs ++ rest) (sym shortest.is_front) in
      rw parts (judged_so front rest (verdict front) refl stops (prefix_again bytes) within
      (divided_upto count rest (omega (arith, length-drop (length front) bytes)))))
      (cases_Bool (bundle_goes front)))
      (cases_lt limit (length front))

pub stays_divided : (limit : ℕ) (bytes : List ℕ) → StaysDivided limit bytes
stays_divided limit bytes = divided_upto limit (length bytes) bytes (omega arith)
