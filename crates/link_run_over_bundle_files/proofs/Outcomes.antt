-- What is made of an input, from its bundles and the bytes of the next one.
use Rattle.std.proofs.Common.{◌≡◌, ℕ, ◌<◌, false, List, [], ◌∷◌, ◌++◌, length, Option, Some, None, Result, Ok, Err, ⊎_elim, refl, ap, sym, ◌∙◌, append-nil, arith}
use Rattle.std.proofs.lemmas.Bool.{false≢true}
use Rattle.link_bundle_blocks.specs.Bundle.{verdict}
use Rattle.link_bundle_types.specs.declared.fault.BundleFault.{BundleFault}
use Rattle.link_bundle_types.specs.declared.info.BundleInfo.{BundleInfo}
use Rattle.link_run.specs.{Made.{Made, HasLastingFaults, whole_by, shows_fault}, Run.Outcome}
use Rattle.link_run.specs.Stages.{HasEmptyStartLastingFaults}
use Rattle.link_run_over_bundle_files.specs.Bundles.{BundleWithInfo, TailAfterBundles, Divided, IsUnfinishedBundle, divided, with_bundles}
use Rattle.link_run_over_bundle_files.specs.Telling.{BundleTelling, SoFar, stop_by, accepted_in, told_by, told_of}
use Rattle.link_run_over_bundle_files.specs.BundleRun.{fault_of, cut_at, ended_by}
use Rattle.link_run_over_bundle_files.proofs.Dividing.{whole_stops, divided_none, divided_open}
use Rattle.link_run_over_bundle_files.proofs.Divisions.{stays_divided}

-- the end of an input after the bytes `begun` of a bundle that goes on
record EndsInBundle (limit : ℕ) (begun : List ℕ) : Type 0 where
  pub rest : Option TailAfterBundles
  pub divides : divided limit begun ≡ record { bundles = []; rest = rest }
  pub accepted : accepted_in rest ≡ begun
  pub unshown : (number : ℕ) → shows_fault (stop_by number rest) ≡ false

cut_by : (limit : ℕ) (begun : List ℕ) (said : Result BundleInfo (BundleFault × ℕ))
    → verdict begun ≡ said → IsUnfinishedBundle limit begun → 0 < length begun → EndsInBundle limit begun
cut_by limit begun (Ok info) is opened some =
    absurd (false≢true (sym (whole_stops begun info is) ∙ opened.goes))
cut_by limit begun (Err (fault, offset)) is opened some =
    let parts = divided_open limit begun fault offset opened some is in
    record { rest = _; divides = parts.1; accepted = refl; unshown = λ number. parts.0 }

cut_open : (limit : ℕ) (begun : List ℕ) → IsUnfinishedBundle limit begun → EndsInBundle limit begun
cut_open limit [] opened =
    record { rest = None; divides = divided_none limit; accepted = refl; unshown = λ number. refl }
cut_open limit (byte ∷ bytes) opened =
    cut_by limit (byte ∷ bytes) (verdict (byte ∷ bytes)) refl opened (omega arith)

-- some bundles, and then the bytes `begun` of the next one
module _ (limit : ℕ) (history : List ℕ) (bundles : List BundleWithInfo) (begun : List ℕ)
    (divides : (more : List ℕ) → divided limit (history ++ more)
    ≡ with_bundles bundles (divided limit (begun ++ more))) where
  divided_at : (more : List ℕ) (rest : Option TailAfterBundles)
      → divided limit (begun ++ more) ≡ record { bundles = []; rest = rest }
      → divided limit (history ++ more) ≡ record { bundles = bundles; rest = rest }
  divided_at more rest is = divides more ∙ rw (is, append-nil) refl

  pub divided_now : (rest : Option TailAfterBundles)
      → divided limit begun ≡ record { bundles = []; rest = rest }
      → divided limit history ≡ record { bundles = bundles; rest = rest }
  divided_now rest is = rw append-nil at (divided_at [] rest (rw append-nil is))

  -- if more bytes do not change what follows the bundles, they change nothing
  pub divided_same : (rest : Option TailAfterBundles)
      → ((more : List ℕ) → divided limit (begun ++ more) ≡ record { bundles = []; rest = rest })
      → (more : List ℕ) → divided limit (history ++ more) ≡ divided limit history
  divided_same rest all more =
      divided_at more rest (all more) ∙ sym (rw append-nil at (divided_at [] rest (all [])))

-- the outcome of an input, from what is made of it
abbrev pub whole_of : Made → Outcome
whole_of made = whole_by made.stop made

ended_rest : (telling : BundleTelling) (bundles : List BundleWithInfo) (rest : Option TailAfterBundles)
    → whole_of (told_by telling (record { bundles = bundles; rest = rest }))
    ≡ ended_by telling (record { bundles = bundles; begun = accepted_in rest })
    (fault_of (stop_by (length bundles) rest))
ended_rest telling bundles None = refl
ended_rest telling bundles (Some rest) = refl

module _ (telling : BundleTelling) where
  pub told_as : (bytes : List ℕ) (input : Divided) → divided telling.limit bytes ≡ input
      → told_of telling bytes ≡ told_by telling input
  unfolding told_of
  told_as bytes input is = ap (told_by telling) is

  -- no bytes
  pub told_none : told_of telling [] ≡ told_by telling (record { bundles = []; rest = None })
  told_none = told_as [] _ (divided_none telling.limit)

  module _ (history : List ℕ) (now : SoFar)
      (divides : (more : List ℕ) → divided telling.limit (history ++ more)
      ≡ with_bundles now.bundles (divided telling.limit (now.begun ++ more))) where
    told_now : (rest : Option TailAfterBundles)
        → divided telling.limit now.begun ≡ record { bundles = []; rest = rest }
        → told_of telling history ≡ told_by telling (record { bundles = now.bundles; rest = rest })
    told_now rest is =
        told_as history _
        (divided_now telling.limit history now.bundles now.begun divides rest is)

    -- a bundle that goes on
    module _ (opened : IsUnfinishedBundle telling.limit now.begun) where
      pub texts_going : (told_of telling history).texts ≡ telling.texts now
      texts_going =
          let cut = cut_open telling.limit now.begun opened in
          rw (told_now cut.rest cut.divides, cut.accepted) refl

      pub unshown_going : shows_fault (told_of telling history).stop ≡ false
      unshown_going =
          let cut = cut_open telling.limit now.begun opened in
          rw (told_now cut.rest cut.divides) (cut.unshown (length now.bundles))

      -- the input ends here
      pub whole_going : whole_of (told_of telling history)
          ≡ ended_by telling now (cut_at telling.limit (length now.bundles) now.begun)
      whole_going =
          let cut = cut_open telling.limit now.begun opened in
          rw (told_now cut.rest cut.divides, cut.divides)
          (ended_rest telling now.bundles cut.rest ∙ rw cut.accepted refl)

    -- more bytes do not change what follows the bundles
    module _ (rest : Option TailAfterBundles) (all : (more : List ℕ)
        → divided telling.limit (now.begun ++ more) ≡ record { bundles = []; rest = rest }) where
      pub told_refused : told_of telling history
          ≡ told_by telling (record { bundles = now.bundles; rest = rest })
      told_refused = told_now rest (rw append-nil at (all []))

      pub told_same : (more : List ℕ) → told_of telling (history ++ more) ≡ told_of telling history
      unfolding told_of
      told_same more =
          ap (told_by telling)
          (divided_same telling.limit history now.bundles now.begun divides rest all more)

  pub lasting_told : HasLastingFaults (told_of telling)
  lasting_told bytes more shown =
      let parts = stays_divided telling.limit bytes in
      let now : SoFar = record { bundles = parts.bundles; begun = parts.begun } in
      ⊎_elim
      (λ refused.
      rw (told_same bytes now parts.divides _ refused.divides more) shown)
      (λ opened.
      absurd (false≢true (sym (unshown_going bytes now parts.divides opened) ∙ shown)))
      parts.last

  pub may_begin : HasEmptyStartLastingFaults (told_of telling) false
  may_begin = record { texts = refl; unshown = rw told_none refl; lasting = lasting_told }
