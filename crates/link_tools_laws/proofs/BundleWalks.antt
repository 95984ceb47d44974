-- What a tool over bundles says of an input, when more bytes follow.
use Rattle.std.proofs.Common.{◌≡◌, ℕ, zero, suc, ◌-◌, ◌<◌, ◌≤◌, Bool, true, false, List, [], ◌∷◌, ◌++◌, length, take, drop, Option, Some, None, Result, Ok, Err, if◌then◌else◌, refl, ap, sym, ◌∙◌, ⊎_elim, append-nil, append_assoc, length-append, length-drop, arith}
use Rattle.std.proofs.lemmas.Bool.{cases_lt, false≢true}
use Rattle.link_cbor.specs.Pieces.{taken}
use Rattle.link_bundle_types.specs.{Faults.lasts, declared.fault.BundleFault.BundleFault}
use Rattle.link_bundle_types.specs.declared.info.BundleInfo.{BundleInfo}
use Rattle.link_bundle_blocks.specs.Bundle.{verdict, bundle_goes}
use Rattle.link_run.specs.Made.{Made, tool_of}
use Rattle.link_run.proofs.Ends.{take-append}
use Rattle.link_run_over_bundle_files.specs.Bundles.{BundleWithInfo, Refusal, Longer, Faulty, TailAfterBundles, Divided, IsUnfinishedBundle, refused_by, divided_by, divided, with_bundles}
use Rattle.link_run_over_bundle_files.specs.Telling.{SoFar, BundleTelling, between, come_in, stop_by, with_run, told_of}
use Rattle.link_run_over_bundle_files.proofs.Dividing.{front_more, none_open, whole_stops, faulty_stops, within_limit, beyond_limit, refused_so, divided_none, divided_front}
use Rattle.link_run_over_bundle_files.proofs.Divisions.{IsRefused, StaysDivided, stays_divided}
use Rattle.link_run_over_bundle_files.proofs.Outcomes.{texts_going, unshown_going, told_same}
use Rattle.link_tools_laws.specs.Prefix.{HasPrefixTexts}
use Rattle.link_tools_laws.proofs.Prefixes.{ArePrefixes, prefixes_same, prefixes_trans, MadeOn, prefixed}

-- What is said of the bytes so far begins what is said with more bytes of the bundle, also if they
-- end it. It also begins what is said of an input that ends between two bundles.
pub record Grows (telling : BundleTelling) : Type 0 where
  pub part : (before : SoFar) (run : List ℕ)
      → ArePrefixes (telling.texts before) (telling.texts (with_run before run None))
  pub whole : (before : SoFar) (run : List ℕ) (info : BundleInfo) → 0 < length run
      → ArePrefixes (telling.texts before) (telling.texts (with_run before run (Some info)))
  pub ended : (bundles : List BundleWithInfo)
      → ArePrefixes (telling.texts (between bundles)) (telling.ended bundles)

-- if more bytes are needed before `run`, and none after it, then `run` is not empty
some_come : (begun run : List ℕ) → bundle_goes begun ≡ true → bundle_goes (begun ++ run) ≡ false
    → 0 < length run
some_come begun [] goes stops =
    absurd (false≢true (sym stops ∙ ap bundle_goes (append-nil begun) ∙ goes))
some_come begun (byte ∷ bytes) goes stops = omega arith

module _ (telling : BundleTelling) (grows : Grows telling) where
  abbrev limit : ℕ
  limit = telling.limit

  abbrev now : List BundleWithInfo → (begun : List ℕ) → SoFar
  now bundles begun = record { bundles = bundles; begun = begun }

  -- what is said of these bundles, and the bytes after them, begins what is said of this input too
  abbrev BeginsSaying : List BundleWithInfo → (begun : List ℕ) → Divided → Type 0
  BeginsSaying bundles begun input =
      ArePrefixes (telling.texts (now bundles begun))
      (telling.texts (come_in (with_bundles bundles input)))

  -- ---- a bundle that is refused, or goes on

  refused_begins : (bundles : List BundleWithInfo) (begun run before_fault : List ℕ)
      (refusal : Refusal) → before_fault ≡ begun ++ run
      → BeginsSaying bundles begun (refused_so [] before_fault refusal)
  refused_begins bundles begun run before_fault refusal is =
      rw (append-nil bundles, is) (grows.part (now bundles begun) run)

  faulty_begins : (bundles : List BundleWithInfo) (begun run : List ℕ) (stays : Bool) (fault : BundleFault)
      (place : ℕ) → bundle_goes begun ≡ true → lasts fault ≡ stays
      → verdict (begun ++ run) ≡ Err (fault, place)
      → BeginsSaying bundles begun (refused_so []
      (if stays then take (length (begun ++ run) - 1) (begun ++ run) else begun ++ run)
      (Faulty fault place))
  faulty_begins bundles begun run true fault place goes stays is =
      let some = some_come begun run goes (faulty_stops (begun ++ run) fault place is stays) in
      let size = length-append begun run in
      let all = length (begun ++ run) - 1 in
      refused_begins bundles begun (take (all - length begun) run) _ (Faulty fault place)
      (take-append all begun run (omega arith))
  faulty_begins bundles begun run false fault place goes stays is =
      refused_begins bundles begun run _ (Faulty fault place) refl

  -- ---- an input

  -- `more` comes after the bytes that have begun a bundle
  abbrev AllBegin : (count : ℕ) → Type 0
  AllBegin count =
      (bundles : List BundleWithInfo) (begun more : List ℕ) → IsUnfinishedBundle limit begun
      → length (begun ++ more) ≤ count → BeginsSaying bundles begun (divided limit (begun ++ more))

  module _ (count : ℕ) (fewer : AllBegin count) (bundles : List BundleWithInfo) (begun more : List ℕ)
      (opened : IsUnfinishedBundle limit begun) (few : length (begun ++ more) ≤ suc count) where
    abbrev run : List ℕ
    run = taken bundle_goes begun more

    abbrev Judged : Result BundleInfo Refusal → Type 0
    Judged said =
        BeginsSaying bundles begun (divided_by (divided limit) (begun ++ run) (begun ++ more) said)

    whole_begins : (info : BundleInfo) → 0 < length run → Judged (Ok info)
    whole_begins info some =
        let bundle : BundleWithInfo = record { bytes = begun ++ run; info = info } in
        let rest = drop (length (begun ++ run)) (begun ++ more) in
        let later = divided limit rest in
        let size = length-append begun run in
        prefixes_trans _ _ _ (grows.whole (now bundles begun) run info some)
        (rw (← append_assoc bundles (bundle ∷ []) later.bundles)
        (fewer (bundles ++ bundle ∷ []) [] rest (none_open limit)
        (omega (arith, size, length-drop (length (begun ++ run)) (begun ++ more)))))

    judged_begins : (said : Result BundleInfo (BundleFault × ℕ)) → verdict (begun ++ run) ≡ said
        → Judged (refused_by said)
    judged_begins (Ok info) is =
        whole_begins info (some_come begun run opened.goes (whole_stops (begun ++ run) info is))
    judged_begins (Err (fault, place)) is =
        faulty_begins bundles begun run (lasts fault) fault place opened.goes refl is

    some_begins : 0 < length (begun ++ more) → BeginsSaying bundles begun (divided limit (begun ++ more))
    some_begins some =
        let all = begun ++ run in
        rw (divided_front limit all (begun ++ more) some (front_more begun more opened.front))
        (⊎_elim
        (λ beyond. rw (beyond_limit limit all beyond)
        (refused_begins bundles begun (take (limit - length begun) run) _ (Longer limit)
        (take-append limit begun run opened.within)))
        (λ inside. rw (within_limit limit all inside) (judged_begins (verdict all) refl))
        (cases_lt limit (length all)))

  all_begin : (count : ℕ) → AllBegin count
  all_begin count bundles [] [] opened few =
      rw (divided_none limit, append-nil bundles) (prefixes_same _ _ refl)
  all_begin zero bundles [] (byte ∷ more) opened few = absurd (omega arith)
  all_begin zero bundles (byte ∷ begun) more opened few = absurd (omega arith)
  all_begin (suc count) bundles [] (byte ∷ more) opened few =
      some_begins count (all_begin count) bundles [] (byte ∷ more) opened few (omega arith)
  all_begin (suc count) bundles (byte ∷ begun) more opened few =
      some_begins count (all_begin count) bundles (byte ∷ begun) more opened few (omega arith)

  -- ---- what is made of an input

  ended_begins : (bundles : List BundleWithInfo) (rest : Option TailAfterBundles) → stop_by (length bundles) rest ≡ None
      → ArePrefixes (telling.texts (come_in (record { bundles = bundles; rest = rest })))
      (telling.ended bundles)
  ended_begins bundles None none = grows.ended bundles
  ended_begins bundles (Some rest) none = absurd (cc)

  module _ (bytes more : List ℕ) (parts : StaysDivided limit bytes) where
    open parts use {bundles, begun, divides}

    abbrev On : Type 0
    On = MadeOn (told_of telling bytes) (told_of telling (bytes ++ more))

    ends : (told_of telling (bytes ++ more)).stop ≡ None
        → ArePrefixes (told_of telling (bytes ++ more)).texts (told_of telling (bytes ++ more)).ended
    unfolding told_of
    ends none =
        let all = divided limit (bytes ++ more) in ended_begins all.bundles all.rest none

    -- what follows the bundles is refused
    refused_on : IsRefused limit begun → On
    refused_on refused =
        let same = told_same telling bytes (now bundles begun) divides _ refused.divides more in
        record {
          texts = prefixes_same _ _ (ap (λ (m : Made). m.texts) (sym same));
          ended = ends;
          stays = λ shown. same;
        }

    texts_on : IsUnfinishedBundle limit begun
        → ArePrefixes (telling.texts (now bundles begun)) (told_of telling (bytes ++ more)).texts
    unfolding told_of
    texts_on opened =
        rw (divides more)
        (all_begin (length (begun ++ more)) bundles begun more opened (omega arith))

    -- another bundle has begun, and goes on
    open_on : IsUnfinishedBundle limit begun → On
    open_on opened =
        let unshown = unshown_going telling bytes (now bundles begun) divides opened in
        let texts = texts_going telling bytes (now bundles begun) divides opened in
        record {
          texts = rw texts (texts_on opened);
          ended = ends;
          stays = λ shown. absurd (false≢true (sym unshown ∙ shown));
        }

  pub bundles_prefix : (bytes more : List ℕ) → HasPrefixTexts (tool_of (told_of telling)) bytes more
  bundles_prefix bytes more =
      let parts = stays_divided limit bytes in
      prefixed (told_of telling) bytes more
      (⊎_elim (refused_on bytes more parts) (open_on bytes more parts) parts.last)
