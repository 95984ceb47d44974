-- How an input is divided into bundles, and what a run of bytes shows of the current one.
use Rattle.std.proofs.Common.{◌≡◌, ℕ, zero, suc, ◌+◌, ◌-◌, ◌^◌, ◌==◌, ◌<◌, ◌≤◌, inr, Bool, true, false, List, [], ◌∷◌, ◌++◌, length, take, drop, Some, None, Result, Ok, Err, if◌then◌else◌, refl, ap, sym, ◌∙◌, subst, take_all, append-nil, length-append, length-drop, arith}
use Rattle.std.proofs.Math.Seq.{take-append-add, drop-append_seam, take-append_seam}
use Rattle.std.proofs.lemmas.Bool.{false≢true, lt-ltb, le-ltb}
use Rattle.std.proofs.lemmas.List.{length-take, nil_from_length, take-take, take-append-le}
use Rattle.link_cbor.specs.PieceLaws.{taken-idle, taken-cons, taken-nil, joins_pieces, takes_shortest}
use Rattle.link_cbor.specs.Pieces.{taken}
use Rattle.link_bundle_types.specs.{Faults.lasts, declared.fault.BundleFault.BundleFault}
use Rattle.link_bundle_types.specs.declared.fault.BundleFault.TheVariants.{Cut}
use Rattle.link_bundle_types.specs.declared.fault.State.TheVariants as state
use Rattle.link_bundle_types.specs.declared.info.BundleInfo.{BundleInfo}
use Rattle.link_bundle_blocks.specs.Bundle.{opening_at, bundle_at, judged_bundle, verdict, state_of, is_going, bundle_goes, blocks_in}
use Rattle.link_bundle_blocks.proofs.Showing.{BlocksGrow-holds}
use Rattle.link_run_over_bundle_files.specs.Bundles.{BundleWithInfo, Refusal, Longer, Faulty, Divided, IsUnfinishedBundle, bundle_prefix, refused_by, judged_front, with_bundle, divided_by, divided_in, divided}
use Rattle.link_bundle.specs.{Left.stage_last, Scan.{HasScanned, ending}, Stages.stage_state}
use Rattle.link_bundle.specs.declared.{draft.Draft.Draft, scan.BundleScan.BundleScan}
use Rattle.link_bundle.specs.declared.stage.ScanStage.{ScanStage}
use Rattle.link_bundle.specs.declared.stage.ScanStage.TheVariants as stage
use Rattle.link_bundle.proofs.Verdicts.{state_of-seen}
use Rattle.link_bundle_data_in_pieces.proofs.Judged.{joined_rest}
use Rattle.link_report.specs.declared.fault.Fault.TheVariants.{TooLong}
use Rattle.link_run_over_bundle_files.specs.{BundleRun.{AddsToSeenCount, RefusedBundle, AfterJudge, HasScannedFromPiece, found_by}, Telling.HasNoEarlierBlockEnd}
use Rattle.link_run_over_bundle_files.specs.declared.current.{Current.Current, Found.Found}
use Rattle.link_run_over_bundle_files.specs.declared.current.Found.TheVariants as found

-- ---- prefixes

-- bytes are their own prefix if each of them was needed
own_front : (part : List ℕ)
    → ((count : ℕ) → count < length part → bundle_goes (take count part) ≡ true)
    → bundle_prefix part ≡ part
own_front part wanted =
    sym ((takes_shortest bundle_goes [] part part).0 (record {
      is_front = sym (take_all (length part) part (omega arith));
      wanted = wanted;
      stops = inr refl;
    }))

pub prefix_again : (bytes : List ℕ) → bundle_prefix (bundle_prefix bytes) ≡ bundle_prefix bytes
prefix_again bytes =
    own_front _ ((takes_shortest bundle_goes [] bytes (bundle_prefix bytes)).1 refl).wanted

-- bytes that are taken whole are followed by the bytes that they still need
pub front_more : (part more : List ℕ) → bundle_prefix part ≡ part
    → bundle_prefix (part ++ more) ≡ part ++ taken bundle_goes part more
front_more part more front = joins_pieces bundle_goes [] part more ∙ rw front refl

pub front_kept : (part piece : List ℕ) → bundle_prefix part ≡ part
    → bundle_prefix (part ++ taken bundle_goes part piece) ≡ part ++ taken bundle_goes part piece
front_kept part piece front = rw (sym (front_more part piece front)) (prefix_again (part ++ piece))

-- before the last byte of a prefix, its bytes begin a bundle that goes on
pub run_open : (limit : ℕ) (begun run : List ℕ) → bundle_prefix (begun ++ run) ≡ begun ++ run
    → length (begun ++ run) ≤ suc limit
    → (count : ℕ) → count < length run → IsUnfinishedBundle limit (begun ++ take count run)
run_open limit begun run front within count less =
    let all = begun ++ run in
    let wanted = ((takes_shortest bundle_goes [] all all).1 (sym front)).wanted in
    let at = length begun + count in
    let sizes = length-append begun run in
    let size = length-take at all in
    subst (IsUnfinishedBundle limit) (take-append-add begun run count) (record {
      front = own_front (take at all) (λ fewer short.
          ap bundle_goes (take-take fewer at all (omega (arith, size)))
          ∙ wanted fewer (omega (arith, size)));
      goes = wanted at (omega (arith, sizes));
      within = omega (arith, size, sizes);
    })

-- ---- verdicts

verdict_none : verdict [] ≡ Err (Cut, 0)
unfolding verdict judged_bundle bundle_at opening_at
verdict_none = refl

pub whole_stops : (bundle : List ℕ) (info : BundleInfo) → verdict bundle ≡ Ok info
    → bundle_goes bundle ≡ false
whole_stops bundle info is = rw is refl

pub faulty_stops : (front : List ℕ) (fault : BundleFault) (offset : ℕ)
    → verdict front ≡ Err (fault, offset) → lasts fault ≡ true → bundle_goes front ≡ false
faulty_stops front fault offset is stays = rw (is, stays) refl

-- before the first byte, more bytes are needed
pub none_goes : bundle_goes [] ≡ true
none_goes = rw verdict_none refl

pub none_open : (limit : ℕ) → IsUnfinishedBundle limit []
none_open limit =
    record { front = taken-nil bundle_goes []; goes = none_goes; within = omega arith }

-- bytes that need no more are not empty
pub some_stopped : (front : List ℕ) → bundle_goes front ≡ false → 0 < length front
some_stopped [] idle = absurd (false≢true (sym idle ∙ none_goes))
some_stopped (byte ∷ bytes) idle = omega arith

-- the fault of bytes that need more does not last
going_mends : (stays : Bool) (fault : BundleFault) (offset : ℕ)
    → is_going (if stays then state.Failed fault offset else state.Going) ≡ true → stays ≡ false
going_mends true fault offset goes = absurd (cc)
going_mends false fault offset goes = refl

-- ---- the judgement of a prefix

pub within_limit : (limit : ℕ) (front : List ℕ) → length front ≤ limit
    → judged_front limit front ≡ refused_by (verdict front)
within_limit limit front within = rw (le-ltb limit (length front) within) refl

pub beyond_limit : (limit : ℕ) (front : List ℕ) → limit < length front
    → judged_front limit front ≡ Err (Longer limit)
beyond_limit limit front beyond = rw (lt-ltb limit (length front) beyond) refl

-- ---- the division of an input

-- `next` and `other` divide the same if they agree on the bytes after the bundle
divided_by-same : (next other : List ℕ → Divided) (front bytes : List ℕ)
    (said : Result BundleInfo Refusal)
    → next (drop (length front) bytes) ≡ other (drop (length front) bytes)
    → divided_by next front bytes said ≡ divided_by other front bytes said
divided_by-same next other front bytes (Ok info) same =
    ap (with_bundle (record { bytes = front; info = info })) same
divided_by-same next other front bytes (Err refusal) same = refl

-- after a prefix fewer bytes are left
fewer_left : (byte : ℕ) (bytes : List ℕ)
    → length (drop (length (bundle_prefix (byte ∷ bytes))) (byte ∷ bytes)) ≤ length bytes
fewer_left byte bytes =
    let some = ap length (taken-cons bundle_goes [] byte bytes none_goes) in
    omega (arith, some, length-drop (length (bundle_prefix (byte ∷ bytes))) (byte ∷ bytes))

-- each count of at least the number of bytes divides them the same
enough_turns : (count other limit : ℕ) (bytes : List ℕ) → length bytes ≤ count
    → length bytes ≤ other → divided_in count limit bytes ≡ divided_in other limit bytes
unfolding divided_in
enough_turns count other limit [] p q = refl
enough_turns zero other limit (byte ∷ bytes) p q = absurd (omega arith)
enough_turns (suc count) zero limit (byte ∷ bytes) p q = absurd (omega arith)
enough_turns (suc count) (suc other) limit (byte ∷ bytes) p q =
    let front = bundle_prefix (byte ∷ bytes) in
    let fewer = fewer_left byte bytes in
    divided_by-same (divided_in count limit) (divided_in other limit) front (byte ∷ bytes)
    (judged_front limit front)
    (enough_turns count other limit (drop (length front) (byte ∷ bytes)) (omega arith)
    (omega arith))

-- these bundles, and then bytes that do not begin with a bundle that the peer takes
abbrev pub refused_so : List BundleWithInfo → (before_fault : List ℕ) → Refusal → Divided
refused_so bundles before_fault refusal =
    record {
      bundles = bundles;
      rest = Some (record { before_fault = before_fault; refusal = refusal });
    }

pub divided_none : (limit : ℕ) → divided limit [] ≡ record { bundles = []; rest = None }
unfolding divided divided_in
divided_none limit = refl

-- bytes that are not empty are divided by their front
pub divided_front : (limit : ℕ) (front bytes : List ℕ) → 0 < length bytes → bundle_prefix bytes ≡ front
    → divided limit bytes ≡ divided_by (divided limit) front bytes (judged_front limit front)
unfolding divided divided_in
divided_front limit front [] some is = absurd (omega arith)
divided_front limit front (byte ∷ bytes) some is =
    rw (sym is) (divided_by-same (divided_in (length bytes) limit) (divided limit)
    (bundle_prefix (byte ∷ bytes)) (byte ∷ bytes)
    (judged_front limit (bundle_prefix (byte ∷ bytes)))
    (enough_turns (length bytes) _ limit _ (fewer_left byte bytes) (omega arith)))

-- their front is no longer than the peer takes
divided_within : (limit : ℕ) (front bytes : List ℕ) → 0 < length bytes → bundle_prefix bytes ≡ front
    → length front ≤ limit
    → divided limit bytes ≡ divided_by (divided limit) front bytes (refused_by (verdict front))
divided_within limit front bytes some is within =
    divided_front limit front bytes some is ∙ rw (le-ltb limit (length front) within) refl

-- if no more bytes are needed after the front, the others do not change how it is judged
divided_stopped : (limit : ℕ) (front more : List ℕ) → bundle_prefix front ≡ front
    → bundle_goes front ≡ false → length front ≤ limit
    → divided limit (front ++ more)
    ≡ divided_by (divided limit) front (front ++ more) (refused_by (verdict front))
divided_stopped limit front more is stops =
    let some = some_stopped front stops in
    divided_within limit front (front ++ more) (omega (arith, length-append front more))
    (front_more front more is ∙ rw (taken-idle bundle_goes front more stops, append-nil) refl)

-- the bytes begin with a bundle that the peer takes
pub divided_whole : (limit : ℕ) (bundle more : List ℕ) (info : BundleInfo)
    → bundle_prefix bundle ≡ bundle → verdict bundle ≡ Ok info → length bundle ≤ limit
    → divided limit (bundle ++ more)
    ≡ with_bundle (record { bytes = bundle; info = info }) (divided limit more)
divided_whole limit bundle more info front is within =
    divided_stopped limit bundle more front (whole_stops bundle info is) within
    ∙ rw (is, drop-append_seam) refl

-- the bytes begin with more than the peer takes, and these are no bundle
pub divided_longer : (limit : ℕ) (bytes more : List ℕ) → limit < length (bundle_prefix bytes)
    → divided limit (bytes ++ more)
    ≡ refused_so [] (take limit (bundle_prefix bytes)) (Longer limit)
divided_longer limit bytes more beyond =
    let front = bundle_prefix bytes in
    let run = taken bundle_goes front more in
    let is = ((takes_shortest bundle_goes [] bytes front).1 refl).is_front in
    let size = ap length is ∙ length-take (length front) bytes in
    let longer = length-append front run in
    divided_front limit (front ++ run) (bytes ++ more)
    (omega (arith, size, length-append bytes more))
    (joins_pieces bundle_goes [] bytes more)
    ∙ rw (
      lt-ltb limit (length (front ++ run)) (omega arith),
      take-append-le limit front run (omega arith),
    ) refl

-- the last byte of the prefix shows a fault
pub divided_faulty : (limit : ℕ) (front more : List ℕ) (fault : BundleFault) (offset : ℕ)
    → bundle_prefix front ≡ front → verdict front ≡ Err (fault, offset)
    → lasts fault ≡ true → length front ≤ limit
    → divided limit (front ++ more)
    ≡ refused_so [] (take (length front - 1) front) (Faulty fault offset)
divided_faulty limit front more fault offset is said stays within =
    divided_stopped limit front more is (faulty_stops front fault offset said stays) within
    ∙ rw (said, stays) refl

-- the bytes end inside a bundle
pub divided_open : (limit : ℕ) (part : List ℕ) (fault : BundleFault) (offset : ℕ)
    → IsUnfinishedBundle limit part → 0 < length part → verdict part ≡ Err (fault, offset)
    → (lasts fault ≡ false) × (divided limit part ≡ refused_so [] part (Faulty fault offset))
divided_open limit part fault offset opened some said =
    let mends = going_mends (lasts fault) fault offset (rw said at opened.goes) in
    (mends, divided_within limit part part some opened.front opened.within ∙ rw (said, mends) refl)

-- ---- a byte past the limit

pub too_long : (limit : ℕ) (by_blocks : Bool) (number : ℕ) (begun piece : List ℕ)
    → IsUnfinishedBundle limit begun → 0 < length piece → length begun ≡ limit
    → RefusedBundle limit by_blocks number begun (take 1 piece) (TooLong number limit)
too_long limit by_blocks number begun [] opened some full = absurd (omega arith)
too_long limit by_blocks number begun (byte ∷ bytes) opened some full =
    let run = byte ∷ [] in
    let size = length-append begun run in
    let front : bundle_prefix (begun ++ run) ≡ begun ++ run = front_more begun run opened.front
    ∙ rw (taken-cons bundle_goes begun byte [] opened.goes, taken-nil) refl in
    let accepted : take limit (bundle_prefix (begun ++ run)) ≡ begun ++ [] =
    rw (front, sym full, take-append_seam, append-nil) refl in
    record {
      refusal = Longer limit;
      is = refl;
      lasts = refl;
      divides = λ more.
          divided_longer limit (begun ++ run) more (omega (arith, ap length front, size, full))
          ∙ rw accepted refl;
      before = run_open limit begun run front (omega (arith, size, full));
      blocks = λ is. ap blocks_in (append-nil begun);
    }

-- ---- a run that was scanned

pub taken_some : (begun piece : List ℕ) → bundle_goes begun ≡ true → 0 < length piece
    → 0 < length (taken bundle_goes begun piece)
taken_some begun [] goes some = absurd (omega arith)
taken_some begun (byte ∷ bytes) goes some = rw (taken-cons bundle_goes begun byte bytes goes) (omega arith)

-- what a scan takes of a piece, if it does not stop at blocks
pub fed : (by_blocks : Bool) (scan : BundleScan) (begun piece : List ℕ) (count : ℕ)
    → by_blocks ≡ false → bundle_goes begun ≡ true → 0 < length piece
    → count ≡ length (taken bundle_goes begun piece)
    → HasScanned scan (begun ++ taken bundle_goes begun piece)
    → HasScannedFromPiece by_blocks scan begun piece count
fed by_blocks scan begun piece count not_blocks goes some counted scanned =
    let run = taken bundle_goes begun piece in
    let shortest = (takes_shortest bundle_goes begun piece run).1 refl in
    let same : run ≡ take count piece =
    shortest.is_front ∙ ap (λ n. take n piece) (sym counted) in
    record {
      some = omega (arith, taken_some begun piece goes some);
      scanned = rw same at scanned;
      wanted = λ fewer less.
          rw (same, take-take fewer count piece (omega arith)) at
          (shortest.wanted fewer (omega arith));
      blocks = λ is. absurd (false≢true (sym not_blocks ∙ is));
    }

-- all but the last byte
but_last : (begun run : List ℕ) → 0 < length run
    → take (length (begun ++ run) - 1) (begun ++ run) ≡ begun ++ take (length run - 1) run
but_last begun run some =
    let size : length (begun ++ run) - 1 ≡ length begun + (length run - 1) = omega (arith, length-append begun run) in
    ap (λ n. take n (begun ++ run)) size ∙ take-append-add begun run (length run - 1)

-- no block ends with a byte that shows a fault
none_ends : (stage : ScanStage) (draft : Draft) (count : ℕ) (here : Bool) (fault : BundleFault)
    (offset : ℕ) → stage_state stage ≡ state.Failed fault offset
    → (if here then stage_last stage draft count else []) ≡ []
none_ends stage.BlockHeads draft count here fault offset failed = absurd (let h = failed in cc)
none_ends stage.Break draft count here fault offset failed = absurd (let h = failed in cc)
none_ends stage draft count true fault offset failed = refl
none_ends stage draft count false fault offset failed = refl

-- if no block ends in a run, none ends in fewer bytes
fewer_blocks : (begun run : List ℕ) (count : ℕ) → blocks_in (begun ++ run) ≡ blocks_in begun
    → blocks_in (begun ++ take count run) ≡ blocks_in begun
fewer_blocks begun run count same =
    let first = BlocksGrow-holds begun (take count run) in
    let rest = BlocksGrow-holds (begun ++ take count run) (drop count run) in
    let none : first.0 ≡ [] = nil_from_length first.0 (omega (
      arith,
      ap length same,
      ap length (rw (joined_rest begun run count) at rest.1),
      ap length first.1,
      length-append (blocks_in (begun ++ take count run)) rest.0,
      length-append (blocks_in begun) first.0,
    )) in
    first.1 ∙ rw (none, append-nil) refl

module _ (limit : ℕ) (by_blocks : Bool) (current : Current) (begun run : List ℕ)
    (some : 0 < length run) (scanned : HasScanned current.scan (begun ++ run))
    (blocks : HasNoEarlierBlockEnd by_blocks current.scan begun run)
    (front : bundle_prefix (begun ++ run) ≡ begun ++ run)
    (within : length (begun ++ run) ≤ limit) where
  took_fault : (fault : BundleFault) (offset : ℕ) (test : Bool) → lasts fault ≡ test
      → verdict (begun ++ run) ≡ Err (fault, offset)
      → AfterJudge limit by_blocks current begun run (found_by current.number (if test
      then state.Failed fault offset else state.Going))
  took_fault fault offset true lasting said =
      let none : ending current.scan ≡ [] = none_ends current.scan.stage current.scan.draft
      current.scan.cursor.count (length current.scan.cursor.hold == 0) fault offset
      (state_of-seen scanned ∙ rw (said, lasting) refl) in
      record {
        refusal = Faulty fault offset;
        is = refl;
        lasts = lasting;
        divides = λ more. rw (sym (but_last begun run some))
            (divided_faulty limit (begun ++ run) more fault offset front said lasting within);
        before = run_open limit begun run front (omega arith);
        blocks = λ is. fewer_blocks begun run (length run - 1)
            (blocks is ∙ rw (none, append-nil) refl);
      }
  took_fault fault offset false lasting said = (
    record {
      scanned = scanned;
      opened = record { front = front; goes = rw (said, lasting) refl; within = within };
    },
    blocks,
  )

  took : (said : Result BundleInfo (BundleFault × ℕ)) → verdict (begun ++ run) ≡ said
      → AfterJudge limit by_blocks current begun run (found_by current.number (state_of said))
  took (Ok info) said =
      (record { scanned = scanned; front = front; within = within; info = info; is = said }, blocks)
  took (Err (fault, offset)) said = took_fault fault offset (lasts fault) refl said

-- what a scan has taken of the first `size` bytes of a piece
pub judged : (limit : ℕ) (by_blocks : Bool) (current : Current) (begun piece : List ℕ)
    (size count : ℕ) (found : Found) → count ≤ length (take size piece)
    → HasScannedFromPiece by_blocks current.scan begun (take size piece) count
    → bundle_prefix begun ≡ begun → length begun + size ≤ limit
    → ((seen : List ℕ) → HasScanned current.scan seen
    → found ≡ found_by current.number (state_of (verdict seen)))
    → AfterJudge limit by_blocks current begun (take count piece) found
judged limit by_blocks current begun piece size count found fits scans kept within shows =
    let some = scans.some in
    let few : count ≤ size = omega (arith, length-take size piece) in
    let same = take-take count size piece few in
    let run = take count piece in
    let run_size : length run ≡ count =
    omega (arith, length-take count piece, length-take size piece) in
    let scanned : HasScanned current.scan (begun ++ run) = rw same at scans.scanned in
    let needed : run ≡ taken bundle_goes begun run =
    (takes_shortest bundle_goes begun run run).0 (record {
      is_front = sym (take_all (length run) run (omega arith));
      wanted = λ fewer less.
          rw (
            take-take fewer count piece (omega arith),
            ← take-take fewer size piece (omega arith),
          ) (scans.wanted fewer (omega arith));
      stops = inr refl;
    }) in
    let front : bundle_prefix (begun ++ run) ≡ begun ++ run =
    front_more begun run kept ∙ ap (λ bytes. begun ++ bytes) (sym needed) in
    let made = took limit by_blocks current begun run (omega arith) scanned
    (rw same at scans.blocks) front (omega (arith, length-append begun run))
    (verdict (begun ++ run)) refl in
    rw (shows (begun ++ run) scanned) made

-- the number of bytes that a scan has seen
pub counted : (before count after : ℕ) (found : Found) → before + count ≡ after → after < 2 ^ 63
    → AddsToSeenCount before count after found
counted before count after found.Part same less = (same, less)
counted before count after found.Whole same less = (same, less)
counted before count after (found.Refused fault) same less = omega (arith, same)
