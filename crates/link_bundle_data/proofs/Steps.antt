-- More bytes, at each stage of a scan.

use Rattle.std.proofs.Common.{◌≡◌, ℕ, ◌+◌, ◌-◌, ◌<◌, ◌≤◌, Bool, true, false, List, [], ◌++◌, length, drop, Result, Ok, Err, refl, sym, ap, ◌∙◌, append_assoc, length-append, length-drop, arith}
use Rattle.std.specs.Prelude.{IsTrue}
use Rattle.std.proofs.lemmas.{Bool.{eq-eqb, eqb-true, ne_eqb}, List.drop-append-le}
use Rattle.std.proofs.{Math.Bool.or-true, lemmas.List.Elements.All-nil}
use Rattle.link_cbor.specs.declared.{head.Head.Head as HeadItem, head_scan.HeadScan.HeadScan}
use Rattle.link_cbor.specs.Head.{AreBytes, HeadFront, Cut as CutHead, IllFormed, Whole, head_front}
use Rattle.link_cbor.specs.HeadScan.{HasScannedHead}
use Rattle.link_cbor.proofs.HeadLaws.{whole_stays}
use Rattle.link_bundle_types.specs.declared.fault.BundleFault.{BundleFault}
use Rattle.link_bundle_types.specs.declared.fault.BundleFault.TheVariants.{BadHead}
use Rattle.link_bundle_blocks.specs.Reading.{stopped}
use Rattle.link_bundle_blocks.proofs.Seen.{next_run, nothing_yet, AreBytes-append, head_at-whole_stays, head_at-ill_formed_stays}
use Rattle.link_bundle_data.specs.declared.{kind.DataKind.DataKind, due.Due.Due, due.Owner.Owner, values.DataFault.DataFault}
use Rattle.link_bundle_data.specs.declared.due.{Found.Found, DataStage.DataStage}
use Rattle.link_bundle_data.specs.declared.due.DataStage.TheVariants.{Head, Name, Read, Failed}
use Rattle.link_bundle_data.specs.{declared.draft.Draft.Draft, BlockData.{alone, exceeds_limit, located, data_of}}
use Rattle.link_bundle_data.specs.Turns.{first_due, took_run, judged}
use Rattle.link_bundle_data.specs.Left.{may_follow, stage_left, goes_on}
use Rattle.link_bundle_data.specs.{declared.scan.DataScan.DataScan, Fits.scan_fits}
use Rattle.link_bundle_data.specs.Scan.{HasScannedBy, HasScanned, HasHeadToJudge, TakesRun, DataStageFits}
use Rattle.link_bundle_data.proofs.{Heads.head_turn, Names.name_goes_on, Starts.starts}
use Rattle.link_bundle_data.proofs.Stops.{due_left-stopped}

-- ---- a scan whose stage is known

pub at_stage : {kind : DataKind} (scan : DataScan) {stage : DataStage} {seen : List ℕ}
    → scan.stage ≡ stage → HasScanned kind scan seen
    → HasScannedBy kind stage scan.draft scan.head scan.offset scan.count seen
at_stage scan is come = rw is at come.state

pub fits_at : (scan : DataScan) (stage : DataStage) → scan.stage ≡ stage
    → IsTrue (scan_fits stage scan.head scan.draft)
fits_at scan stage is = rw is at scan.fits

-- ---- more bytes

-- the rest, after a run of more bytes
grown_reads : {kind : DataKind} {stage : DataStage} {draft : Draft} {head : HeadScan} {offset count : ℕ}
    {seen : List ℕ} → HasScannedBy kind stage draft head offset count seen → (run more : List ℕ)
    → data_of kind ((seen ++ run) ++ more)
    ≡ stage_left stage draft ((seen ++ run) ++ more) offset (length seen)
grown_reads {seen = seen} come run more = rw (append_assoc seen run more) (come.reads (run ++ more))

-- ---- a stage that is entered

stands_entered : (stage : DataStage) (head : HeadScan) (offset : ℕ) (seen : List ℕ)
    → offset ≡ length seen → HasScannedHead head [] → DataStageFits stage head offset seen
unfolding head_front
stands_entered (Head which) head offset seen here fresh = record {
  in_bytes = omega arith;
  scanned = rw (nothing_yet offset seen here) fresh;
  cut = rw (nothing_yet offset seen here) refl;
}
stands_entered (Read found) head offset seen here fresh =
    rw (eq-eqb offset (length seen) here, or-true (may_follow found)) refl
stands_entered _ head offset seen here fresh = tt

module _ {kind : DataKind} {stage : DataStage} {draft : Draft} {head : HeadScan} where
  pub entered : {offset count : ℕ} {seen : List ℕ}
      → AreBytes seen → count ≡ length seen → offset ≡ length seen → HasScannedHead head []
      → ((more : List ℕ) → data_of kind (seen ++ more)
      ≡ stage_left stage draft (seen ++ more) (length seen) (length seen))
      → HasScannedBy kind stage draft head offset count seen
  entered {offset = offset} {seen = seen} all counted here fresh reads = record {
    all_bytes = all;
    counted = counted;
    reads = rw here reads;
    stands = stands_entered stage head offset seen here fresh;
  }

-- the first head
pub begun : {kind : DataKind} {which : Due} (draft : Draft) {head : HeadScan}
    → which ≡ first_due kind → HasScannedHead head []
    → HasScannedBy kind (Head which) draft head 0 0 []
unfolding stage_left data_of
begun {kind = kind} draft first fresh =
    entered (All-nil (λ (b : ℕ). b < 256)) refl refl fresh
    (λ more. rw first (ap (located more) (starts kind draft more)))

-- ---- heads

module _ {kind : DataKind} {which : Due} {draft : Draft} {head : HeadScan} {offset count : ℕ}
    {seen : List ℕ} (come : HasScannedBy kind (Head which) draft head offset count seen) where
  pub grown_head : {new : ℕ} (run : List ℕ) → AreBytes run → new ≡ count + length run
      → HasHeadToJudge kind which draft offset new (seen ++ run)
  unfolding stage_left
  grown_head run are grows = record {
    all_bytes = AreBytes-append seen run come.all_bytes are;
    counted = omega (arith, length-append seen run, come.counted);
    in_bytes = omega (arith, length-append seen run, come.stands.in_bytes);
    reads = grown_reads come run;
  }

  -- the bytes seen of a head, with a run of more bytes
  pub grown_bytes : {new : HeadScan} {run : List ℕ}
      → ((bytes : List ℕ) → HasScannedHead head bytes → HasScannedHead new (bytes ++ run))
      → HasScannedHead new (drop offset (seen ++ run))
  grown_bytes {run = run} heads =
      rw (drop-append-le offset seen run come.stands.in_bytes)
      (heads (drop offset seen) come.stands.scanned)

  -- at the beginning of a head, the scan of the head is new
  pub fresh_at : offset ≡ length seen → HasScannedHead head []
  fresh_at here = rw (nothing_yet offset seen here) at come.stands.scanned

-- data that is malformed at this offset, whatever bytes follow
failed : {kind : DataKind} {at : DataFault} {draft : Draft} {head : HeadScan} {offset count : ℕ}
    {seen : List ℕ} → AreBytes seen → count ≡ length seen
    → ((more : List ℕ) → data_of kind (seen ++ more) ≡ Err at)
    → HasScannedBy kind (Failed at) draft head offset count seen
unfolding stage_left
failed all counted reads = record { all_bytes = all; counted = counted; reads = reads; stands = tt }

-- bytes of a head that is not judged yet
module _ {kind : DataKind} {which : Due} {draft : Draft} {offset count : ℕ} {seen : List ℕ}
    (come : HasHeadToJudge kind which draft offset count seen) where
  -- the head is not whole
  pub more_head : {head : HeadScan} → HasScannedHead head (drop offset seen)
      → head_front (drop offset seen) ≡ CutHead
      → HasScannedBy kind (Head which) draft head offset count seen
  unfolding stage_left
  more_head scanned outcome = record {
    all_bytes = come.all_bytes;
    counted = come.counted;
    reads = come.reads;
    stands = record { in_bytes = come.in_bytes; scanned = scanned; cut = outcome };
  }

  -- the head is ill-formed
  pub bad_head : {at : DataFault} {head : HeadScan} → head_front (drop offset seen) ≡ IllFormed
      → at ≡ record { offset = offset; is_limit = false }
      → HasScannedBy kind (Failed at) draft head offset count seen
  bad_head outcome there =
      failed come.all_bytes come.counted
      (λ more. come.reads more
      ∙ ap (located (seen ++ more))
      (due_left-stopped which draft (seen ++ more) offset (stopped BadHead offset)
      (head_at-ill_formed_stays offset seen more come.in_bytes outcome))
      ∙ ap Err (sym there))

  -- the head is whole
  module _ {item : HeadItem} {size : ℕ}
      (outcome : head_front (drop offset seen) ≡ Whole item (length (drop offset seen)))
      (sized : size ≡ length (drop offset seen)) where
    turned_head : {result : Result (DataStage × Draft) BundleFault}
        → result ≡ judged which size item draft → (more : List ℕ)
        → data_of kind (seen ++ more) ≡ goes_on result (seen ++ more) offset (length seen)
    turned_head is more =
        let same : length seen - offset ≡ size =
        omega (arith, length-drop offset seen, come.in_bytes) in
        come.reads more
        ∙ head_turn which draft item (seen ++ more) offset (length seen)
        (head_at-whole_stays offset seen more item come.in_bytes outcome)
        (omega (arith, length-append seen more))
        ∙ rw (same, is) refl

    pub went_on : {stage : DataStage} {new : Draft} {head : HeadScan}
        → Ok (stage, new) ≡ judged which size item draft → HasScannedHead head []
        → HasScannedBy kind stage new head count count seen
    went_on is fresh = entered come.all_bytes come.counted come.counted fresh (turned_head is)

    pub refused : {fault : BundleFault} {limit : Bool} {new : Draft} {head : HeadScan}
        → Err fault ≡ judged which size item draft
        → ((size : ℕ) → limit ≡ exceeds_limit fault (Whole item size))
        → HasScannedBy kind (Failed (record { offset = offset; is_limit = limit })) new head offset count
        seen
    refused {fault = fault} is limits =
        failed come.all_bytes come.counted
        (λ more.
        let front : head_front (drop offset (seen ++ more))
        ≡ Whole item (length (drop offset seen)) =
        rw (drop-append-le offset seen more come.in_bytes)
        (whole_stays (drop offset seen) more item _ outcome) in
        turned_head is more
        ∙ ap (λ (limit : Bool). Err (record { offset = offset; is_limit = limit }))
        (ap (λ (front : HeadFront). exceeds_limit fault front) front ∙ sym (limits _)))

-- ---- names

pub grown_name : {kind : DataKind} {owner : Owner} {left : ℕ} {draft new : Draft} {stage : DataStage}
    {old_head head : HeadScan} {offset old count : ℕ} {seen : List ℕ} (run : List ℕ)
    → HasScannedBy kind (Name owner left) draft old_head offset old seen → AreBytes run
    → 0 < length run → length run ≤ left → (stage, new) ≡ took_run owner left run draft
    → count ≡ old + length run → HasScannedHead head []
    → HasScannedBy kind stage new head count count (seen ++ run)
grown_name {owner = owner} {left = left} {draft = draft} {count = count} {seen = seen} run come are
    some fits is grows fresh =
    let counted : count ≡ length (seen ++ run) =
    omega (arith, length-append seen run, come.counted) in
    entered (AreBytes-append seen run come.all_bytes are) counted counted fresh
    (λ more.
    let bytes = (seen ++ run) ++ more in
    grown_reads come run more
    ∙ name_goes_on owner draft left bytes more run _ (length seen) (next_run seen more run)
    some fits
    ∙ rw (length-append seen run) (ap (λ (turn : DataStage × Draft).
    stage_left turn.0 turn.1 bytes (length seen + length run) (length seen + length run)) (sym is)))

-- ---- bytes after the item, and after a fault

module _ {kind : DataKind} {draft : Draft} {head : HeadScan} {offset old count : ℕ}
    {seen : List ℕ} (run : List ℕ) (are : AreBytes run) (grows : count ≡ old + length run) where
  pub grown_failed : {at : DataFault} → HasScannedBy kind (Failed at) draft head offset old seen
      → HasScannedBy kind (Failed at) draft head offset count (seen ++ run)
  unfolding stage_left
  grown_failed {at = at} come =
      failed (AreBytes-append seen run come.all_bytes are)
      (omega (arith, length-append seen run, come.counted)) (grown_reads come run)

  module _ {found : Found} (come : HasScannedBy kind (Read found) draft head offset old seen) where
    -- bytes that may follow the item
    pub grown_open : may_follow found ≡ true
        → HasScannedBy kind (Read found) draft head offset count (seen ++ run)
    unfolding stage_left
    grown_open follow = record {
      all_bytes = AreBytes-append seen run come.all_bytes are;
      counted = omega (arith, length-append seen run, come.counted);
      reads = grown_reads come run;
      stands = rw follow refl;
    }

    -- bytes that may not follow it
    pub grown_closed : {at : DataFault} → 0 < length run → may_follow found ≡ false
        → at ≡ record { offset = offset; is_limit = false }
        → HasScannedBy kind (Failed at) draft head offset count (seen ++ run)
    unfolding stage_left alone
    grown_closed some closed there =
        let here = eqb-true offset (length seen) (rw closed at come.stands) in
        failed (AreBytes-append seen run come.all_bytes are)
        (omega (arith, length-append seen run, come.counted))
        (λ more.
        let bytes = (seen ++ run) ++ more in
        grown_reads come run more
        ∙ rw (
          closed,
          ne_eqb offset (length bytes) (λ same. omega (
            arith,
            here,
            same,
            length-append (seen ++ run) more,
            length-append seen run,
          )),
        ) (ap Err (sym there)))

-- ---- one run after another

pub taken_then : (old middle new : DataScan) (run more : List ℕ) → TakesRun old middle run
    → TakesRun middle new more → TakesRun old new (run ++ more)
taken_then old middle new run more first second = record {
  size = omega (arith, length-append run more, first.size, second.size);
  seen = λ kind seen come. rw append_assoc at
      (second.seen kind (seen ++ run) (first.seen kind seen come));
}
