-- More bytes that a scan sees.

use Rattle.std.proofs.Common.{◌≡◌, ℕ, ◌+◌, ◌<◌, true, false, List, [], ◌∷◌, ◌++◌, length, get_or, take, Option, None, Some, Err, refl, sym, ap, subst, ◌∙◌, append_assoc, append-nil, length-append, arith}
use Rattle.std.specs.Prelude.{IsTrue, is_some, ◌==◌}
use Rattle.std.proofs.lemmas.Bool.{and_parts, ne_eqb, not-true}
use Rattle.std.proofs.lemmas.List.Elements.{All-nil, All-take}
use Rattle.link_cbor.specs.Head.{AreBytes}
use Rattle.link_bundle.specs.declared.{cursor.Cursor.Cursor, draft.Draft.Draft, scan.BundleScan.BundleScan}
use Rattle.link_bundle_types.specs.declared.fault.BundleFault.TheVariants.{Trailing}
use Rattle.link_bundle_types.specs.declared.info.BundleInfo.{BundleInfo}
use Rattle.link_bundle.specs.declared.stage.ScanStage.{ScanStage}
use Rattle.link_bundle.specs.declared.stage.ScanStage.TheVariants.{PrimaryBlock, Ended, Failed}
use Rattle.link_bundle_blocks.specs.{Primary.all_fields, PrimaryFields.primary_fields, Whole.whole_primary}
use Rattle.link_bundle_blocks.specs.Reading.{stopped}
use Rattle.link_bundle_blocks.specs.{Blocks.Block, Bundle.{opening_at, with_blocks, if_alone, judged_bundle}}
use Rattle.link_bundle_blocks.proofs.Blocks.{none_before}
pub use Rattle.link_bundle_blocks.proofs.Seen.{AreBytes-append as all_grown, AreBytes-one as one_byte, AreBytes-slice as slice_bytes}
use Rattle.link_bundle.specs.Fits.{hold_fits, part_goes, scan_fits, stage_fits}
use Rattle.link_bundle.specs.Left.{bundle_of, primary_of, span_of, stage_last, stage_left, with_known_payload}
use Rattle.link_bundle.specs.Scan.{HasScannedBy, HasScanned, HasDraftedOrHeldPrimary, part_start}

-- ---- a scan whose stage is known

pub at_stage : (scan : BundleScan) {stage : ScanStage} {before : List Block} {seen : List ℕ}
    → scan.stage ≡ stage → HasScannedBy scan.stage scan.cursor scan.draft before seen
    → HasScannedBy stage scan.cursor scan.draft before seen
at_stage scan is come = rw is at come

pub fits_at : (scan : BundleScan) (stage : ScanStage) → scan.stage ≡ stage
    → IsTrue (scan_fits stage scan.cursor scan.draft)
fits_at scan stage is =
    subst (λ (stage : ScanStage). IsTrue (scan_fits stage scan.cursor scan.draft)) is scan.fits

-- the fields of the draft fit the stage
pub fits_stage : (stage : ScanStage) (cursor : Cursor) (draft : Draft)
    → IsTrue (scan_fits stage cursor draft) → IsTrue (stage_fits stage draft)
fits_stage stage cursor draft fits =
    (and_parts (part_goes stage draft.numbers cursor.hold) (stage_fits stage draft)
    (and_parts (hold_fits stage cursor) _ (and_parts _ _ fits).1).1).1

-- the bytes of the primary block are the first that were seen
pub all_held : {cursor : Cursor} {draft : Draft} {before : List Block} {seen : List ℕ}
    → HasScannedBy PrimaryBlock cursor draft before seen → cursor.hold ≡ seen
all_held come = rw come.stands.placed at come.stands.parts

-- ---- more bytes

-- the rest, after a run of more bytes
pub grown_reads : {stage : ScanStage} {cursor : Cursor} {draft : Draft} {before : List Block}
    {seen : List ℕ} → HasScannedBy stage cursor draft before seen → (run more : List ℕ)
    → judged_bundle ((seen ++ run) ++ more)
    ≡ with_blocks (before ++ stage_last stage draft (part_start cursor))
    (stage_left stage draft (part_start cursor) ((seen ++ run) ++ more))
grown_reads {seen = seen} come run more = rw (append_assoc seen run more) (come.reads (run ++ more))

-- the bytes of a part after those before it
pub append-hold : (front hold seen run more : List ℕ) → front ++ hold ≡ seen
    → (seen ++ run) ++ more ≡ front ++ (hold ++ (run ++ more))
append-hold front hold seen run more parts =
    rw (sym parts, append_assoc (front ++ hold) run more) (append_assoc front hold (run ++ more))

pub front_bytes : (count : ℕ) (piece : List ℕ) → ((k : ℕ) → get_or piece k 0 < 256)
    → AreBytes (take count piece)
front_bytes count piece each = All-take (λ (b : ℕ). b < 256) count piece (slice_bytes piece each)

-- a draft that has the primary block keeps it
pub primary_kept : (old new : Cursor) (draft : Draft) (seen run : List ℕ) → draft.whole ≡ true
    → HasDraftedOrHeldPrimary old draft seen → HasDraftedOrHeldPrimary new draft (seen ++ run)
primary_kept old new draft seen run whole keeps =
    let kept = rw whole at keeps in
    rw whole (λ more. rw (append_assoc seen run more) (kept (run ++ more)))

-- the fields of a primary block that is whole
pub fields_whole : (cursor : Cursor) (draft : Draft) (seen : List ℕ) → draft.whole ≡ true
    → HasDraftedOrHeldPrimary cursor draft seen → primary_fields seen ≡ all_fields (primary_of draft)
fields_whole cursor draft seen whole keeps =
    let kept = rw whole at keeps in
    ap primary_fields (sym (append-nil seen)) ∙ kept []

-- no byte was seen
pub nothing_seen : {cursor : Cursor} {draft : Draft}
    → cursor.count ≡ 0 → cursor.hold ≡ [] → IsTrue (stage_fits PrimaryBlock draft)
    → HasScannedBy PrimaryBlock cursor draft [] []
unfolding stage_left whole_primary opening_at
nothing_seen {draft = draft} count hold fits = record {
  all_bytes = All-nil (λ (b : ℕ). b < 256);
  count = count;
  reads = λ more. sym (none_before _);
  stands = record {
    front = [];
    covered = [];
    parts = hold;
    placed = refl;
    covers = tt;
    cut = rw hold refl;
  };
  primary =
      let blank = not-true draft.whole (and_parts _ _ (and_parts _ _ fits).1).0 in
      rw blank hold;
}

-- the same of a scan
pub is_new : (scan : BundleScan) → scan.stage ≡ PrimaryBlock → scan.cursor.count ≡ 0
    → scan.cursor.hold ≡ [] → IsTrue (stage_fits PrimaryBlock scan.draft) → HasScanned scan []
is_new scan start count hold fits =
    record { before = []; come = rw start (nothing_seen count hold fits) }

pub nothing_fits : (cursor : Cursor) (draft : Draft)
    → cursor.count ≡ 0 → cursor.hold ≡ [] → IsTrue (stage_fits PrimaryBlock draft)
    → IsTrue (scan_fits PrimaryBlock cursor draft)
unfolding whole_primary opening_at
nothing_fits cursor draft count hold fits = rw (hold, count, fits) refl

-- ---- a byte after the bundle

alone-trailing : (payload : Option (ℕ × ℕ)) (info : BundleInfo) (offset : ℕ) (bytes : List ℕ)
    → is_some payload ≡ true → offset < length bytes
    → if_alone bytes (record {
      info = info;
      length = offset;
      payload_span = span_of payload;
      blocks = [];
    })
    ≡ with_known_payload payload (Err (stopped Trailing offset))
alone-trailing None info offset bytes outcome short = cc
alone-trailing (Some payload) info offset bytes outcome short =
    let other : (offset == length bytes)
    ≡ false = ne_eqb offset (length bytes) (λ same. omega arith) in rw other refl

pub trailing : {old new : Cursor} {draft : Draft} {before : List Block} {seen : List ℕ} (byte : ℕ)
    → HasScannedBy Ended old draft before seen → byte < 256 → IsTrue (scan_fits Ended old draft)
    → new.count ≡ old.count + 1
    → HasScannedBy (Failed Trailing old.count) new draft before (seen ++ byte ∷ [])
unfolding stage_left
trailing {old = old} {new = new} {draft = draft} {before = before} {seen = seen} byte come small fits
    counts =
    let known : (is_some draft.payload_span ≡ true) × (draft.whole ≡ true) =
    and_parts _ _ (fits_stage Ended old draft fits) in record {
      all_bytes = all_grown seen (byte ∷ []) come.all_bytes (one_byte byte small);
      count = omega (arith, counts, come.count, length-append seen (byte ∷ []));
      reads = λ more.
          let bytes = (seen ++ byte ∷ []) ++ more in
          let start : part_start old ≡ old.count = omega (arith, ap length come.stands) in
          grown_reads come (byte ∷ []) more
          ∙ rw start (ap (with_blocks (before ++ []))
          (alone-trailing draft.payload_span (bundle_of draft old.count).info old.count bytes
          known.0
          (omega (
            arith,
            length-append (seen ++ byte ∷ []) more,
            length-append seen (byte ∷ []),
            come.count,
          ))));
      stands = tt;
      primary = primary_kept old new draft seen (byte ∷ []) known.1 come.primary;
    }
