-- The bytes of a piece that a scan takes into the part that it holds.

use Rattle.std.proofs.Common.{◌≡◌, ℕ, ◌+◌, ◌-◌, ◌^◌, ◌<◌, ◌≤◌, min, Bool, true, false, List, ◌++◌, length, take, Ok, Err, refl, sym, ap, subst, ◌∙◌, append_assoc, append-nil, length-append, arith, leb}
use Rattle.std.specs.Prelude.{IsTrue, ◌==◌}
use Rattle.std.specs.Bool.{MatchBool}
use Rattle.std.proofs.Math.Seq.{take-append-add, take-append_seam, take-length}
use Rattle.std.proofs.lemmas.Bool.{false≢true, ne_eqb, lt-ltb, le-leb, and_parts, leb-true}
use Rattle.std.proofs.lemmas.List.{length-take, length-take-le, take-take}
use Rattle.std.proofs.lemmas.List.Elements.{All-take}
use Rattle.link_cbor.specs.{Head.AreBytes}
use Rattle.link_bundle_types.specs.declared.fault.BundleFault.{BundleFault}
use Rattle.link_bundle_types.specs.declared.fault.BundleFault.TheVariants.{Cut}
use Rattle.link_bundle_types.specs.Faults.{lasts}
use Rattle.link_bundle_blocks.specs.{Blocks.{Primary, Block}, Reading.{stopped}}
use Rattle.link_bundle_blocks.specs.Bundle.{bundle_goes, judged_bundle, with_blocks}
use Rattle.link_bundle_blocks.specs.{Primary.all_fields, PrimaryFields.primary_fields}
use Rattle.link_bundle.specs.declared.{cursor.Cursor.Cursor, draft.Draft.Draft}
use Rattle.link_bundle.specs.declared.{scan.BundleScan.BundleScan, stage.ScanStage.ScanStage}
use Rattle.link_bundle.specs.declared.stage.ScanStage.TheVariants.{Failed}
use Rattle.link_bundle.specs.Fits.{hold_fits, part_goes, scan_fits, stage_fits}
use Rattle.link_bundle.specs.Left.{primary_of, stage_last, stage_left}
use Rattle.link_bundle.specs.Scan.{HasScannedBy, HasScanned, TakesRun, IsHoldingPart, ScanStageFits, Advances, EndsBlockOnlyAtLastByte, part_start}
use Rattle.link_bundle.specs.Stages.{limit, IfAtCheckFieldCovered, IsLeastNotCutShort, is_cut, is_part, any_reading, part_reading, stage_state, takes_bytes}
use Rattle.link_bundle.proofs.HeldPart.{has_part, at_part, part_stopped, goes_in_part}
use Rattle.link_bundle.proofs.StageParts.{any_part, stage_part, cut_front, same_front, same_more, ends_within, ends_after}
use Rattle.link_bundle.proofs.Steps.{at_stage, fits_at, all_grown, grown_reads}
use Rattle.link_bundle.proofs.Taking.{advances_by, ends_nowhere, takes_on, takes_more, as_taken}

-- ---- more bytes in the hold

kept : (whole : Bool) (primary : Primary) (old new seen run : List ℕ) → new ≡ old ++ run
    → MatchBool whole
    ((more : List ℕ) → primary_fields (seen ++ more) ≡ all_fields primary) (old ≡ seen)
    → MatchBool whole
    ((more : List ℕ) → primary_fields ((seen ++ run) ++ more) ≡ all_fields primary)
    (new ≡ seen ++ run)
kept true primary old new seen run is keeps = λ more. rw append_assoc (keeps (run ++ more))
kept false primary old new seen run is keeps = is ∙ ap (λ (bytes : List ℕ). bytes ++ run) keeps

-- a run of more bytes of the part
grown : {stage : ScanStage} {old new : Cursor} {draft : Draft} {before : List Block} {seen : List ℕ}
    (next : ScanStage) (after : List Block) (run : List ℕ)
    → HasScannedBy stage old draft before seen → AreBytes run
    → new.hold ≡ old.hold ++ run → new.count ≡ old.count + length run
    → ((more : List ℕ) → judged_bundle ((seen ++ run) ++ more)
    ≡ with_blocks (after ++ stage_last next draft (part_start new))
    (stage_left next draft (part_start new) ((seen ++ run) ++ more)))
    → ScanStageFits next new draft (seen ++ run)
    → HasScannedBy next new draft after (seen ++ run)
grown {old = old} {new = new} {draft = draft} {seen = seen} next after run come are hold count reads
    stands = record {
      all_bytes = all_grown seen run come.all_bytes are;
      count = omega (arith, count, come.count, length-append seen run);
      reads = reads;
      stands = stands;
      primary = kept draft.whole (primary_of draft) old.hold new.hold seen run hold come.primary;
    }

-- ---- a scan that fits its stage

-- what stands in the record of a fit
pub record Fit (stage : ScanStage) (cursor : Cursor) (draft : Draft) : Type 0 where
  pub count : length cursor.hold ≤ cursor.count
  pub goes : part_goes stage draft.numbers cursor.hold ≡ true
  pub fields : IsTrue (stage_fits stage draft)

pub fit_of : (stage : ScanStage) (cursor : Cursor) (draft : Draft)
    → IsTrue (scan_fits stage cursor draft) → Fit stage cursor draft
fit_of stage cursor draft fits =
    let all = and_parts (leb (length cursor.hold) cursor.count) _ fits in
    let rest = and_parts (part_goes stage draft.numbers cursor.hold) (stage_fits stage draft)
    (and_parts (hold_fits stage cursor) _ all.1).1 in
    record { count = leb-true _ _ all.0; goes = rest.0; fields = rest.1 }

-- a part that is cut has room in the hold
pub has_room : (stage : ScanStage) (numbers hold : List ℕ) → IsTrue (is_part stage)
    → part_goes stage numbers hold ≡ true
    → length hold < limit stage
has_room stage numbers hold part goes =
    ((any_part stage numbers part).cuts hold (rw part at goes)).1

room_fits : (stage : ScanStage) (cursor : Cursor) → length cursor.hold < limit stage
    → hold_fits stage cursor ≡ true
room_fits (Failed fault at) cursor room = refl
room_fits stage cursor room = lt-ltb (length cursor.hold) (limit stage) room

part_fits : (stage : ScanStage) (cursor : Cursor) (draft : Draft) → IsTrue (is_part stage)
    → length cursor.hold ≤ cursor.count
    → is_cut (any_reading stage draft.numbers cursor.hold) ≡ true
    → IsTrue (stage_fits stage draft)
    → IsTrue (scan_fits stage cursor draft)
part_fits stage cursor draft part within cut fits =
    let goes : part_goes stage draft.numbers cursor.hold ≡ true = rw (part, cut) refl in
    let room = room_fits stage cursor (has_room stage draft.numbers cursor.hold part goes) in
    rw (le-leb (length cursor.hold) cursor.count within, room, goes, fits) refl

-- ---- the bytes of a piece that come into the hold

-- the hold takes bytes of the piece, up to the limit of its part
pub record HoldsMore (stage : ScanStage) (old : BundleScan) (piece : List ℕ) (mid : Cursor)
    : Type 0 where
  pub at : old.stage ≡ stage
  pub part : IsTrue (is_part stage)
  pub hold : mid.hold ≡ old.cursor.hold ++ take (limit stage - length old.cursor.hold) piece
  pub size : mid.count
      ≡ old.cursor.count + min (limit stage - length old.cursor.hold) (length piece)
  pub check : mid.check ≡ old.cursor.check

module _ {stage : ScanStage} {old : BundleScan} {piece : List ℕ} {mid : Cursor}
    (is : HoldsMore stage old piece mid) where
  abbrev hold : List ℕ
  hold = old.cursor.hold

  pub fit : Fit stage old.cursor old.draft
  fit = fit_of stage old.cursor old.draft (fits_at old stage is.at)

  pub mid_size : length mid.hold ≡ length hold + min (limit stage - length hold) (length piece)
  mid_size =
      ap length is.hold ∙ length-append hold (take (limit stage - length hold) piece)
      ∙ ap (λ (more : ℕ). length hold + more) (length-take (limit stage - length hold) piece)

  pub same_start : part_start mid ≡ part_start old.cursor
  same_start = omega (arith, mid_size, is.size, (fit).count)

  pub grows : 0 < length piece → length hold < length mid.hold
  grows some =
      omega (arith, some, mid_size, has_room stage old.draft.numbers hold is.part (fit).goes)

-- The scan takes so many bytes of the piece that it holds `shown` bytes of the part.
pub record TakesPart (stage : ScanStage) (old : BundleScan) (piece : List ℕ) (mid : Cursor)
    (shown : ℕ) : Type 0 where
  pub holds : HoldsMore stage old piece mid
  pub more : length old.cursor.hold < shown
  pub within : shown ≤ length mid.hold

module _ {stage : ScanStage} {old : BundleScan} {piece : List ℕ} {mid : Cursor} {shown : ℕ}
    (is : TakesPart stage old piece mid shown) where
  abbrev taken : ℕ
  taken = shown - length old.cursor.hold

  pub inside : taken ≤ length piece
  inside = omega (arith, is.within, mid_size is.holds)

  front_of : (fewer : ℕ) → fewer ≤ taken
      → take (length old.cursor.hold + fewer) mid.hold ≡ old.cursor.hold ++ take fewer piece
  front_of fewer below =
      let hold = old.cursor.hold in
      let room = limit stage - length hold in
      ap (λ (bytes : List ℕ). take (length hold + fewer) bytes) is.holds.hold
      ∙ take-append-add hold (take room piece) fewer
      ∙ ap (λ (run : List ℕ). hold ++ run)
      (take-take fewer room piece (omega (arith, below, is.more, is.within, mid_size is.holds)))

  pub front : take shown mid.hold ≡ old.cursor.hold ++ take taken piece
  front =
      let all : shown ≡ length old.cursor.hold + taken = omega (arith, is.more) in
      ap (λ (size : ℕ). take size mid.hold) all ∙ front_of taken (omega arith)

-- ---- a part that the held bytes begin with

pub takes_whole : {stage : ScanStage} {old : BundleScan} {piece : List ℕ} {mid : Cursor} {size : ℕ}
    → HoldsMore stage old piece mid → any_reading stage old.draft.numbers mid.hold ≡ Ok size
    → TakesPart stage old piece mid size
takes_whole {stage = stage} {old = old} {mid = mid} {size = size} holds is =
    let part = any_part stage old.draft.numbers holds.part in
    record {
      holds = holds;
      more = ends_after part old.cursor.hold _ size (rw (holds.part) at (fit holds).goes)
          (rw (holds.hold) at is);
      within = ends_within part mid.hold size is;
    }

-- ---- a part that the held bytes do not begin with

goes_at : (stage : ScanStage) → IsTrue (is_part stage) → takes_bytes (stage_state stage) ≡ true
goes_at (Failed fault at) part = absurd (false≢true part)
goes_at stage part = refl

pub cut_fits : {stage : ScanStage} {old : BundleScan} {piece : List ℕ} {mid : Cursor}
    → HoldsMore stage old piece mid → is_cut (any_reading stage old.draft.numbers mid.hold) ≡ true
    → IsTrue (scan_fits stage mid old.draft)
cut_fits {stage = stage} {old = old} {mid = mid} holds cut =
    part_fits stage mid old.draft holds.part
    (omega (arith, mid_size holds, holds.size, (fit holds).count)) cut (fit holds).fields

-- the held bytes end inside the part
pub cut_part : {stage : ScanStage} (old after : BundleScan) {piece : List ℕ} (offset : ℕ)
    → HoldsMore stage old piece after.cursor → 0 < length piece → AreBytes piece
    → after.stage ≡ stage → after.draft ≡ old.draft
    → ((covered : List ℕ) → IfAtCheckFieldCovered stage after.cursor.check covered
    → part_reading stage old.draft.numbers covered after.cursor.hold ≡ Err (stopped Cut offset))
    → Advances old after piece (length after.cursor.hold - length old.cursor.hold)
    × EndsBlockOnlyAtLastByte old after piece (length after.cursor.hold - length old.cursor.hold)
cut_part {stage = stage} old after {piece = piece} offset holds some are at draft_is fails =
    let mid = after.cursor in
    let is : TakesPart stage old piece mid (length mid.hold) =
    record { holds = holds; more = grows holds some; within = omega arith } in
    let run = take (length mid.hold - length old.cursor.hold) piece in
    let hold : mid.hold ≡ old.cursor.hold ++ run = sym (take-length mid.hold) ∙ front is in
    let count : mid.count ≡ old.cursor.count + length run =
    omega (arith, ap length hold, length-append old.cursor.hold run, mid_size holds, holds.size) in
    let none : (length mid.hold == 0) ≡ false =
    ne_eqb (length mid.hold) 0 (λ none. omega (arith, is.more)) in
    let taken : TakesRun old after run =
    takes_more count (rw (at, draft_is, same_start holds, holds.at) refl) (rw none refl)
    (λ before seen come.
    let now = at_stage old holds.at come in
    let has = has_part now holds.part in
    let there = fails has.covered (rw (holds.check) has.covers) in
    rw (at, draft_is) (grown stage before run now (All-take (λ (b : ℕ). b < 256) _ piece are)
    hold count (λ more. rw (same_start holds) (grown_reads now run more))
    (at_part stage holds.part (record {
      front = has.front;
      covered = has.covered;
      parts = ap (λ (bytes : List ℕ). has.front ++ bytes) hold
          ∙ sym (append_assoc has.front old.cursor.hold run)
          ∙ ap (λ (bytes : List ℕ). bytes ++ run) has.parts;
      placed = has.placed;
      covers = rw (holds.check) has.covers;
      cut = ((stage_part stage old.draft.numbers has.covered holds.part).cuts mid.hold
          (rw there refl)).0;
    })))) in (
      advances_by (omega (arith, is.more)) (inside is) (rw at (goes_at stage holds.part)) taken,
      taken.blocks,
    )

pub lasts_but : (fault : BundleFault) → (fault ≡ Cut → ⊥) → lasts fault ≡ true
lasts_but Cut not = absurd (not refl)
lasts_but fault not = refl

-- the first `size` bytes that are held show a fault
module _ {stage : ScanStage} (old after : BundleScan) {piece : List ℕ} {mid : Cursor} {size : ℕ}
    (is : TakesPart stage old piece mid size) (draft_is : after.draft ≡ old.draft)
    (are : AreBytes piece)
    {fault : BundleFault} {offset : ℕ} (lasting : lasts fault ≡ true)
    (fails : (covered : List ℕ) → IfAtCheckFieldCovered stage mid.check covered
    → part_reading stage old.draft.numbers covered mid.hold ≡ Err (stopped fault offset))
    (first : (covered : List ℕ) → IfAtCheckFieldCovered stage mid.check covered
    → IsLeastNotCutShort (part_reading stage old.draft.numbers covered) (length old.cursor.hold) size
    mid.hold) where
  fault_shown : {seen : List ℕ} (has : IsHoldingPart stage old.cursor old.draft seen)
      → let reading = part_reading stage old.draft.numbers has.covered in
      (reading (take size mid.hold) ≡ Err (stopped fault offset))
      × (is_cut (reading (take (size - 1) mid.hold)) ≡ true)
  fault_shown has =
      let part = stage_part stage old.draft.numbers has.covered is.holds.part in
      let covers : IfAtCheckFieldCovered stage mid.check has.covered = rw (is.holds.check) has.covers in
      let there = fails has.covered covers in
      let begins : take (length old.cursor.hold) mid.hold ≡ old.cursor.hold =
      ap (λ (bytes : List ℕ). take (length old.cursor.hold) bytes) is.holds.hold
      ∙ take-append_seam old.cursor.hold _ in
      let shows = first has.covered covers (rw (begins, has.cut) refl) (rw (there, lasting) refl) in
      (sym (same_front part size mid.hold shows.0) ∙ there, shows.1)

  fault_goes : (seen : List ℕ) → HasScanned old seen → (fewer : ℕ)
      → fewer < size - length old.cursor.hold
      → bundle_goes (seen ++ take fewer piece) ≡ true
  fault_goes seen come fewer below =
      let now = at_stage old is.holds.at come.come in
      let has = has_part now is.holds.part in
      let reading = part_reading stage old.draft.numbers has.covered in
      let part = stage_part stage old.draft.numbers has.covered is.holds.part in
      let held = length old.cursor.hold + fewer in
      let same = take-take held (size - 1) mid.hold (omega (arith, below, is.more))
      ∙ front_of is fewer (omega (arith, below)) in
      goes_in_part (take fewer piece) now is.holds.part (fits_at old stage is.holds.at) has
      (subst (λ (bytes : List ℕ). is_cut (reading bytes) ≡ true) same
      (cut_front part held (take (size - 1) mid.hold) (fault_shown has).1))

  pub fault_part : after.stage ≡ Failed fault (min (part_start mid + offset) (2 ^ 64 - 1))
      → after.cursor.hold ≡ take size mid.hold → after.cursor.count ≡ part_start mid + size
      → old.cursor.count + length piece ≤ 2 ^ 63 - 1
      → Advances old after piece (size - length old.cursor.hold)
      × EndsBlockOnlyAtLastByte old after piece (size - length old.cursor.hold)
  unfolding stage_left
  fault_part at hold counts small =
      let holds = is.holds in
      let run = take (size - length old.cursor.hold) piece in
      let long : length run ≡ size - length old.cursor.hold = length-take-le _ piece (inside is) in
      let count : after.cursor.count ≡ old.cursor.count + length run =
      omega (arith, counts, is.more, same_start holds, long, (fit holds).count) in
      let taken : TakesRun old after run =
      takes_on count (rw at (ends_nowhere (Failed fault 0) after.draft after.cursor refl))
      (λ before seen come.
      let now = at_stage old holds.at come in
      let has = has_part now holds.part in
      let reading = part_reading stage old.draft.numbers has.covered in
      let part = stage_part stage old.draft.numbers has.covered holds.part in
      let there = (part.within mid.hold (stopped fault offset)
      (fails has.covered (rw (holds.check) has.covers))).1 in
      let near : min (part_start mid + offset) (2 ^ 64 - 1) ≡ part_start old.cursor + offset =
      omega (arith, there, mid_size holds, holds.size, small, (fit holds).count) in
      let all = before ++ stage_last stage old.draft (part_start old.cursor) in
      let shown = (fault_shown has).0 in
      rw (at, near, draft_is, holds.at)
      (grown (Failed fault (part_start old.cursor + offset)) all run now
      (All-take (λ (b : ℕ). b < 256) _ piece are) (hold ∙ front is) count
      (λ more.
      let stays : reading (old.cursor.hold ++ (run ++ more)) ≡ Err (stopped fault offset) =
      ap reading (sym (append_assoc old.cursor.hold run more))
      ∙ ap (λ (front : List ℕ). reading (front ++ more)) (sym (front is))
      ∙ same_more part (take size mid.hold) more (rw (shown, lasting) refl) ∙ shown in
      rw (append_assoc seen run more, append-nil all)
      (part_stopped (run ++ more) fault offset now holds.part (fits_at old stage holds.at) has stays
      ∙ rw lasting refl))
      tt)) in (
        as_taken (omega (arith, is.more)) (inside is) (rw (sym long) count) taken.seen fault_goes,
        taken.blocks,
      )
