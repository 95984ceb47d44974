-- A part that was read into the draft.

use Rattle.std.proofs.Common.{◌≡◌, ℕ, ◌+◌, ◌-◌, ◌<◌, true, List, [], ◌++◌, length, take, drop, None, Ok, refl, sym, ap, ◌∙◌, append_assoc, take-append-drop, append-nil, length-append, arith}
use Rattle.std.proofs.lemmas.{Bool.{and_parts, false≢true, le-leb}, List.{length-take, length-take-le, Elements.All-take}}
use Rattle.std.specs.Prelude.{IsTrue, is_some}
use Rattle.link_cbor.specs.Head.{AreBytes}
use Rattle.link_bundle_heads.specs.Rows.{closing}
use Rattle.link_bundle_blocks.specs.{Reading.{ReadAt, row_at}, Blocks.Block, Bundle.{with_blocks, rest_of}, Whole.moved}
use Rattle.link_bundle_blocks.proofs.PartsSteady.{IsBoundedPart, part-more, keeps, primary-part, heads-part, field-part, break-part}
use Rattle.link_bundle_blocks.proofs.{Blocks.none_before, Parts.closing-shifted}
use Rattle.link_bundle.specs.declared.{cursor.Cursor.Cursor, draft.Draft.Draft, scan.BundleScan.BundleScan, stage.ScanStage.ScanStage}
use Rattle.link_bundle.specs.declared.stage.ScanStage.TheVariants.{PrimaryBlock, BlockHeads, CheckField, Break}
use Rattle.link_bundle.specs.Fits.{has_block, is_kind, scan_fits}
use Rattle.link_bundle.specs.{Left.{current, stage_last, stage_left, with_block}, Stages.{is_part, stage_state, takes_bytes}}
use Rattle.link_bundle.specs.Scan.{HasScannedBy, PartLeadsTo, Advances, EndsBlockOnlyAtLastByte, part_start}
use Rattle.link_bundle.proofs.HeldPart.{length-front, kind_of, some_of, field_left}
use Rattle.link_bundle.proofs.Steps.{append-hold, all_held, fits_at, fits_stage, grown_reads, all_grown, primary_kept}
use Rattle.link_bundle.proofs.TakenPart.{TakesPart, fit, same_start, inside, front}
use Rattle.link_bundle.proofs.{Taking.ends_part, Wholes.{blank_at, open_at, has_new, heads_fit, primary_come, heads_come}}
use Rattle.link_bundle.proofs.BlockStages.{has_numbers, field_ended, entered, after_block-seen, after_block-fits, in_data-fits, goes_after, goes_in_data}

-- the bytes of the part alone are read so, whatever bytes follow them
reads_on : {A : Type 0} {limit : ℕ} {part : List ℕ → ReadAt A} → IsBoundedPart limit part
    → {bytes : List ℕ} {value : A} {size : ℕ} (hold run : List ℕ)
    → part bytes ≡ Ok (value, size) → take size bytes ≡ hold ++ run → (more : List ℕ)
    → part (hold ++ (run ++ more)) ≡ Ok (value, size)
reads_on {part = reading} part {bytes = bytes} {value = value} {size = size} hold run is front
    more =
    let within = (keeps part bytes [] value size is).1 in
    let own : reading (take size bytes) ≡ Ok (value, size) =
    grind (
      arith,
      within,
      take-append-drop size bytes,
      length-take size bytes,
      part-more part (take size bytes) (drop size bytes),
    ) in
    rw (sym (append_assoc hold run more), sym front)
    (keeps part (take size bytes) more value size own).0

-- the part that the bytes held begin with was taken into the draft
read_come : (stage : ScanStage) (old : BundleScan) (mid : Cursor) {new : Cursor} {after : Draft}
    {next : ScanStage} {before : List Block} {seen : List ℕ} (run : List ℕ) (size : ℕ)
    → HasScannedBy stage old.cursor old.draft before seen → old.stage ≡ stage → AreBytes run
    → PartLeadsTo stage old.draft mid size next after new.check → IsTrue (is_part stage)
    → take size mid.hold ≡ old.cursor.hold ++ run → part_start mid ≡ part_start old.cursor
    → mid.check ≡ old.cursor.check → size ≡ length old.cursor.hold + length run
    → new.hold ≡ [] → new.count ≡ part_start old.cursor + size
    → new.count ≡ old.cursor.count + length run
    → HasScannedBy next new after (before ++ stage_last stage old.draft (part_start old.cursor))
    (seen ++ run)
unfolding stage_left
read_come PrimaryBlock old mid {before = before} {seen = seen} run size come at are read part own
    start check sum none count total =
    let hold = old.cursor.hold in
    let known = blank_at old at in
    let all : length (seen ++ run) ≡ size =
    omega (arith, sum, length-append seen run, ap length (all_held come)) in
    rw (append-nil before, read.1)
    (primary_come run come are
    (rw (all, sym (all_held come)) (rw append-nil at (reads_on primary-part hold run read.0 own [])))
    (read.2 ∙ known.payload) (read.3 ∙ known.numbers) read.4 total none)
read_come BlockHeads old mid run size come at are
    (block, reads, zero, begins, end, is, next, checks) part own start check sum none count total =
    let known = open_at old at in
    let after = is ∙ ap (λ (at : ℕ). with_block old.draft (moved at block)) start in
    rw (next, after)
    (heads_come run block size come known.0 known.1 are
    (reads_on (heads-part old.draft.numbers) old.cursor.hold run reads own) end zero begins sum none
    count (rw own at checks))
read_come (CheckField kind) old mid {new = new} {before = before} {seen = seen} run size come at are
    read part own start check sum none count total =
    let in_field = come.stands in
    let hold = old.cursor.hold in
    let block = old.draft.block in
    let known = and_parts (is_kind block.check kind) (has_block old.draft)
    (fits_stage (CheckField kind) old.cursor old.draft (fits_at old (CheckField kind) at)) in
    let begins = length-front in_field.front come in_field.parts in
    rw (append-nil before, read.2, read.1)
    (after_block-seen (all_grown seen run come.all_bytes are)
    (omega (arith, total, come.count, length-append seen run)) none
    (primary_kept old.cursor new old.draft seen run (has_numbers old.draft known.1).0 come.primary)
    (λ more.
    let bytes = (seen ++ run) ++ more in
    let read : rest_of (current old.draft) bytes ≡ Ok (true, new.count) =
    rw (
      append-hold in_field.front hold seen run more in_field.parts,
      count,
      sym begins,
      field_left kind (current old.draft) in_field.front (hold ++ (run ++ more))
          (kind_of block.check kind known.0) in_field.placed.0 in_field.placed.1,
      rw in_field.placed.2 at (reads_on (field-part kind in_field.covered) hold run
          (read.0 in_field.covered (rw check in_field.covers)) own more),
    ) refl in
    rw (append-nil before) at (grown_reads come run more)
    ∙ ap (with_blocks before) (field_ended old.draft bytes new.count known.1 read)))
read_come Break old mid {new = new} {before = before} {seen = seen} run size come at are read part
    own start check sum none count total =
    let in_break = come.stands in
    let hold = old.cursor.hold in
    let known = and_parts (is_some old.draft.payload_span) (has_block old.draft)
    (fits_stage Break old.cursor old.draft (fits_at old Break at)) in
    let begins = length-front in_break.front come in_break.parts in
    rw (read.2, read.1)
    (entered (all_grown seen run come.all_bytes are)
    (omega (arith, total, come.count, length-append seen run)) none none
    (primary_kept old.cursor new old.draft seen run (has_numbers old.draft known.1).0 come.primary)
    (λ more.
    let closes : row_at closing ((seen ++ run) ++ more) (part_start old.cursor)
    ≡ Ok (true, new.count) =
    rw (
      append-hold in_break.front hold seen run more in_break.parts,
      count,
      sym begins,
      closing-shifted in_break.front (hold ++ (run ++ more)),
      reads_on break-part hold run read.0 own more,
    ) refl in
    grown_reads come run more
    ∙ ap (with_blocks (before ++ stage_last Break old.draft (part_start old.cursor)))
    (rw ((some_of old.draft.payload_span known.0).1, closes) (sym (none_before _)))))
read_come stage old mid run size come at are read part own start check sum none count total =
    absurd (false≢true part)

-- and the draft fits the next stage, which is no fault
pub read_fits : (stage : ScanStage) (old : BundleScan) (mid new : Cursor) (after : Draft)
    (next : ScanStage) (size : ℕ)
    → old.stage ≡ stage → PartLeadsTo stage old.draft mid size next after new.check
    → IsTrue (is_part stage) → new.hold ≡ []
    → IsTrue (scan_fits next new after) × (takes_bytes (stage_state next) ≡ true)
read_fits PrimaryBlock old mid new after next size at read part none = (
  rw (read.1) (heads_fit new after none (read.2 ∙ (blank_at old at).payload) read.4),
  rw (read.1) refl,
)
read_fits BlockHeads old mid new after next size at
    (block, reads, zero, begins, end, is, to, checks) part none = (
      rw to (in_data-fits block.data_length new after none
          (rw is (has_new old.draft (moved (part_start mid) block) (open_at old at).1))),
      rw to (goes_in_data block.data_length after.block.check after.payload_span),
    )
read_fits (CheckField kind) old mid new after next size at read part none =
    let known = and_parts (is_kind old.draft.block.check kind) (has_block old.draft)
    (fits_stage (CheckField kind) old.cursor old.draft (fits_at old (CheckField kind) at)) in (
      rw (read.2, read.1) (after_block-fits new old.draft none known.1),
      rw (read.2) (goes_after None old.draft.payload_span),
    )
read_fits Break old mid new after next size at read part none =
    let known = and_parts (is_some old.draft.payload_span) (has_block old.draft)
    (fits_stage Break old.cursor old.draft (fits_at old Break at)) in (
      rw (
        read.2,
        read.1,
        none,
        le-leb 0 new.count (omega arith),
        known.0,
        (and_parts old.draft.whole _ known.1).0,
      ) refl,
      rw (read.2) refl,
    )
read_fits stage old mid new after next size at read part none = absurd (false≢true part)

-- the scan took the bytes of the whole part
pub whole_part : {stage : ScanStage} (old after : BundleScan) {piece : List ℕ} {mid : Cursor}
    {size : ℕ}
    → TakesPart stage old piece mid size → AreBytes piece
    → PartLeadsTo stage old.draft mid size after.stage after.draft after.cursor.check
    → after.cursor.hold ≡ [] → after.cursor.count ≡ part_start mid + size
    → Advances old after piece (size - length old.cursor.hold)
    × EndsBlockOnlyAtLastByte old after piece (size - length old.cursor.hold)
whole_part {stage = stage} old after {piece = piece} {mid = mid} {size = size} is are read none
    count =
    let run = take (size - length old.cursor.hold) piece in
    let holds = is.holds in
    let sum : size ≡ length old.cursor.hold + length run =
    omega (arith, is.more, length-take-le (size - length old.cursor.hold) piece (inside is)) in
    let total : after.cursor.count ≡ old.cursor.count + length run =
    omega (arith, count, same_start holds, sum, (fit holds).count) in
    ends_part (holds.at) (omega (arith, is.more)) (inside is) none (omega (arith, total, sum))
    (read_fits stage old mid after.cursor after.draft after.stage size (holds.at) read holds.part
    none).1
    (λ before seen come.
    read_come stage old mid run size come (holds.at)
    (All-take (λ (byte : ℕ). byte < 256) _ piece are) read holds.part (front is) (same_start holds)
    holds.check sum none (count ∙ ap (λ (start : ℕ). start + size) (same_start holds)) total)
