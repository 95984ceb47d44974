-- The stages in a canonical block, and those after it.

use Rattle.std.proofs.Common.{◌≡◌, ℕ, ◌+◌, ◌-◌, ◌<◌, ◌≤◌, ◌&&◌, Bool, true, false, not, ltb, leb, List, [], ◌∷◌, ◌++◌, length, drop, Option, None, Some, Result, Ok, Err, refl, sym, ap, ◌∙◌, append-nil, length-append, arith}
use Rattle.std.specs.Prelude.{◌==◌, IsTrue, nat_lt, if◌then◌else◌}
use Rattle.std.proofs.lemmas.Bool.{and_parts, and_from, le-leb, lt-ltb, not-true, ltb-true, ltb-false}
use Rattle.std.proofs.lemmas.List.{drop-append-le, nil_from_length}
use Rattle.link_cbor.specs.{Head.{AreBytes, head_front}, declared.check.CheckKind.CheckKind}
use Rattle.link_cbor.specs.declared.check.CheckKind.TheVariants.{Crc16, Crc32}
use Rattle.link_bundle_heads.specs.Rows.{closing}
use Rattle.link_bundle_blocks.specs.declared.block.CanonicalBlock.{CanonicalBlock}
use Rattle.link_bundle_blocks.specs.Reading.{Stop, ReadAt, cut_short, row_at, head_at}
use Rattle.link_bundle_blocks.specs.{Canonical.{content_at, heads_at}, CheckField.field_at}
use Rattle.link_bundle_blocks.specs.Blocks.{Block, CanonicalOf, ended}
use Rattle.link_bundle_blocks.specs.Bundle.{Bundle, with_blocks, rest_of, judged_bundle}
use Rattle.link_bundle_blocks.specs.Parts.{next_block_at, field_from, any_field}
use Rattle.link_bundle_blocks.proofs.{Steady.of_either, Blocks.{none_before, both_before}, Readings.bytes_at-whole}
use Rattle.link_bundle.specs.declared.{cursor.Cursor.Cursor, draft.Draft.Draft, scan.BundleScan.BundleScan}
use Rattle.link_bundle.specs.declared.stage.ScanStage.{ScanStage}
use Rattle.link_bundle.specs.declared.stage.ScanStage.TheVariants.{BlockHeads, BlockData, CheckField, Break}
use Rattle.link_bundle.specs.Fits.{same_kind, has_block, stage_fits, hold_fits, part_goes, scan_fits}
use Rattle.link_bundle.specs.Left.{primary_of, with_known_payload, current, last_block, stage_last, block_end, read_alone, after_block, in_block, stage_left}
use Rattle.link_bundle.specs.Stages.{stage_after, stage_after_data, stage_in_data, stage_state, takes_bytes}
use Rattle.link_bundle.specs.Scan.{IfCheckCovers, ScanStageFits, IsInData, HasScannedBy, TakesRun, HasDraftedOrHeldPrimary, part_start}
use Rattle.link_bundle.proofs.Steps.{at_stage, fits_at, fits_stage, grown_reads, all_grown, primary_kept}
use Rattle.link_bundle.proofs.Taking.{takes_on, ends_here}

with_blocks-if : (test : Bool) (blocks : List Block) (bundle : Bundle) (stop : Stop)
    → (if test then Ok (record bundle { blocks = blocks ++ bundle.blocks })
    else Err (record stop { blocks = blocks ++ stop.blocks }))
    ≡ with_blocks blocks (if test then Ok bundle else Err stop)
with_blocks-if true blocks bundle stop = refl
with_blocks-if false blocks bundle stop = refl

-- the blocks before do not change how a reading ends
pub read_alone-blocks : (payload : Option (ℕ × ℕ)) (bytes : List ℕ) (blocks : List Block)
    (reading : Result Bundle Stop)
    → read_alone bytes (with_known_payload payload (with_blocks blocks reading))
    ≡ with_blocks blocks (read_alone bytes (with_known_payload payload reading))
read_alone-blocks None bytes blocks (Ok bundle) =
    with_blocks-if (bundle.length == length bytes) blocks bundle _
read_alone-blocks (Some payload) bytes blocks (Ok bundle) =
    with_blocks-if (bundle.length == length bytes) blocks bundle _
read_alone-blocks None bytes blocks (Err stop) = refl
read_alone-blocks (Some payload) bytes blocks (Err stop) = refl

-- the data of a block has begun
pub has_numbers : (draft : Draft) → IsTrue (has_block draft)
    → (draft.whole ≡ true) × ((length draft.numbers == 0) ≡ false)
has_numbers draft has =
    let parts = and_parts draft.whole (not (length draft.numbers == 0)) has in
    (parts.0, not-true (length draft.numbers == 0) parts.1)

-- the whole rest of a block, and what follows it
pub field_ended : {same : Bool} (draft : Draft) (bytes : List ℕ) (end : ℕ)
    → IsTrue (has_block draft) → rest_of (current draft) bytes ≡ Ok (same, end)
    → in_block draft bytes ≡ with_blocks (last_block draft end ∷ []) (after_block draft bytes end)
field_ended draft bytes end has is =
    rw (is, (has_numbers draft has).1)
    (read_alone-blocks draft.payload_span bytes (CanonicalOf (ended (current draft) end) ∷ [])
    (block_end draft.payload_span draft.numbers (primary_of draft) bytes end))

-- after the data of a block, its check field
pub content_at-whole : (size : ℕ) (check : Option CheckKind) (start : ℕ) (bytes : List ℕ)
    (offset : ℕ) → offset + size ≤ length bytes
    → content_at size check start bytes offset ≡ field_at check start bytes (offset + size)
unfolding content_at
content_at-whole size check start bytes offset within =
    rw (bytes_at-whole size bytes offset within) refl

-- a block without a check is whole at the end of its data
rest_alone : (draft : Draft) (at : ℕ) (bytes : List ℕ) → draft.block.check ≡ None
    → at ≡ draft.block.data_start + draft.block.data_length → at ≤ length bytes
    → rest_of (current draft) bytes ≡ Ok (true, at)
unfolding field_at
rest_alone draft at bytes none end within =
    let block = draft.block in
    rw (
      content_at-whole block.data_length block.check block.start bytes block.data_start
          (omega arith),
      none,
      sym end,
    ) refl

-- ---- the stage after a block

-- the rest after a block
pub left_after : (payload : Option (ℕ × ℕ)) (draft : Draft) (bytes : List ℕ) (at : ℕ)
    → with_blocks (last_block draft at ∷ []) (after_block draft bytes at)
    ≡ with_blocks (stage_last (stage_after payload) draft at)
    (stage_left (stage_after payload) draft at bytes)
unfolding stage_left
left_after None draft bytes at = refl
left_after (Some payload) draft bytes at = refl

-- no byte of a part is not all of it
pub no_heads : (numbers : List ℕ) → next_block_at numbers [] 0 ≡ cut_short []
unfolding next_block_at heads_at row_at head_at head_front
no_heads numbers =
    of_either (λ (reading : ReadAt CanonicalBlock). reading ≡ cut_short []) _ _ _ refl refl

no_break : row_at closing [] 0 ≡ cut_short []
unfolding row_at head_at head_front
no_break = refl

no_field : (kind : CheckKind) (before : List ℕ)
    → (field_from kind before [] ≡ cut_short []) × (any_field kind [] ≡ cut_short [])
unfolding field_from any_field row_at head_at head_front
no_field kind before = (refl, refl)

nothing_held : (payload : Option (ℕ × ℕ)) (draft : Draft) (cursor : Cursor) (seen : List ℕ)
    → cursor.hold ≡ []
    → ScanStageFits (stage_after payload) cursor draft seen
nothing_held None draft cursor seen none = record {
  front = seen;
  covered = [];
  parts = rw none (append-nil seen);
  placed = tt;
  covers = tt;
  cut = rw (none, no_heads draft.numbers) refl;
}
nothing_held (Some payload) draft cursor seen none = record {
  front = seen;
  covered = [];
  parts = rw none (append-nil seen);
  placed = tt;
  covers = tt;
  cut = rw (none, no_break) refl;
}

-- a stage fits if nothing is held
fits_with : (stage : ScanStage) (cursor : Cursor) (draft : Draft) → cursor.hold ≡ []
    → hold_fits stage cursor ≡ true → part_goes stage draft.numbers [] ≡ true
    → stage_fits stage draft ≡ true → IsTrue (scan_fits stage cursor draft)
fits_with stage cursor draft none room goes fits =
    and_from _ _ (rw none (le-leb 0 cursor.count (omega arith)))
    (and_from _ _ room (and_from _ _ (rw none goes) fits))

after_fits : (payload : Option (ℕ × ℕ)) (draft : Draft) (cursor : Cursor)
    → draft.payload_span ≡ payload → cursor.hold ≡ [] → IsTrue (has_block draft)
    → IsTrue (scan_fits (stage_after payload) cursor draft)
after_fits None draft cursor is none has =
    fits_with BlockHeads cursor draft none (rw none refl) (rw (no_heads draft.numbers) refl)
    (rw is (has_numbers draft has).0)
after_fits (Some payload) draft cursor is none has =
    fits_with Break cursor draft none (rw none refl) (rw no_break refl) (rw is has)

-- ---- the data of a block

entered_at : (some : Bool) (check : Option CheckKind) (payload : Option (ℕ × ℕ)) (draft : Draft)
    (left at : ℕ) (bytes : List ℕ) → nat_lt 0 left ≡ some → draft.block.check ≡ check
    → IsTrue (has_block draft) → at + left ≡ draft.block.data_start + draft.block.data_length
    → at ≤ length bytes
    → let s = if some then BlockData left else stage_after_data check payload in
    in_block draft bytes ≡ with_blocks (stage_last s draft at) (stage_left s draft at bytes)
unfolding stage_left
entered_at true check payload draft left at bytes some is has end within = sym (none_before _)
entered_at false (Some kind) payload draft left at bytes some is has end within =
    sym (none_before _)
entered_at false None payload draft left at bytes some is has end within =
    let none = ltb-false 0 left some in
    field_ended draft bytes at has (rest_alone draft at bytes is (omega arith) within)
    ∙ left_after payload draft bytes at

in_data_fits : (some : Bool) (check : Option CheckKind) (payload : Option (ℕ × ℕ)) (draft : Draft)
    (cursor : Cursor) (left : ℕ) → nat_lt 0 left ≡ some → draft.block.check ≡ check
    → draft.payload_span ≡ payload → cursor.hold ≡ [] → IsTrue (has_block draft)
    → IsTrue (scan_fits (if some then BlockData left else stage_after_data check payload)
    cursor draft)
in_data_fits true check payload draft cursor left some is pays none has =
    fits_with (BlockData left) cursor draft none (rw none refl) refl (rw some has)
in_data_fits false (Some kind) payload draft cursor left some is pays none has =
    fits_with (CheckField kind) cursor draft none (rw none refl) (rw ((no_field kind []).1) refl)
    (rw (is, kind_is kind) has)
  where
    kind_is : (kind : CheckKind) → same_kind kind kind ≡ true
    kind_is Crc16 = refl
    kind_is Crc32 = refl
in_data_fits false None payload draft cursor left some is pays none has =
    after_fits payload draft cursor pays none has

in_data_stands : (some : Bool) (check : Option CheckKind) (payload : Option (ℕ × ℕ))
    (draft : Draft) (cursor : Cursor) (seen : List ℕ) (left : ℕ) → nat_lt 0 left ≡ some
    → draft.block.check ≡ check → cursor.count ≡ length seen
    → IsInData left cursor draft.block seen
    → ScanStageFits (if some then BlockData left else stage_after_data check payload) cursor draft seen
in_data_stands true check payload draft cursor seen left some is count at = at
in_data_stands false (Some kind) payload draft cursor seen left some is count at =
    let none = ltb-false 0 left some in
    record {
      front = seen;
      covered = drop draft.block.start seen;
      parts = rw (at.nothing) (append-nil seen);
      placed = (omega (arith, at.end), omega (arith, at.begun), refl);
      covers = rw is at (at.checks);
      cut = rw (at.nothing, (no_field kind (drop draft.block.start seen)).0) refl;
    }
in_data_stands false None payload draft cursor seen left some is count at =
    nothing_held payload draft cursor seen at.nothing

-- ---- stages that are entered

-- a stage of whose part no byte was seen
pub entered : {stage : ScanStage} {cursor : Cursor} {draft : Draft} {before : List Block}
    {seen : List ℕ}
    → AreBytes seen → cursor.count ≡ length seen → cursor.hold ≡ []
    → ScanStageFits stage cursor draft seen → HasDraftedOrHeldPrimary cursor draft seen
    → ((more : List ℕ) → judged_bundle (seen ++ more)
    ≡ with_blocks before (with_blocks (stage_last stage draft cursor.count)
    (stage_left stage draft cursor.count (seen ++ more))))
    → HasScannedBy stage cursor draft before seen
entered {stage = stage} {cursor = cursor} {draft = draft} {before = before} {seen = seen} all count
    none stands primary reads = record {
      all_bytes = all;
      count = count;
      reads = λ more.
          let start : part_start cursor ≡ cursor.count = omega (arith, ap length none) in
          rw start (reads more ∙ both_before before (stage_last stage draft cursor.count) _);
      stands = stands;
      primary = primary;
    }

-- in the data of a block, which has `left` bytes left
pub in_data : {cursor : Cursor} {draft : Draft} {before : List Block} {seen : List ℕ} (left : ℕ)
    → AreBytes seen → cursor.count ≡ length seen → IsTrue (has_block draft)
    → IsInData left cursor draft.block seen → HasDraftedOrHeldPrimary cursor draft seen
    → ((more : List ℕ) → judged_bundle (seen ++ more)
    ≡ with_blocks before (in_block draft (seen ++ more)))
    → HasScannedBy (stage_in_data left draft.block.check draft.payload_span) cursor draft before seen
in_data {cursor = cursor} {draft = draft} {before = before} {seen = seen} left all count has at
    primary reads =
    let stage = stage_in_data left draft.block.check draft.payload_span in
    entered all count at.nothing
    (in_data_stands (nat_lt 0 left) draft.block.check draft.payload_span draft cursor seen left refl
    refl count at)
    primary
    (λ more. reads more ∙ ap (with_blocks before)
    (entered_at (nat_lt 0 left) draft.block.check draft.payload_span draft left cursor.count
    (seen ++ more) refl refl has at.end (omega (arith, length-append seen more))))

pub in_data-fits : (left : ℕ) (cursor : Cursor) (draft : Draft) → cursor.hold ≡ []
    → IsTrue (has_block draft)
    → IsTrue (scan_fits (stage_in_data left draft.block.check draft.payload_span) cursor draft)
in_data-fits left cursor draft none has =
    in_data_fits (nat_lt 0 left) draft.block.check draft.payload_span draft cursor left refl refl
    refl none has

-- after a whole block
pub after_block-seen : {cursor : Cursor} {draft : Draft} {before : List Block} {seen : List ℕ}
    → AreBytes seen → cursor.count ≡ length seen → cursor.hold ≡ [] → HasDraftedOrHeldPrimary cursor draft seen
    → ((more : List ℕ) → judged_bundle (seen ++ more)
    ≡ with_blocks before (with_blocks (last_block draft cursor.count ∷ [])
    (after_block draft (seen ++ more) cursor.count)))
    → HasScannedBy (stage_after draft.payload_span) cursor draft before seen
after_block-seen {cursor = cursor} {draft = draft} {before = before} {seen = seen} all count none
    primary reads =
    entered all count none (nothing_held draft.payload_span draft cursor seen none) primary
    (λ more. reads more ∙ ap (with_blocks before)
    (left_after draft.payload_span draft (seen ++ more) cursor.count))

pub after_block-fits : (cursor : Cursor) (draft : Draft) → cursor.hold ≡ []
    → IsTrue (has_block draft)
    → IsTrue (scan_fits (stage_after draft.payload_span) cursor draft)
after_block-fits cursor draft none has = after_fits draft.payload_span draft cursor refl none has

-- ---- in the data of a block

pub data_left : (left : ℕ) (check : Option CheckKind) (payload : Option (ℕ × ℕ)) → 0 < left
    → stage_in_data left check payload ≡ BlockData left
data_left left check payload some = rw (lt-ltb 0 left some) refl

-- the scan has not failed after the data
pub goes_after : (check : Option CheckKind) (payload : Option (ℕ × ℕ))
    → takes_bytes (stage_state (stage_after_data check payload)) ≡ true
goes_after (Some kind) payload = refl
goes_after None None = refl
goes_after None (Some payload) = refl

pub goes_in_data : (left : ℕ) (check : Option CheckKind) (payload : Option (ℕ × ℕ))
    → takes_bytes (stage_state (stage_in_data left check payload)) ≡ true
goes_in_data left check payload =
    of_either (λ (stage : ScanStage). takes_bytes (stage_state stage) ≡ true) (nat_lt 0 left) _ _ refl
    (goes_after check payload)

-- in the data of a block, no byte is held
pub data_fits : (left : ℕ) (cursor : Cursor) (draft : Draft)
    → IsTrue (scan_fits (BlockData left) cursor draft)
    → (cursor.hold ≡ []) × IsTrue (has_block draft)
data_fits left cursor draft fits =
    let room : (ltb (length cursor.hold) 1 ≡ true) × (stage_fits (BlockData left) draft ≡ true) =
    and_parts (ltb (length cursor.hold) 1) (true && stage_fits (BlockData left) draft)
    (and_parts (leb (length cursor.hold) cursor.count) _ fits).1 in
    let stage = fits_stage (BlockData left) cursor draft fits in
    let has : (ltb 0 left ≡ true) × (has_block draft ≡ true) =
    and_parts (ltb 0 left) (has_block draft) stage in
    (nil_from_length cursor.hold (omega (arith, ltb-true (length cursor.hold) 1 room.0)), has.1)

-- a run of the data
pub data_taken : {old new : BundleScan} {left : ℕ} (run : List ℕ)
    → old.stage ≡ BlockData left → AreBytes run → length run ≤ left
    → new.stage ≡ stage_in_data (left - length run) old.draft.block.check old.draft.payload_span
    → new.draft ≡ old.draft
    → ((covered : List ℕ) → IfCheckCovers old.draft.block.check old.cursor.check covered
    → IfCheckCovers old.draft.block.check new.cursor.check (covered ++ run))
    → new.cursor.count ≡ old.cursor.count + length run → new.cursor.hold ≡ old.cursor.hold
    → TakesRun old new run
unfolding stage_left
data_taken {old = old} {new = new} {left = left} run stage are within next draft checks count hold =
    let fits = data_fits left old.cursor old.draft (fits_at old (BlockData left) stage) in
    let start = old.draft.block.start in
    takes_on count (ends_here new.stage new.draft new.cursor (hold ∙ fits.0))
    (λ before seen now.
    let come = at_stage old stage now in
    let at = come.stands in
    rw (next, draft, stage, append-nil before)
    (in_data (left - length run) (all_grown seen run come.all_bytes are)
    (omega (arith, count, come.count, length-append seen run)) fits.1
    (record {
      nothing = hold ∙ at.nothing;
      end = omega (arith, at.end, count);
      begun = omega (arith, at.begun, count);
      checks = rw (drop-append-le start seen run (omega (arith, at.begun, come.count)))
          (checks (drop start seen) at.checks);
    })
    (primary_kept old.cursor new.cursor old.draft seen run (has_numbers old.draft fits.1).0
    come.primary)
    (λ more. rw (append-nil before) at (grown_reads come run more))))
