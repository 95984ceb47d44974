-- The part that a scan holds, and what its reading says of the bundle.

use Rattle.std.proofs.Common.{◌≡◌, ℕ, ◌+◌, ◌≤◌, Bool, true, false, List, ◌++◌, length, drop, Option, None, Some, Ok, Err, refl, sym, ap, ◌∙◌, append_assoc, length-append, arith}
use Rattle.std.specs.Prelude.{IsTrue, is_none, is_some, if◌then◌else◌}
use Rattle.std.proofs.lemmas.{Bool.{and_parts, false≢true}, List.take_rest}
use Rattle.link_cbor.specs.declared.check.CheckKind.{CheckKind}
use Rattle.link_cbor.specs.declared.check.CheckKind.TheVariants.{Crc16, Crc32}
use Rattle.link_bundle_types.specs.declared.fault.BundleFault.{BundleFault}
use Rattle.link_bundle_types.specs.declared.fault.BundleFault.TheVariants.{Cut}
use Rattle.link_bundle_types.specs.Faults.{lasts}
use Rattle.link_bundle_heads.specs.Rows.{closing}
use Rattle.link_bundle_blocks.specs.Blocks.{Block}
use Rattle.link_bundle_blocks.specs.Bundle.{with_blocks, judged_bundle, verdict_by, verdict, state_of, is_going, bundle_goes}
use Rattle.link_bundle_blocks.specs.declared.block.CanonicalBlock.{CanonicalBlock}
use Rattle.link_bundle_blocks.specs.Canonical.{content_at}
use Rattle.link_bundle_blocks.specs.Parts.{next_block_at, field_from}
use Rattle.link_bundle_blocks.specs.Reading.{Stop, ReadAt, stopped, row_at}
use Rattle.link_bundle_blocks.specs.Whole.{whole_primary}
use Rattle.link_bundle_blocks.proofs.Blocks.{verdict_by-blocks}
use Rattle.link_bundle_blocks.proofs.Parts.{blocks-next, next-shifted, field-from, closing-shifted}
use Rattle.link_bundle_blocks.proofs.{Readings.{bundle_parts, bytes_at-whole}, Shifting.{shifted, same}}
use Rattle.link_bundle.specs.declared.{cursor.Cursor.Cursor, draft.Draft.Draft}
use Rattle.link_bundle.specs.declared.stage.ScanStage.{ScanStage}
use Rattle.link_bundle.specs.declared.stage.ScanStage.TheVariants.{PrimaryBlock, BlockHeads, BlockData, CheckField, Break, Ended, Failed}
use Rattle.link_bundle.specs.Fits.{is_kind, scan_fits, stage_fits}
use Rattle.link_bundle.specs.Left.{primary_of, stage_block, stage_last, stage_left, read_alone, with_known_payload}
use Rattle.link_bundle.specs.Scan.{HasScannedBy, IsHoldingPart, ScanStageFits, HasPartAfter, part_start}
use Rattle.link_bundle.specs.Stages.{end_of, is_cut, is_part, part_reading}
use Rattle.link_bundle.proofs.{StageParts.stage_part, Steps.fits_stage}

-- the part begins after the bytes before it
pub length-front : {stage : ScanStage} {cursor : Cursor} {draft : Draft} {before : List Block}
    {seen : List ℕ} (front : List ℕ)
    → HasScannedBy stage cursor draft before seen → front ++ cursor.hold ≡ seen
    → length front ≡ part_start cursor
length-front {cursor = cursor} front come parts =
    omega (arith, come.count, ap length parts, length-append front cursor.hold)

pub has_part : {stage : ScanStage} {cursor : Cursor} {draft : Draft} {before : List Block}
    {seen : List ℕ}
    → HasScannedBy stage cursor draft before seen → IsTrue (is_part stage)
    → IsHoldingPart stage cursor draft seen
has_part {stage = BlockData left} come part = absurd (false≢true part)
has_part {stage = Ended} come part = absurd (false≢true part)
has_part {stage = Failed fault offset} come part = absurd (false≢true part)
has_part come part = come.stands

pub at_part : (stage : ScanStage) {cursor : Cursor} {draft : Draft} {seen : List ℕ}
    → IsTrue (is_part stage) → IsHoldingPart stage cursor draft seen
    → ScanStageFits stage cursor draft seen
at_part (BlockData left) part has = absurd (false≢true part)
at_part Ended part has = absurd (false≢true part)
at_part (Failed fault offset) part has = absurd (false≢true part)
at_part stage part has = has

-- a stop in a part, which knows the block in whose check field the bytes end
abbrev pub stop_at : ScanStage → Draft → BundleFault → ℕ → Stop
stop_at stage draft fault offset = record (stopped fault offset) {
  cut_block = if lasts fault then None else stage_block stage draft;
}

-- a stop does not change, and neither does the payload that is known
pub read_alone-stopped : (payload : Option (ℕ × ℕ)) (bytes : List ℕ) (stop : Stop)
    → read_alone bytes (with_known_payload payload (Err stop))
    ≡ with_known_payload payload (Err stop)
read_alone-stopped None bytes stop = refl
read_alone-stopped (Some payload) bytes stop = refl

-- a part that stops
reading-stop : {A : Type 0} (reading : ReadAt A) (stop : Stop) → end_of reading ≡ Err stop
    → reading ≡ Err stop
reading-stop (Ok read) stop is = cc
reading-stop (Err other) stop is = ap Err (let same : other ≡ stop = cc in same)

none_chosen : (test : Bool) (other : Option CanonicalBlock)
    → (if test then other else other) ≡ other
none_chosen true other = refl
none_chosen false other = refl

pub none_of : (payload : Option (ℕ × ℕ)) → is_none payload ≡ true → payload ≡ None
none_of None none = refl
none_of (Some payload) none = absurd (false≢true none)

pub kind_of : (check : Option CheckKind) (kind : CheckKind) → is_kind check kind ≡ true
    → check ≡ Some kind
kind_of None kind is = absurd (false≢true is)
kind_of (Some Crc16) Crc16 is = refl
kind_of (Some Crc16) Crc32 is = absurd (false≢true is)
kind_of (Some Crc32) Crc16 is = absurd (false≢true is)
kind_of (Some Crc32) Crc32 is = refl

pub some_of : (payload : Option (ℕ × ℕ)) → is_some payload ≡ true
    → (known : ℕ × ℕ) × (payload ≡ Some known)
some_of None some = absurd (false≢true some)
some_of (Some known) some = (known, refl)

-- after the data of a block comes its check field
pub field_left : (kind : CheckKind) (block : CanonicalBlock) (front bytes : List ℕ)
    → block.check ≡ Some kind → length front ≡ block.data_start + block.data_length
    → block.start ≤ length front
    → content_at block.data_length block.check block.start (front ++ bytes) block.data_start
    ≡ shifted (length front) same (field_from kind (drop block.start front) bytes)
unfolding content_at
field_left kind block front bytes has end begun =
    rw (
      bytes_at-whole block.data_length (front ++ bytes) block.data_start
          (omega (arith, length-append front bytes)),
      sym end,
      has,
      field-from kind block.start front bytes begun,
      take_rest front block.start,
    ) refl

-- a part that is cut or has a fault is all that is left of a bundle
pub stage_stopped : (stage : ScanStage) (draft : Draft) (front covered bytes : List ℕ)
    (fault : BundleFault) (offset : ℕ)
    → IsTrue (is_part stage) → IsTrue (stage_fits stage draft)
    → HasPartAfter stage draft front covered
    → part_reading stage draft.numbers covered bytes ≡ Err (stopped fault offset)
    → stage_left stage draft (length front) (front ++ bytes)
    ≡ with_known_payload draft.payload_span
    (Err (stop_at stage draft fault (length front + offset)))
unfolding stage_left judged_bundle
stage_stopped PrimaryBlock draft front covered bytes fault offset part fits placed is =
    let none = none_of draft.payload_span (and_parts (is_none draft.payload_span) _ fits).0 in
    let same : 0 + offset ≡ offset = omega arith in
    rw (
      placed,
      none,
      none_chosen (lasts fault) None,
      same,
      bundle_parts bytes,
      reading-stop (whole_primary bytes) _ is,
    ) refl
stage_stopped BlockHeads draft front covered bytes fault offset part fits placed is =
    let none = none_of draft.payload_span (and_parts (is_none draft.payload_span) _ fits).0 in
    rw (
      none,
      none_chosen (lasts fault) None,
      blocks-next draft.numbers (primary_of draft) (front ++ bytes) (length front),
      next-shifted draft.numbers front bytes,
      reading-stop (next_block_at draft.numbers bytes 0) _ is,
    ) refl
stage_stopped (CheckField kind) draft front covered bytes fault offset part fits placed is =
    let check = draft.block.check in
    let has = kind_of check kind (and_parts (is_kind check kind) _ fits).0 in
    rw (
      field_left kind draft.block front bytes has placed.0 placed.1,
      reading-stop (field_from kind (drop draft.block.start front) bytes) _ (rw placed.2 at is),
    )
    (read_alone-stopped draft.payload_span (front ++ bytes) _)
stage_stopped Break draft front covered bytes fault offset part fits placed is =
    let known = some_of draft.payload_span (and_parts (is_some draft.payload_span) _ fits).0 in
    rw (
      known.1,
      none_chosen (lasts fault) None,
      closing-shifted front bytes,
      reading-stop (row_at closing bytes 0) _ is,
    ) refl
stage_stopped stage draft front covered bytes fault offset part fits placed is =
    absurd (false≢true part)

-- more bytes are needed if the bytes end inside a bundle
verdict_by-cut : (payload : Option (ℕ × ℕ)) (stop : Stop) → lasts stop.fault ≡ false
    → is_going (state_of (verdict_by (with_known_payload payload (Err stop)))) ≡ true
verdict_by-cut None stop cut = rw cut refl
verdict_by-cut (Some payload) stop cut = rw cut refl

pub goes-cut : (payload : Option (ℕ × ℕ)) (bytes : List ℕ) (before : List Block) (stop : Stop)
    → lasts stop.fault ≡ false
    → judged_bundle bytes ≡ with_blocks before (with_known_payload payload (Err stop))
    → bundle_goes bytes ≡ true
unfolding verdict
goes-cut payload bytes before stop cut is =
    rw (is, verdict_by-blocks before (with_known_payload payload (Err stop)))
    (verdict_by-cut payload stop cut)

-- the bytes seen and a run of more bytes, which make a part that stops
pub part_stopped : {stage : ScanStage} {cursor : Cursor} {draft : Draft} {before : List Block}
    {seen : List ℕ} (run : List ℕ) (fault : BundleFault) (offset : ℕ)
    → HasScannedBy stage cursor draft before seen → IsTrue (is_part stage)
    → IsTrue (scan_fits stage cursor draft) → (has : IsHoldingPart stage cursor draft seen)
    → part_reading stage draft.numbers has.covered (cursor.hold ++ run)
    ≡ Err (stopped fault offset)
    → judged_bundle (seen ++ run)
    ≡ with_blocks (before ++ stage_last stage draft (part_start cursor))
    (with_known_payload draft.payload_span
    (Err (stop_at stage draft fault (part_start cursor + offset))))
part_stopped {stage = stage} {cursor = cursor} {draft = draft} {before = before} {seen = seen} run
    fault offset come part fits has is =
    let start = length-front has.front come has.parts in
    let bytes : seen ++ run ≡ has.front ++ (cursor.hold ++ run) =
    ap (λ (seen : List ℕ). seen ++ run) (sym has.parts) ∙ append_assoc has.front cursor.hold run in
    come.reads run
    ∙ rw (bytes, sym start) (ap (with_blocks (before ++ stage_last stage draft (length has.front)))
    (stage_stopped stage draft has.front has.covered (cursor.hold ++ run) fault offset part
    (fits_stage stage cursor draft fits) has.placed is))

-- more bytes are needed while the part is cut
pub goes_in_part : {stage : ScanStage} {cursor : Cursor} {draft : Draft} {before : List Block}
    {seen : List ℕ} (run : List ℕ)
    → HasScannedBy stage cursor draft before seen → IsTrue (is_part stage)
    → IsTrue (scan_fits stage cursor draft) → (has : IsHoldingPart stage cursor draft seen)
    → is_cut (part_reading stage draft.numbers has.covered (cursor.hold ++ run)) ≡ true
    → bundle_goes (seen ++ run) ≡ true
goes_in_part {stage = stage} {cursor = cursor} {draft = draft} {before = before} {seen = seen} run
    come part fits has cut =
    let bytes = cursor.hold ++ run in
    let is = ((stage_part stage draft.numbers has.covered part).cuts bytes cut).0 in
    goes-cut draft.payload_span (seen ++ run)
    (before ++ stage_last stage draft (part_start cursor))
    (stop_at stage draft Cut (part_start cursor + length bytes)) refl
    (part_stopped run Cut (length bytes) come part fits has is)
