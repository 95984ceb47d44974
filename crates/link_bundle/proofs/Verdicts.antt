-- The verdict on the bytes that a scan has seen.

use Rattle.std.proofs.Common.{◌≡◌, ℕ, ◌+◌, ◌<◌, ◌≤◌, ◌-◌, ◌^◌, true, Bool, List, [], ◌∷◌, ◌++◌, length, Option, None, Some, Result, Ok, Err, refl, sym, ap, ◌∙◌, append-nil, length-append, arith}
use Rattle.std.specs.Prelude.{IsTrue, is_some, ◌==◌, if◌then◌else◌}
use Rattle.std.proofs.lemmas.Bool.{and_parts, eq-eqb, ltb-true}
use Rattle.link_bundle.specs.declared.{cursor.Cursor.Cursor, draft.Draft.Draft, scan.BundleScan.BundleScan}
use Rattle.link_bundle_types.specs.declared.fault.BundleFault.{BundleFault}
use Rattle.link_bundle_types.specs.declared.fault.BundleFault.TheVariants.{Cut}
use Rattle.link_bundle_types.specs.declared.fault.State.TheVariants as state
use Rattle.link_bundle_types.specs.declared.{fault.State.State, info.BundleInfo.BundleInfo}
use Rattle.link_bundle.specs.declared.stage.ScanStage.{ScanStage}
use Rattle.link_bundle.specs.declared.stage.ScanStage.TheVariants.{BlockData, CheckField, Ended, Failed}
use Rattle.link_bundle.specs.Fits.{scan_fits}
use Rattle.link_bundle_blocks.specs.Reading.{Stop, stopped}
use Rattle.link_bundle_blocks.specs.{declared.block.CanonicalBlock.CanonicalBlock, Blocks.Block}
use Rattle.link_bundle_blocks.specs.Bundle.{Bundle, with_blocks, judged_bundle, verdict_by, verdict, payload_of, state_of, is_going, blocks_of, blocks_in, cut_block_of, cut_block_in}
use Rattle.link_bundle.specs.Left.{bundle_of, current, span_of, with_known_payload, stage_block, stage_last, stage_left}
use Rattle.link_bundle_blocks.proofs.Blocks.{verdict_by-blocks, payload_of-blocks, blocks_of-blocks, cut_block_of-blocks}
use Rattle.link_bundle_blocks.proofs.Runs.{content_at-cut}
use Rattle.link_bundle.specs.Scan.{HasScannedBy, HasScanned, MayTakeFromPiece, ending, part_start, scan_size}
use Rattle.link_bundle.specs.Stages.{is_part, stage_state, takes_bytes}
use Rattle.link_bundle.proofs.{HeldPart.{has_part, part_stopped, read_alone-stopped}, Steps.fits_stage}

-- the reading of the bytes seen, if no more follow
read_now : {stage : ScanStage} {cursor : Cursor} {draft : Draft} {before : List Block} {seen : List ℕ}
    → HasScannedBy stage cursor draft before seen
    → judged_bundle seen
    ≡ with_blocks (before ++ stage_last stage draft (part_start cursor))
    (stage_left stage draft (part_start cursor) seen)
read_now come = rw append-nil at (come.reads [])

-- a stop before a block is whole, with what the draft has of the payload
abbrev stop_of : Draft → BundleFault → ℕ → Option CanonicalBlock → Stop
stop_of draft fault at cut =
    record (stopped fault at) { payload_span = draft.payload_span; cut_block = cut }

known_stop : (payload : Option (ℕ × ℕ)) (fault : BundleFault) (at : ℕ)
    (cut : Option CanonicalBlock)
    → with_known_payload payload (Err (record (stopped fault at) { cut_block = cut }))
    ≡ Err (record (stopped fault at) { payload_span = payload; cut_block = cut })
known_stop None fault at cut = refl
known_stop (Some payload) fault at cut = refl

-- the bytes end inside a part
cut_part : (stage : ScanStage) (cursor : Cursor) (draft : Draft) (before : List Block) (seen : List ℕ)
    → HasScannedBy stage cursor draft before seen
    → IsTrue (scan_fits stage cursor draft) → IsTrue (is_part stage)
    → judged_bundle seen
    ≡ with_blocks (before ++ stage_last stage draft (part_start cursor))
    (Err (stop_of draft Cut cursor.count (stage_block stage draft)))
cut_part stage cursor draft before seen come fits part =
    let has = has_part come part in
    let all : part_start cursor + length cursor.hold ≡ cursor.count =
    omega (arith, come.count, ap length has.parts, length-append has.front cursor.hold) in
    rw (append-nil, all, known_stop draft.payload_span Cut cursor.count (stage_block stage draft)) at
    (part_stopped [] Cut (length cursor.hold) come part fits has (rw append-nil has.cut))

-- the bytes end inside the data of a block
cut_data : (left : ℕ) (cursor : Cursor) (draft : Draft) (before : List Block) (seen : List ℕ)
    → HasScannedBy (BlockData left) cursor draft before seen
    → IsTrue (scan_fits (BlockData left) cursor draft)
    → stage_left (BlockData left) draft (part_start cursor) seen
    ≡ Err (stop_of draft Cut cursor.count (Some (current draft)))
unfolding stage_left
cut_data left cursor draft before seen come fits =
    let some : 0 < left =
    ltb-true 0 left (and_parts _ _ (fits_stage (BlockData left) cursor draft fits)).0 in
    rw (content_at-cut draft.block.data_length draft.block.check draft.block.start seen
    draft.block.data_start (omega (arith, come.count, come.stands.end)))
    (read_alone-stopped draft.payload_span seen
    (record (stopped Cut (length seen)) { cut_block = Some (current draft) })
    ∙ known_stop draft.payload_span Cut (length seen) (Some (current draft))
    ∙ ap (λ (count : ℕ). Err (stop_of draft Cut count (Some (current draft)))) (sym come.count))

-- the reading after the whole blocks
abbrev seen_reading : ScanStage → ℕ → Draft → Result Bundle Stop
seen_reading Ended count draft = Ok (bundle_of draft count)
seen_reading (Failed fault at) count draft = Err (stop_of draft fault at None)
seen_reading stage count draft = Err (stop_of draft Cut count (stage_block stage draft))

-- the bytes are a whole bundle
ended_now : (cursor : Cursor) (draft : Draft) (seen : List ℕ)
    → cursor.count ≡ length seen → cursor.hold ≡ []
    → stage_left Ended draft (part_start cursor) seen ≡ Ok (bundle_of draft cursor.count)
unfolding stage_left
ended_now cursor draft seen count nothing =
    let start : part_start cursor ≡ cursor.count = omega (arith, ap length nothing) in
    rw (start, eq-eqb cursor.count (length seen) count) refl

seen_is : (stage : ScanStage) (cursor : Cursor) (draft : Draft) (before : List Block) (seen : List ℕ)
    → HasScannedBy stage cursor draft before seen → IsTrue (scan_fits stage cursor draft)
    → judged_bundle seen
    ≡ with_blocks (before ++ stage_last stage draft (part_start cursor))
    (seen_reading stage cursor.count draft)
unfolding stage_left
seen_is Ended cursor draft before seen come fits =
    read_now come
    ∙ ap (with_blocks (before ++ [])) (ended_now cursor draft seen come.count come.stands)
seen_is (Failed fault at) cursor draft before seen come fits =
    read_now come ∙ ap (with_blocks (before ++ [])) (known_stop draft.payload_span fault at None)
seen_is (BlockData left) cursor draft before seen come fits =
    read_now come ∙ ap (with_blocks (before ++ [])) (cut_data left cursor draft before seen come fits)
seen_is stage cursor draft before seen come fits =
    cut_part stage cursor draft before seen come fits refl

-- ---- what follows from it

-- the verdict at a stage
abbrev pub stage_verdict : State → ℕ → Draft → Result BundleInfo (BundleFault × ℕ)
stage_verdict state.Going count draft = Err (Cut, count)
stage_verdict state.Ended count draft = Ok (bundle_of draft count).info
stage_verdict (state.Failed fault at) count draft = Err (fault, at)

-- the state that a caller sees
verdict_state : (stage : ScanStage) (cursor : Cursor) (draft : Draft)
    → IsTrue (scan_fits stage cursor draft)
    → stage_state stage ≡ state_of (stage_verdict (stage_state stage) cursor.count draft)
verdict_state (Failed fault at) cursor draft fits =
    rw (fits_stage (Failed fault at) cursor draft fits) refl
verdict_state _ cursor draft fits = refl

-- the offset and the length of the payload
span_back : (payload : Option (ℕ × ℕ)) → is_some payload ≡ true → Some (span_of payload) ≡ payload
span_back None known = cc
span_back (Some payload) known = refl

-- what is found in the reading after the whole blocks
record FindsRest (stage : ScanStage) (count : ℕ) (draft : Draft) : Type 0 where
  verdict_is : verdict_by (seen_reading stage count draft)
      ≡ stage_verdict (stage_state stage) count draft
  payload : payload_of (seen_reading stage count draft) ≡ draft.payload_span
  blocks : blocks_of (seen_reading stage count draft) ≡ []
  cut : cut_block_of (seen_reading stage count draft) ≡ stage_block stage draft

finds : (stage : ScanStage) (cursor : Cursor) (draft : Draft)
    → IsTrue (scan_fits stage cursor draft) → FindsRest stage cursor.count draft
finds Ended cursor draft fits = record {
  verdict_is = refl;
  payload = span_back draft.payload_span (and_parts _ _ (fits_stage Ended cursor draft fits)).0;
  blocks = refl;
  cut = refl;
}
finds _ cursor draft fits = record { verdict_is = refl; payload = refl; blocks = refl; cut = refl }

module _ {scan : BundleScan} {seen : List ℕ} (come : HasScanned scan seen) where
  abbrev all : List Block
  all = come.before ++ stage_last scan.stage scan.draft (part_start scan.cursor)

  abbrev reading : Result Bundle Stop
  reading = seen_reading scan.stage scan.cursor.count scan.draft

  found : FindsRest scan.stage scan.cursor.count scan.draft
  found = finds scan.stage scan.cursor scan.draft scan.fits

  scan_reads : judged_bundle seen ≡ with_blocks all reading
  scan_reads = seen_is scan.stage scan.cursor scan.draft come.before seen come.come scan.fits

  -- the verdict in a state that a caller sees
  pub verdict-seen : verdict seen
      ≡ stage_verdict (stage_state scan.stage) scan.cursor.count scan.draft
  unfolding verdict
  verdict-seen =
      ap verdict_by scan_reads ∙ verdict_by-blocks all reading ∙ found.verdict_is

  pub state_of-seen : stage_state scan.stage ≡ state_of (verdict seen)
  state_of-seen =
      verdict_state scan.stage scan.cursor scan.draft scan.fits ∙ ap state_of (sym verdict-seen)

  pub payload_of-seen : payload_of (judged_bundle seen) ≡ scan.draft.payload_span
  payload_of-seen =
      ap payload_of scan_reads ∙ payload_of-blocks all reading ∙ found.payload

  pub blocks_of-seen : blocks_in seen
      ≡ come.before ++ stage_last scan.stage scan.draft (part_start scan.cursor)
  unfolding blocks_in
  blocks_of-seen =
      ap blocks_of scan_reads ∙ blocks_of-blocks all reading
      ∙ ap (λ (blocks : List Block). all ++ blocks) found.blocks ∙ append-nil all

  pub cut_block_of-seen : cut_block_in seen ≡ stage_block scan.stage scan.draft
  unfolding cut_block_in
  cut_block_of-seen =
      ap cut_block_of scan_reads ∙ cut_block_of-blocks all reading ∙ found.cut

-- the number of bytes seen
pub scan_size-seen : (scan : BundleScan) (seen : List ℕ) → HasScanned scan seen
    → scan_size scan ≡ length seen
scan_size-seen scan seen come = come.come.count

pub still_going : (stage : ScanStage) → takes_bytes (stage_state stage) ≡ true → (stage ≡ Ended → ⊥)
    → is_going (stage_state stage) ≡ true
still_going Ended may other = absurd (other refl)
still_going (Failed fault at) may other = cc
still_going stage may other = refl

-- a scan that needs more bytes may take some
pub may_at : {scan : BundleScan} {piece : List ℕ} → is_going (stage_state scan.stage) ≡ true
    → 0 < length piece → scan_size scan + length piece ≤ 2 ^ 63 - 1 → MayTakeFromPiece scan piece
may_at going some room = record {
  goes = λ seen come. ap is_going (sym (state_of-seen come)) ∙ going;
  some = some;
  room = room;
}

-- a stage before which a block ends is in no block
in_no_block : (stage : ScanStage) (draft : Draft) (count : ℕ) (here : Bool) (block : Block)
    → (if here then stage_last stage draft count else []) ≡ block ∷ []
    → stage_block stage draft ≡ None
in_no_block (BlockData left) draft count here block ends = grind arith
in_no_block (CheckField kind) draft count here block ends = grind arith
in_no_block stage draft count here block ends = refl

-- where a block ends, the bytes end in no other
pub no_cut : (scan : BundleScan) (seen : List ℕ) (block : Block) → HasScanned scan seen
    → ending scan ≡ block ∷ [] → cut_block_in seen ≡ None
no_cut scan seen block come ends =
    cut_block_of-seen come
    ∙ in_no_block scan.stage scan.draft scan.cursor.count (length scan.cursor.hold == 0) block ends

pub ruleset of_seen = (state_of-seen, cut_block_of-seen)
