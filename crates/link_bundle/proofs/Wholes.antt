-- A scan that takes the bytes up to the end of a block or of its heads, or a whole bundle.

use Rattle.std.proofs.Common.{◌≡◌, ℕ, ◌+◌, ◌-◌, ◌<◌, Bool, true, false, leb, not, List, [], ◌∷◌, ◌++◌, length, take, drop, Option, None, Ok, Err, refl, sym, ap, subst, ◌∙◌, ⊎_elim, append-nil, append_assoc, take-append-drop, length-append, arith}
use Rattle.std.specs.{Prelude.{◌==◌, IsTrue, is_none, if◌then◌else◌}, Bool.then_some}
use Rattle.std.proofs.lemmas.Bool.{and_parts, eqb-true, ne_eqb, le-leb, lt-leb, not-true}
use Rattle.std.proofs.{lemmas.List.{nil_from_length, length-take-le, Elements.All-take}, Math.Seq.drop-append_seam}
use Rattle.link_cbor.specs.{Head.AreBytes, declared.check.CheckKind.CheckKind}
use Rattle.link_bundle_types.specs.declared.fault.BundleFault.TheVariants.{Cut}
use Rattle.link_bundle_heads.specs.Rows.{◌>>=◌}
use Rattle.link_bundle_blocks.specs.declared.block.CanonicalBlock.{CanonicalBlock}
use Rattle.link_bundle_blocks.specs.Reading.{stopped}
use Rattle.link_bundle_blocks.specs.Blocks.{Primary, Block, PrimaryOf, CanonicalOf, ended}
use Rattle.link_bundle_blocks.specs.Bundle.{Bundle, with_blocks, rest_of, payload_at, blocks_at, bundle_at, judged_bundle}
use Rattle.link_bundle_blocks.specs.{Parts.next_block_at, Whole.{whole_primary, whole_canonical, moved}}
use Rattle.link_bundle_blocks.proofs.{Beginnings.{BeginsWithPart, block_lasts, primary_lasts}, WholeFields.primary_fields-whole}
use Rattle.link_bundle_blocks.proofs.{Parts.{blocks-next, next-shifted}, PartsSteady.{part-more, primary-part}}
use Rattle.link_bundle_blocks.proofs.{Keeping.{IsBegun, heads_begin}, Readings.{bundle_parts, has_parts, primary_read, was_read}}
use Rattle.link_bundle_blocks.proofs.Shifting.{whole_canonical-shifted}
use Rattle.link_bundle.specs.declared.{cursor.Cursor.Cursor, draft.Draft.Draft, scan.BundleScan.BundleScan}
use Rattle.link_bundle.specs.declared.stage.ScanStage.TheVariants.{PrimaryBlock, BlockHeads, Ended}
use Rattle.link_bundle.specs.Fits.{has_block, scan_fits}
use Rattle.link_bundle.specs.Left.{HasPrimary, primary_of, bundle_of, with_block, stage_last, last_block, block_end, read_alone, with_known_payload, after_block, in_block, stage_left}
use Rattle.link_bundle.specs.Scan.{HasScannedBy, HasScanned, Advances, IfCheckCovers, HasDraftedOrHeldPrimary, part_start}
use Rattle.link_bundle.specs.Stages.{stage_after, stage_in_data}
use Rattle.link_bundle.proofs.Steps.{all_held, at_stage, fits_at, fits_stage, all_grown, grown_reads, primary_kept}
use Rattle.link_bundle.proofs.{HeldPart.none_of, Taking.bundle_goes-take, Steps.append-hold}
use Rattle.link_bundle.proofs.BlockStages.{no_heads, read_alone-blocks, field_ended, in_data, after_block-seen}

-- ---- the heads of the next block

-- no byte of the heads was seen
pub heads_fit : (cursor : Cursor) (draft : Draft) → cursor.hold ≡ [] → draft.payload_span ≡ None
    → draft.whole ≡ true
    → IsTrue (scan_fits BlockHeads cursor draft)
heads_fit cursor draft nothing none whole =
    rw (nothing, le-leb 0 cursor.count (omega arith), no_heads draft.numbers, none, whole) refl

-- the primary block is whole, and the payload block has not begun
pub open_at : (scan : BundleScan) → scan.stage ≡ BlockHeads
    → (scan.draft.payload_span ≡ None) × (scan.draft.whole ≡ true)
open_at scan at =
    let draft = scan.draft in
    let known = and_parts (is_none draft.payload_span) draft.whole
    (fits_stage BlockHeads scan.cursor draft (fits_at scan BlockHeads at)) in
    (none_of draft.payload_span known.0, known.1)

-- ---- the primary block

-- a draft without a payload and without block numbers
pub record IsBlank (draft : Draft) : Type 0 where
  pub payload : draft.payload_span ≡ None
  pub whole : draft.whole ≡ false
  pub numbers : draft.numbers ≡ []

pub blank_at : (scan : BundleScan) → scan.stage ≡ PrimaryBlock → IsBlank scan.draft
blank_at scan start =
    let draft = scan.draft in
    let parts = and_parts (is_none draft.payload_span) _
    (fits_stage PrimaryBlock scan.cursor draft (fits_at scan PrimaryBlock start)) in
    let more = and_parts (not draft.whole) (length draft.numbers == 0) parts.1 in
    record {
      payload = none_of draft.payload_span parts.0;
      whole = not-true draft.whole more.0;
      numbers = nil_from_length draft.numbers (eqb-true (length draft.numbers) 0 more.1);
    }

-- the rest of a bundle, which begins with its primary block
known_primary : (after : Draft) (bytes : List ℕ) (next : ℕ)
    → after.payload_span ≡ None → after.numbers ≡ []
    → whole_primary bytes ≡ Ok ((primary_of after, after.check), next)
    → judged_bundle bytes
    ≡ with_blocks (last_block after next ∷ []) (after_block after bytes next)
unfolding judged_bundle
known_primary after bytes next none blank whole =
    let primary = primary_of after in
    rw (primary_read bytes primary after.check next whole, none, blank)
    (read_alone-blocks None bytes (PrimaryOf primary after.check next ∷ [])
    (blocks_at 64 [] primary bytes next))

pub primary_come : {old new : Cursor} {draft after : Draft} {before : List Block} {seen : List ℕ}
    (run : List ℕ)
    → HasScannedBy PrimaryBlock old draft before seen → AreBytes run
    → whole_primary (seen ++ run) ≡ Ok ((primary_of after, after.check), length (seen ++ run))
    → after.payload_span ≡ None → after.numbers ≡ [] → after.whole ≡ true
    → new.count ≡ old.count + length run → new.hold ≡ []
    → HasScannedBy BlockHeads new after before (seen ++ run)
unfolding stage_left
primary_come {old = old} {new = new} {after = after} {before = before} {seen = seen} run come are whole
    none no_numbers now counts nothing =
    let bytes = seen ++ run in
    let size : new.count ≡ length bytes = omega (arith, counts, come.count, length-append seen run) in
    let keeps : HasDraftedOrHeldPrimary new after bytes =
    rw now (λ more. primary_fields-whole bytes more (primary_of after) after.check (length bytes) whole) in
    subst (λ (payload : Option (ℕ × ℕ)). HasScannedBy (stage_after payload) new after before bytes) none
    (after_block-seen (all_grown seen run come.all_bytes are) size nothing keeps
    (λ more.
    grown_reads come run more
    ∙ rw (append-nil before, size) (ap (with_blocks before)
    (known_primary after (bytes ++ more) (length bytes) none no_numbers
    (primary_lasts bytes more (primary_of after, after.check) (length bytes) whole)))))

-- ---- a canonical block

-- the data of the payload block, and of another block
data_read : (is_payload : Bool) (numbers : List ℕ) (primary : Primary) (block : CanonicalBlock)
    (bytes : List ℕ)
    → (if is_payload then payload_at primary (length numbers + 1) block bytes
    else (rest_of block bytes >>= λ x. with_blocks (CanonicalOf (ended block x.1) ∷ [])
    (blocks_at (63 - length numbers) (numbers ++ block.number ∷ []) primary bytes x.1)))
    ≡ with_known_payload (then_some is_payload (block.data_start, block.data_length))
    (rest_of block bytes >>= λ x. with_blocks (CanonicalOf (ended block x.1) ∷ [])
    (block_end (then_some is_payload (block.data_start, block.data_length))
    (numbers ++ block.number ∷ []) primary bytes x.1))
unfolding payload_at
data_read true numbers primary block bytes = rw (length-append numbers (block.number ∷ [])) refl
data_read false numbers primary block bytes =
    let left : 64 - length (numbers ++ block.number ∷ []) ≡ 63 - length numbers =
    omega (arith, length-append numbers (block.number ∷ [])) in
    rw left refl

-- the rest of a bundle, after the heads of its next block
pub heads_left : (draft : Draft) (bytes : List ℕ) (start : ℕ) (block : CanonicalBlock) (next : ℕ)
    → draft.payload_span ≡ None → block.end ≡ None
    → next_block_at draft.numbers bytes start ≡ Ok (block, next)
    → after_block draft bytes start ≡ in_block (with_block draft block) bytes
heads_left draft bytes start block next none end is =
    let open_is = is ∙ ap (λ (end : Option ℕ). Ok (record block { end = end }, next)) end in
    rw (none, blocks-next draft.numbers (primary_of draft) bytes start, open_is)
    (ap (read_alone bytes) (data_read (block.block_type == 1) draft.numbers (primary_of draft)
    (record block { end = None }) bytes))

-- the data of a block has begun after its heads
pub has_new : (draft : Draft) (block : CanonicalBlock) → draft.whole ≡ true
    → IsTrue (has_block (with_block draft block))
has_new draft block whole =
    let some : (length (draft.numbers ++ block.number ∷ []) == 0) ≡ false =
    ne_eqb _ 0 (λ none. omega (arith, length-append draft.numbers (block.number ∷ []))) in
    rw (whole, some) refl

-- the heads of the next block, which begin with the bytes held
pub heads_come : {old new : Cursor} {draft : Draft} {before : List Block} {seen : List ℕ}
    (run : List ℕ) (block : CanonicalBlock) (size : ℕ)
    → HasScannedBy BlockHeads old draft before seen → draft.payload_span ≡ None → draft.whole ≡ true
    → AreBytes run
    → ((more : List ℕ) → next_block_at draft.numbers (old.hold ++ (run ++ more)) 0 ≡ Ok (block, size))
    → block.end ≡ None → block.start ≡ 0 → block.data_start ≡ size
    → size ≡ length old.hold + length run → new.hold ≡ [] → new.count ≡ part_start old + size
    → IfCheckCovers block.check new.check (old.hold ++ run)
    → let after = with_block draft (moved (part_start old) block) in
    HasScannedBy (stage_in_data block.data_length after.block.check after.payload_span) new after
    (before ++ stage_last BlockHeads draft (part_start old)) (seen ++ run)
unfolding stage_left
heads_come {old = old} {new = new} {draft = draft} {before = before} {seen = seen} run block size come
    none whole are reads end zero begins long nothing counts checked =
    let front = come.stands.front in
    let parts = come.stands.parts in
    let start : part_start old ≡ length front =
    omega (arith, come.count, ap length parts, length-append front old.hold) in
    let after = with_block draft (moved (part_start old) block) in
    let bytes = seen ++ run in
    let count : new.count ≡ length bytes =
    omega (arith, counts, start, come.count, ap length parts, length-append front old.hold, length-append seen run) in
    let all : bytes ≡ front ++ (old.hold ++ run) =
    ap (λ (seen : List ℕ). seen ++ run) (sym parts) ∙ append_assoc front old.hold run in
    let rest : drop (part_start old + block.start) bytes ≡ old.hold ++ run =
    ap (λ (count : ℕ). drop count bytes) (omega (arith, zero, start))
    ∙ ap (λ (bytes : List ℕ). drop (length front) bytes) all
    ∙ drop-append_seam front (old.hold ++ run) in
    in_data block.data_length (all_grown seen run come.all_bytes are) count
    (has_new draft (moved (part_start old) block) whole)
    (record {
      nothing = nothing;
      end = omega (arith, counts, begins);
      begun = omega (arith, counts, zero);
      checks = subst (IfCheckCovers block.check new.check) (sym rest) checked;
    })
    (primary_kept old new draft seen run whole come.primary)
    (λ more.
    grown_reads come run more
    ∙ ap (with_blocks (before ++ stage_last BlockHeads draft (part_start old)))
    (heads_left draft (bytes ++ more) (part_start old) (moved (part_start old) block)
    (part_start old + size) none end
    (rw (
      start,
      append-hold front old.hold seen run more parts,
      next-shifted draft.numbers front (old.hold ++ (run ++ more)),
      reads more,
    ) refl)))

-- ---- a whole canonical block

-- the block where it lies in the bundle
lies_there : (numbers seen run more : List ℕ) (block : CanonicalBlock) (size start : ℕ)
    → start ≡ length seen → whole_canonical numbers (run ++ more) 0 ≡ Ok (block, size)
    → whole_canonical numbers ((seen ++ run) ++ more) start ≡ Ok (moved start block, start + size)
lies_there numbers seen run more block size start here is =
    let from : length seen ≡ length seen + 0 = omega arith in
    rw (here, append_assoc seen run more) (ap (λ (at : ℕ). whole_canonical numbers (seen ++ (run ++ more)) at) from
    ∙ rw (whole_canonical-shifted numbers seen (run ++ more) 0, is) refl)

-- the rest of a bundle, which begins with a canonical block
known_block : (draft : Draft) (bytes : List ℕ) (start : ℕ) (block : CanonicalBlock) (next : ℕ)
    → draft.payload_span ≡ None → draft.whole ≡ true → length draft.numbers < 64
    → whole_canonical draft.numbers bytes start ≡ Ok (block, next)
    → let after = with_block draft block in
    after_block draft bytes start
    ≡ with_blocks (last_block after next ∷ []) (after_block after bytes next)
unfolding next_block_at
known_block draft bytes start block next none whole room is =
    let parts = has_parts draft.numbers bytes start (block, next) is in
    let few : leb 64 (length draft.numbers) ≡ false = lt-leb 64 (length draft.numbers) room in
    let heads : next_block_at draft.numbers bytes start ≡ Ok (block, parts.offset) =
    rw few parts.heads in
    heads_left draft bytes start block parts.offset none
    (was_read (IsBegun start) _ (block, parts.offset) (heads_begin draft.numbers bytes start)
    parts.heads).end heads
    ∙ field_ended {same = parts.same} (with_block draft block) bytes next (has_new draft block whole)
    (rw parts.content refl)

pub canonical_come : {old new : Cursor} {draft : Draft} {before : List Block} {seen : List ℕ}
    (run : List ℕ) (block : CanonicalBlock)
    → HasScannedBy BlockHeads old draft before seen → draft.payload_span ≡ None → draft.whole ≡ true
    → old.hold ≡ [] → length draft.numbers < 64 → AreBytes run
    → whole_canonical draft.numbers run 0 ≡ Ok (block, length run)
    → new.count ≡ old.count + length run → new.hold ≡ []
    → let after = with_block draft (moved old.count block) in
    HasScannedBy (stage_after after.payload_span) new after
    (before ++ stage_last BlockHeads draft (part_start old)) (seen ++ run)
unfolding stage_left
canonical_come {old = old} {new = new} {draft = draft} {before = before} {seen = seen} run block come
    none whole held room are is counts nothing =
    let start : part_start old ≡ old.count = omega (arith, ap length held) in
    let all = before ++ stage_last BlockHeads draft (part_start old) in
    after_block-seen (all_grown seen run come.all_bytes are)
    (omega (arith, counts, come.count, length-append seen run)) nothing
    (primary_kept old new draft seen run whole come.primary)
    (λ more.
    let bytes = (seen ++ run) ++ more in
    grown_reads come run more
    ∙ ap (with_blocks all) (rw (start, counts)
    (known_block draft bytes old.count (moved old.count block) (old.count + length run) none whole room
    (lies_there draft.numbers seen run more block (length run) old.count come.count
    (block_lasts draft.numbers run more block (length run) is)))))

-- ---- a new draft

-- a scan that is in the primary block may have a new draft
module _ {old mid : BundleScan} (start : old.stage ≡ PrimaryBlock)
    (also : mid.stage ≡ PrimaryBlock) (cursor : mid.cursor ≡ old.cursor) where
  pub anew : {seen : List ℕ} → HasScanned old seen → HasScanned mid seen
  unfolding stage_left
  anew come =
      let now = at_stage old start come.come in
      record {
        before = come.before;
        come = rw (also, cursor) (record {
          all_bytes = now.all_bytes;
          count = now.count;
          reads = now.reads;
          stands =
              let at = now.stands in
              record {
                front = at.front;
                covered = at.covered;
                parts = at.parts;
                placed = at.placed;
                covers = tt;
                cut = at.cut;
              };
          primary = rw (blank_at mid also).whole (rw (blank_at old start).whole at now.primary);
        });
      }

  pub advances_anew : {new : BundleScan} {piece : List ℕ} {count : ℕ}
      → Advances mid new piece count → Advances old new piece count
  advances_anew {count = count} advances = record {
    some = advances.some;
    within = advances.within;
    size = advances.size ∙ ap (λ (cursor : Cursor). cursor.count + count) cursor;
    seen = λ seen come. advances.seen seen (anew come);
    goes = λ seen come. advances.goes seen (anew come);
  }

-- ---- a whole bundle

-- the bytes of a bundle have all of its primary block
primary_in : (run rest : List ℕ) (bundle : Bundle) (read : (Primary × Option CheckKind) × ℕ)
    → bundle_at run ≡ Ok bundle → whole_primary (run ++ rest) ≡ Ok read
    → whole_primary run ≡ Ok read
primary_in run rest bundle read whole primary = ⊎_elim
    (λ cut.
    let stops : bundle_at run ≡ Err (stopped Cut (length run)) = bundle_parts run ∙ rw cut.0 refl in
    cc)
    (λ same. sym same.0 ∙ primary)
    (part-more primary-part run rest)

pub whole_taken : {old new : BundleScan} {blocks : List Block} {piece : List ℕ} {size : ℕ}
    → old.stage ≡ PrimaryBlock → old.cursor.hold ≡ [] → AreBytes piece
    → BeginsWithPart (λ bundle. bundle.length) bundle_at
    (record (bundle_of new.draft size) { blocks = blocks }) piece
    → HasPrimary new.draft piece → new.draft.whole ≡ true → new.stage ≡ Ended
    → new.cursor.count ≡ old.cursor.count + size → new.cursor.hold ≡ []
    → Advances old new piece size
unfolding judged_bundle stage_left
whole_taken {old = old} {new = new} {blocks = blocks} {piece = piece} {size = size} start held all
    begins has whole ended counts nothing =
    let run = take size piece in
    let bundle : Bundle = record (bundle_of new.draft size) { blocks = blocks } in
    let own : bundle_at run ≡ Ok bundle = ap bundle_at (sym (append-nil run)) ∙ begins.reads [] in
    let fields = primary_of new.draft in
    let primary = primary_in run (drop size piece) bundle ((fields, has.0.0), has.0.1) own
    (ap whole_primary (take-append-drop size piece) ∙ has.1) in
    let seen : (seen : List ℕ) → HasScanned old seen → HasScanned new (seen ++ run) =
    λ seen come.
    let first = at_stage old start come.come in
    let none : seen ≡ [] = sym (all_held first) ∙ held in
    let end : part_start new.cursor ≡ size =
    omega (arith, ap length nothing, counts, first.count, ap length none) in
    record {
      before = blocks;
      come = rw (none, ended) (record {
        all_bytes = All-take (λ (byte : ℕ). byte < 256) size piece all;
        count = omega (arith, first.count, ap length none, length-take-le size piece begins.within);
        reads = λ more.
            rw (begins.reads more, end, append-nil blocks)
            (rw append-nil at
            (read_alone-blocks None (run ++ more) blocks (Ok (bundle_of new.draft size))));
        stands = nothing;
        primary = rw whole (λ more. primary_fields-whole run more fields has.0.0 has.0.1 primary);
      });
    } in
    record {
      some = begins.some;
      within = begins.within;
      size = counts;
      seen = seen;
      goes = λ before come.
          bundle_goes-take new before piece size begins.within (rw ended refl) (seen before come);
    }
