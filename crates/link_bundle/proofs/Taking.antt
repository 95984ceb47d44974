-- A run that was taken, and the block that ended with it.

use Rattle.std.proofs.Common.{◌≡◌, ℕ, ◌+◌, ◌-◌, ◌<◌, ◌≤◌, ◌&&◌, Bool, true, false, List, [], ◌∷◌, ◌++◌, length, get_or, take, drop, Result, Ok, Err, refl, sym, ap, ◌∙◌, append-nil, length-drop, length-take, ⊎_elim, arith}
use Rattle.std.specs.Prelude.{◌==◌, if◌then◌else◌}
use Rattle.std.proofs.lemmas.{Bool.{cases_lt, cases_Bool, false≢true}, List.length-take-le}
use Rattle.link_bundle_types.specs.{declared.fault.BundleFault.BundleFault, declared.info.BundleInfo.BundleInfo, Faults.lasts}
use Rattle.link_bundle_blocks.proofs.Lengths.{FaultLasts-holds, ByteAfterBundleIsTrailing-holds}
use Rattle.link_bundle.specs.declared.{cursor.Cursor.Cursor, draft.Draft.Draft}
use Rattle.link_bundle.specs.declared.{scan.BundleScan.BundleScan, stage.ScanStage.ScanStage}
use Rattle.link_bundle.specs.declared.stage.ScanStage.TheVariants.{BlockHeads, Break}
use Rattle.link_bundle_blocks.specs.{Blocks.Block, Bundle.{blocks_in, bundle_goes, is_going, state_of, verdict}}
use Rattle.link_bundle.specs.{Left.stage_last, Stages.{follows_block, takes_bytes}}
use Rattle.link_bundle.specs.Scan.{HasScannedBy, HasScanned, TakesRun, MayTakeFromPiece, Advances, EndsBlockOnlyAtLastByte, ending_at, ending, may_scan, part_start, scan_size}
use Rattle.link_cbor.proofs.Joins.{joined_run}
use Rattle.link_bundle.proofs.{Steps.at_stage, Verdicts.{blocks_of-seen, state_of-seen}}

-- the block that ended before the part that a scan is in
abbrev pub last_of : BundleScan → List Block
last_of scan = stage_last scan.stage scan.draft (part_start scan.cursor)

-- exactly these bytes were seen, after these blocks and the last one
abbrev pub IsAfter : BundleScan → List Block → List ℕ → Type 0
IsAfter scan before seen = HasScannedBy scan.stage scan.cursor scan.draft before seen

takes : {old new : BundleScan} {run : List ℕ} (after : List Block → List Block)
    → scan_size new ≡ scan_size old + length run
    → ((before : List Block) → after before ++ last_of new ≡ (before ++ last_of old) ++ ending new)
    → ((before : List Block) (seen : List ℕ) → IsAfter old before seen
    → IsAfter new (after before) (seen ++ run))
    → TakesRun old new run
takes {old = old} {new = new} {run = run} after size grew goes =
    let now : (seen : List ℕ) → HasScanned old seen → HasScanned new (seen ++ run) =
    λ seen come. record { before = after come.before; come = goes come.before seen come.come } in
    record {
      size = size;
      seen = now;
      blocks = λ seen come.
          blocks_of-seen {scan = new} (now seen come) ∙ grew come.before
          ∙ ap (λ (blocks : List Block). blocks ++ ending new) (sym (blocks_of-seen come));
    }

-- a part that is entered, or a fault
pub takes_on : {old new : BundleScan} {run : List ℕ}
    → scan_size new ≡ scan_size old + length run → ending new ≡ last_of new
    → ((before : List Block) (seen : List ℕ) → IsAfter old before seen
    → IsAfter new (before ++ last_of old) (seen ++ run))
    → TakesRun old new run
takes_on {old = old} size ends goes =
    takes (λ before. before ++ last_of old) size
    (λ before. ap (λ (last : List Block). (before ++ last_of old) ++ last) (sym ends)) goes

-- more bytes of a part
pub takes_more : {old new : BundleScan} {run : List ℕ}
    → scan_size new ≡ scan_size old + length run → last_of new ≡ last_of old → ending new ≡ []
    → ((before : List Block) (seen : List ℕ) → IsAfter old before seen
    → IsAfter new before (seen ++ run))
    → TakesRun old new run
takes_more {old = old} size same none goes =
    takes (λ before. before) size
    (λ before. ap (λ (last : List Block). before ++ last) same
    ∙ sym (append-nil (before ++ last_of old))
    ∙ ap (λ (last : List Block). (before ++ last_of old) ++ last) (sym none)) goes

-- a block that ended before a part ends with the bytes seen, if no byte of the part is held
pub ends_here : (stage : ScanStage) (draft : Draft) (cursor : Cursor) → cursor.hold ≡ []
    → ending_at stage draft cursor ≡ stage_last stage draft (part_start cursor)
ends_here stage draft cursor nothing =
    let start : part_start cursor ≡ cursor.count = omega (arith, ap length nothing) in
    rw (start, nothing) refl

-- ---- one part after another

-- no block ends where the code finds none
no_ending_at : (stage : ScanStage) (draft : Draft) (count : ℕ) (here : Bool)
    → false ≡ (follows_block stage && here)
    → (if here then stage_last stage draft count else []) ≡ []
no_ending_at BlockHeads draft count true none = cc
no_ending_at Break draft count true none = cc
no_ending_at stage draft count true none = refl
no_ending_at stage draft count false none = refl

pub ends_nowhere : (stage : ScanStage) (draft : Draft) (cursor : Cursor)
    → follows_block stage ≡ false → ending_at stage draft cursor ≡ []
ends_nowhere stage draft cursor within =
    no_ending_at stage draft cursor.count (length cursor.hold == 0) (rw within refl)

pub no_ending : (scan : BundleScan)
    → false ≡ (follows_block scan.stage && (length scan.cursor.hold == 0))
    → ending scan ≡ []
no_ending scan none =
    no_ending_at scan.stage scan.draft scan.cursor.count (length scan.cursor.hold == 0) none

-- the promise of a run that was taken, from its parts
pub as_taken : {old new : BundleScan} {piece : List ℕ} {count : ℕ}
    → 0 < count → count ≤ length piece → scan_size new ≡ scan_size old + count
    → ((seen : List ℕ) → HasScanned old seen → HasScanned new (seen ++ take count piece))
    → ((seen : List ℕ) → HasScanned old seen
    → (fewer : ℕ) → fewer < count → bundle_goes (seen ++ take fewer piece) ≡ true)
    → Advances old new piece count
as_taken some within size seen goes =
    record { some = some; within = within; size = size; seen = seen; goes = goes }

-- more bytes are needed if those that follow show no fault
wanted_by : (bytes more : List ℕ) (now : Result BundleInfo (BundleFault × ℕ)) → verdict bytes ≡ now
    → 0 < length more → takes_bytes (state_of (verdict (bytes ++ more))) ≡ true
    → is_going (state_of now) ≡ true
wanted_by bytes [] now is some may = absurd (omega arith)
wanted_by bytes (byte ∷ more) (Ok info) is some may =
    absurd (false≢true (rw (ByteAfterBundleIsTrailing-holds bytes more byte info is) at may))
wanted_by bytes (byte ∷ more) (Err (fault, offset)) is some may = ⊎_elim
    (λ lasting. absurd (false≢true
    (rw (FaultLasts-holds bytes (byte ∷ more) fault offset lasting is, lasting) at may)))
    (λ cut. rw cut refl)
    (cases_Bool (lasts fault))

-- before each byte of a run after which the scan has not failed, more bytes were needed
pub bundle_goes-take : (new : BundleScan) (seen piece : List ℕ) (count : ℕ)
    → count ≤ length piece → may_scan new ≡ true → HasScanned new (seen ++ take count piece)
    → (fewer : ℕ) → fewer < count → bundle_goes (seen ++ take fewer piece) ≡ true
bundle_goes-take new seen piece count within may come fewer below =
    let all : (seen ++ take fewer piece) ++ take (count - fewer) (drop fewer piece)
    ≡ seen ++ take count piece =
    joined_run seen piece fewer (count - fewer)
    ∙ ap (λ (count : ℕ). seen ++ take count piece) (omega arith) in
    wanted_by (seen ++ take fewer piece) (take (count - fewer) (drop fewer piece)) _ refl
    (omega (arith, length-take (count - fewer) (drop fewer piece), length-drop fewer piece))
    (ap (λ (bytes : List ℕ). takes_bytes (state_of (verdict bytes))) all
    ∙ ap takes_bytes (sym (state_of-seen come)) ∙ may)

pub advances_by : {old new : BundleScan} {piece : List ℕ} {count : ℕ}
    → 0 < count → count ≤ length piece → may_scan new ≡ true
    → TakesRun old new (take count piece) → Advances old new piece count
advances_by {new = new} {piece = piece} {count = count} some within may taken = record {
  some = some;
  within = within;
  size = omega (arith, taken.size, length-take-le count piece within);
  seen = taken.seen;
  goes = λ seen come. bundle_goes-take new seen piece count within may (taken.seen seen come);
}

-- a part that ends with the bytes taken, after which the scan has not failed
pub ends_part : {old new : BundleScan} {stage : ScanStage} {piece : List ℕ} {count : ℕ}
    → old.stage ≡ stage → 0 < count → count ≤ length piece → new.cursor.hold ≡ []
    → scan_size new ≡ scan_size old + count → may_scan new ≡ true
    → ((before : List Block) (seen : List ℕ) → HasScannedBy stage old.cursor old.draft before seen
    → IsAfter new (before ++ stage_last stage old.draft (part_start old.cursor))
    (seen ++ take count piece))
    → Advances old new piece count × EndsBlockOnlyAtLastByte old new piece count
ends_part {old = old} {new = new} {piece = piece} {count = count} at some within none size may
    goes =
    let taken : TakesRun old new (take count piece) =
    takes_on (omega (arith, length-take-le count piece within))
    (ends_here new.stage new.draft new.cursor none)
    (λ before seen come. rw at (goes before seen (at_stage old at come))) in
    (advances_by some within may taken, taken.blocks)

pub one_taken : (old new : BundleScan) (piece : List ℕ) → MayTakeFromPiece old piece
    → TakesRun old new (get_or piece 0 0 ∷ []) → Advances old new piece 1
one_taken old new [] may taken = absurd (omega (arith, may.some))
one_taken old new (byte ∷ rest) may taken =
    as_taken (omega arith) (omega arith) taken.size taken.seen
    (λ seen come fewer below.
    let none : fewer ≡ 0 = omega arith in
    rw (none, append-nil) (may.goes seen come))

-- the first `count` bytes of a piece were taken, and more bytes were needed before each of them
pub record HasFed (old new : BundleScan) (piece : List ℕ) (count : ℕ) : Type 0 where
  pub within : count ≤ length piece
  pub size : scan_size new ≡ scan_size old + count
  pub seen : (seen : List ℕ) → HasScanned old seen → HasScanned new (seen ++ take count piece)
  pub goes : (seen : List ℕ) → HasScanned old seen
      → (fewer : ℕ) → fewer < count → bundle_goes (seen ++ take fewer piece) ≡ true

pub fed_on : (old mid new : BundleScan) (piece : List ℕ) (count more : ℕ)
    → HasFed old mid piece count → Advances mid new (drop count piece) more
    → HasFed old new piece (count + more)
fed_on old mid new piece count more first second = record {
  within = omega (arith, first.within, second.within, length-drop count piece);
  size = omega (arith, first.size, second.size);
  seen = λ seen come.
      rw (joined_run seen piece count more) at
      (second.seen (seen ++ take count piece) (first.seen seen come));
  goes = λ seen come fewer below. ⊎_elim
      (λ sooner. first.goes seen come fewer sooner)
      (λ later.
      let rest : fewer ≡ count + (fewer - count) = omega arith in
      ap (λ (size : ℕ). bundle_goes (seen ++ take size piece)) rest
      ∙ ap bundle_goes (sym (joined_run seen piece count (fewer - count)))
      ∙ second.goes (seen ++ take count piece) (first.seen seen come) (fewer - count)
      (omega (arith, later, below)))
      (cases_lt fewer count);
}

-- if no block ended with the first part
pub adds_on : (old mid new : BundleScan) (piece : List ℕ) (count more : ℕ)
    → HasFed old mid piece count → ending mid ≡ []
    → EndsBlockOnlyAtLastByte old mid piece count → EndsBlockOnlyAtLastByte mid new (drop count piece) more
    → EndsBlockOnlyAtLastByte old new piece (count + more)
adds_on old mid new piece count more fed none first second seen come =
    ap blocks_in (sym (joined_run seen piece count more))
    ∙ second (seen ++ take count piece) (fed.seen seen come)
    ∙ ap (λ (blocks : List Block). blocks ++ ending new)
    (first seen come ∙ ap (λ (last : List Block). blocks_in seen ++ last) none
    ∙ append-nil (blocks_in seen))
