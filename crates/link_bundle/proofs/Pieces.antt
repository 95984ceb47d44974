-- The judging of a bundle in pieces, until no further byte can change the verdict.

use Rattle.std.proofs.Common.{◌≡◌, ℕ, ◌+◌, ◌<◌, inl, inr, Bool, true, false, List, [], ◌∷◌, ◌++◌, length, take, drop, get_or, Result, Ok, Err, refl, sym, ap, ◌∙◌, ⊎_elim, append-nil, append_assoc, arith}
use Rattle.std.specs.Prelude.{if◌then◌else◌}
use Rattle.std.proofs.lemmas.Bool.{cases_Bool, cases_lt, false≢true}
use Rattle.std.proofs.lemmas.List.{take-append-drop, drop_all, drop_more}
use Rattle.link_cbor.specs.{Pieces.{taken, IsShortestPrefix}, PieceLaws.{takes_shortest, taken-idle}}
use Rattle.link_bundle_types.specs.declared.fault.{BundleFault.BundleFault, State.State}
use Rattle.link_bundle_types.specs.declared.fault.State.TheVariants as state
use Rattle.link_bundle_types.specs.{declared.info.BundleInfo.BundleInfo, Faults.lasts}
use Rattle.link_bundle_blocks.specs.Bundle.{judged_bundle, verdict_by, verdict, payload_in, payload_seen, state_of, is_going, bundle_goes}
use Rattle.link_bundle_blocks.specs.Blocks.{Block}
use Rattle.link_bundle.specs.{Left.stage_left, Scan.{HasScannedBy, HasScanned, HasJudged, may_scan}}
use Rattle.link_bundle.specs.{Stages.{stage_state, takes_bytes}, declared.cursor.Cursor.Cursor}
use Rattle.link_bundle.specs.declared.{draft.Draft.Draft, scan.BundleScan.BundleScan}
use Rattle.link_bundle.specs.declared.stage.ScanStage.{ScanStage}
use Rattle.link_bundle.specs.declared.stage.ScanStage.TheVariants.{Failed}
use Rattle.link_bundle_blocks.proofs.{Lengths.ByteAfterBundleIsTrailing-holds, Payloads.PayloadStaysAfterBundleEnd-holds}
use Rattle.link_bundle.proofs.Verdicts.{state_of-seen}

-- ---- the state

-- a scan may take a step exactly if another byte can change its verdict
may_scan-seen : (scan : BundleScan) (seen : List ℕ) → HasScanned scan seen
    → may_scan scan ≡ takes_bytes (state_of (verdict seen))
may_scan-seen scan seen come = ap takes_bytes (state_of-seen come)

-- no more bytes are needed after these
stuck_stops : (scan : BundleScan) (seen : List ℕ) → HasScanned scan seen → may_scan scan ≡ false
    → bundle_goes seen ≡ false
stuck_stops scan seen come stuck =
    idle (state_of (verdict seen)) (sym (may_scan-seen scan seen come) ∙ stuck)
  where
    idle : (now : State) → takes_bytes now ≡ false → is_going now ≡ false
    idle state.Going stuck = absurd (false≢true (sym stuck))
    idle state.Ended stuck = refl
    idle (state.Failed fault offset) stuck = refl

-- a scan that has not failed, and needs no more bytes, has seen a whole bundle
ended_here : (now : State) → is_going now ≡ false → takes_bytes now ≡ true → now ≡ state.Ended
ended_here state.Going idle may = absurd (false≢true (sym idle))
ended_here state.Ended idle may = refl
ended_here (state.Failed fault offset) idle may = absurd (false≢true may)

-- after a byte that follows the bundle, no byte can change the verdict
trailing_stuck : (bytes : List ℕ) (byte : ℕ) (outcome : Result BundleInfo (BundleFault × ℕ))
    → verdict bytes ≡ outcome → state_of outcome ≡ state.Ended
    → takes_bytes (state_of (verdict (bytes ++ byte ∷ []))) ≡ false
trailing_stuck bytes byte (Ok info) is ended = rw (ByteAfterBundleIsTrailing-holds bytes [] byte info is) refl
trailing_stuck bytes byte (Err (fault, offset)) is ended = absurd (other (lasts fault) ended)
  where
    other : (test : Bool) → (if test then state.Failed fault offset else state.Going) ≡ state.Ended
        → ⊥
    other true ended = cc
    other false ended = cc

-- ---- one more piece

-- the content so far was judged, and one more piece was fed
module _ (scan later : BundleScan) (content piece : List ℕ) (count : ℕ)
    (before : HasJudged scan content)
    (fed : (seen : List ℕ) → HasScanned scan seen
    → HasScanned later (seen ++ taken bundle_goes seen piece))
    (size : (seen : List ℕ) → HasScanned scan seen
    → count ≡ length (taken bundle_goes seen piece)) where
  front : List ℕ
  front = taken bundle_goes before.seen piece

  fed_seen : HasScanned later (before.seen ++ front)
  unfolding front
  fed_seen = fed before.seen before.scanned

  shortest : IsShortestPrefix bundle_goes before.seen piece front
  unfolding front
  shortest = (takes_shortest bundle_goes before.seen piece front).1 refl

  -- nothing was taken if no byte can change the verdict
  stuck_front : may_scan scan ≡ false → front ≡ []
  unfolding front
  stuck_front stuck = taken-idle bundle_goes before.seen piece
      (stuck_stops scan before.seen before.scanned stuck)

  -- the scan had seen all of the content before the piece, if another byte can change the verdict
  all_before : may_scan later ≡ true → before.rest ≡ []
  all_before may = ⊎_elim (λ all. all)
      (λ stuck. absurd (false≢true (sym stuck ∙ may_scan-seen scan before.seen before.scanned
      ∙ sym (may_scan-seen later before.seen (rw (stuck_front stuck, append-nil) at fed_seen))
      ∙ may)))
      before.enough

  front_is : front ≡ take count piece
  unfolding front
  front_is = shortest.is_front ∙ ap (λ n. take n piece) (sym (size before.seen before.scanned))

  -- the bytes seen, and those that are left
  append-take_drop : (before.seen ++ front) ++ (before.rest ++ drop count piece) ≡ content ++ piece
  unfolding front
  append-take_drop = ⊎_elim
      (λ (all : before.rest ≡ []).
      rw (sym before.parts, all, append-nil, append_assoc, front_is, take-append-drop) refl)
      (λ stuck.
      let none : count ≡ 0 = size before.seen before.scanned ∙ ap length (stuck_front stuck) in
      rw (stuck_front stuck, append-nil, none, sym before.parts, append_assoc) refl)
      before.enough

  -- the piece was fed, and the scan is not at the bundle's end with bytes left over
  pub judged_fed : ((seen : List ℕ) → HasScanned later seen → count < length piece
      → state_of (verdict seen) ≡ state.Ended → ⊥)
      → HasJudged later (content ++ piece)
  unfolding front
  judged_fed other = record {
    seen = before.seen ++ front;
    rest = before.rest ++ drop count piece;
    parts = append-take_drop;
    scanned = fed_seen;
    enough = ⊎_elim
        (λ may. inl (rw (all_before may) (drop_all count piece (⊎_elim
        (λ short. absurd (other _ fed_seen short (ended_here _ (front_stops short)
        (sym (may_scan-seen later _ fed_seen) ∙ may))))
        (λ enough. enough)
        (cases_lt count (length piece))))))
        (λ stuck. inr stuck)
        (cases_Bool (may_scan later));
  }
    where
      front_stops : count < length piece → bundle_goes (before.seen ++ front) ≡ false
      front_stops short = ⊎_elim (λ stops. stops)
          (λ all. absurd (omega (arith, ap length all, size before.seen before.scanned)))
          shortest.stops

  -- the scan was at the bundle's end with bytes left over, and took the next byte
  pub judged_stepped : (last : BundleScan) (byte : ℕ) → count < length piece
      → byte ≡ get_or piece count 0
      → ((seen : List ℕ) → HasScanned later seen → state_of (verdict seen) ≡ state.Ended)
      → ((seen : List ℕ) → HasScanned later seen → HasScanned last (seen ++ byte ∷ []))
      → HasJudged last (content ++ piece)
  judged_stepped last byte short is ended step =
      let seen = before.seen ++ front in
      let now = ended seen fed_seen in
      let all = all_before (may_scan-seen later seen fed_seen ∙ ap takes_bytes now) in
      record {
        seen = seen ++ byte ∷ [];
        rest = drop (count + 1) piece;
        parts = append_assoc seen (byte ∷ []) (drop (count + 1) piece)
            ∙ rw (is, sym (drop_more piece count 0 short))
            (ap (λ (rest : List ℕ). seen ++ (rest ++ drop count piece)) (sym all) ∙ append-take_drop);
        scanned = step seen fed_seen;
        enough = inr (may_scan-seen last (seen ++ byte ∷ []) (step seen fed_seen)
            ∙ trailing_stuck seen byte (verdict seen) refl now);
      }

-- ---- what is judged

-- what it has seen determines the reading of all bytes
stuck_reading : (stage : ScanStage) (cursor : Cursor) (draft : Draft) (before : List Block)
    (seen more : List ℕ)
    → HasScannedBy stage cursor draft before seen → takes_bytes (stage_state stage) ≡ false
    → judged_bundle (seen ++ more) ≡ judged_bundle seen
unfolding stage_left
stuck_reading (Failed fault offset) cursor draft before seen more come stuck =
    come.reads more ∙ sym (come.reads []) ∙ ap judged_bundle (append-nil seen)
stuck_reading _ cursor draft before seen more come stuck = absurd (false≢true (sym stuck))

pub all_judged : (scan : BundleScan) (seen : List ℕ) → HasScanned scan seen → HasJudged scan seen
all_judged scan seen come = record {
  seen = seen;
  rest = [];
  parts = append-nil seen;
  scanned = come;
  enough = inl refl;
}

-- what is found in the bytes seen is found in all of the content
module _ (scan : BundleScan) (content : List ℕ) (now : HasJudged scan content) where
  all_seen : now.rest ≡ [] → now.seen ≡ content
  all_seen all = rw (all, append-nil) at now.parts

  reading_judged : judged_bundle now.seen ≡ judged_bundle content
  reading_judged = ⊎_elim
      (λ (all : now.rest ≡ []). ap judged_bundle (all_seen all))
      (λ stuck. sym (stuck_reading scan.stage scan.cursor scan.draft now.scanned.before now.seen now.rest
      now.scanned.come stuck)
      ∙ ap judged_bundle now.parts)
      now.enough

  pub verdict_judged : verdict now.seen ≡ verdict content
  unfolding verdict
  verdict_judged = ap verdict_by reading_judged

  pub payload_judged : payload_in now.seen ≡ payload_in content
  payload_judged = ⊎_elim
      (λ (all : now.rest ≡ []). ap payload_in (all_seen all))
      (λ stuck. sym (PayloadStaysAfterBundleEnd-holds now.seen now.rest
      (stuck_stops scan now.seen now.scanned stuck))
      ∙ ap payload_in now.parts)
      now.enough

  pub span_judged : payload_seen now.seen ≡ payload_seen content
  unfolding payload_seen
  span_judged = rw (reading_judged, payload_judged) refl
