-- A piece that is taken in runs.

use Rattle.std.proofs.Common.{◌≡◌, ℕ, ◌+◌, ◌≤◌, ◌⊎◌, inl, inr, true, false, List, ◌++◌, length, take, refl, sym, ap, ◌∙◌, ⊎_elim, arith}
use Rattle.std.proofs.{lemmas.List.{length-take-le, take-take, take_all}, Math.Seq.take-length}
use Rattle.link_cbor.specs.{Pieces.taken, PieceLaws.takes_shortest}
use Rattle.link_bundle_blocks.specs.Bundle.{bundle_goes}
use Rattle.link_bundle.specs.declared.scan.BundleScan.{BundleScan}
use Rattle.link_bundle.specs.Scan.{HasScanned, TakesRun, may_scan, scan_size}
use Rattle.link_bundle.proofs.Taking.{HasFed, bundle_goes-take}

-- the bytes taken are all that were needed
pub record HasFedAll (old new : BundleScan) (piece : List ℕ) (result : ℕ) : Type 0 where
  pub within : result ≤ length piece
  pub size : scan_size new ≡ scan_size old + result
  pub seen : (seen : List ℕ) → HasScanned old seen
      → HasScanned new (seen ++ taken bundle_goes seen piece)
  pub count : (seen : List ℕ) → HasScanned old seen
      → result ≡ length (taken bundle_goes seen piece)

pub fed_all : {old new : BundleScan} {piece : List ℕ} {count : ℕ} → HasFed old new piece count
    → ((seen : List ℕ) → HasScanned old seen
    → (bundle_goes (seen ++ take count piece) ≡ false) ⊎ (length piece ≤ count))
    → HasFedAll old new piece count
fed_all {old = old} {piece = piece} {count = count} fed stops =
    let size = length-take-le count piece fed.within in
    let all : (seen : List ℕ) → HasScanned old seen
    → take count piece ≡ taken bundle_goes seen piece =
    λ seen come. (takes_shortest bundle_goes seen piece (take count piece)).0 (record {
      is_front = ap (λ (count : ℕ). take count piece) (sym size);
      wanted = λ fewer below.
          ap (λ (front : List ℕ). bundle_goes (seen ++ front))
          (take-take fewer count piece (omega arith))
          ∙ fed.goes seen come fewer (omega arith);
      stops = ⊎_elim (λ idle. inl idle) (λ all. inr (take_all count piece all)) (stops seen come);
    }) in
    record {
      within = fed.within;
      size = fed.size;
      seen = λ seen come. rw (sym (all seen come)) (fed.seen seen come);
      count = λ seen come. sym size ∙ ap length (all seen come);
    }

-- a run after which the scan has not failed is taken whole
pub all_taken : {old new : BundleScan} {run seen : List ℕ} → TakesRun old new run
    → may_scan new ≡ true → HasScanned old seen → run ≡ taken bundle_goes seen run
all_taken {new = new} {run = run} {seen = seen} now may come =
    (takes_shortest bundle_goes seen run run).0 (record {
      is_front = sym (take-length run);
      wanted = bundle_goes-take new seen run (length run) (omega arith) may
          (rw take-length (now.seen seen come));
      stops = inr refl;
    })
