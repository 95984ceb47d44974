-- A piece of a bundle after a scan of some of its bytes.
use Rattle.std.proofs.Common.{◌≡◌, ℕ, ◌⊎◌, false, List, [], ◌++◌, take, drop, IsTrue, refl, ap, sym, ◌∙◌, subst, ⊎_elim, append-nil, append_assoc}
use Rattle.std.proofs.lemmas.{Bool.false≢true, List.take-append-drop}
use Rattle.link_bundle_blocks.specs.Bundle.{bundle_goes}
use Rattle.link_bundle.specs.Scan.{HasScanned, HasJudged, may_scan}
use Rattle.link_bundle.specs.declared.scan.BundleScan.{BundleScan}
use Rattle.link_bundle.proofs.Pieces.{verdict_judged}
use Rattle.link_bundle_data_in_pieces.specs.{DataReader.IsDataReaderAt, declared.data.DataReader.DataReader}
use Rattle.link_bundle_data_in_pieces.proofs.Reading.{read_end}

-- ---- a scan that has judged some bytes

module _ (scan : BundleScan) (bytes : List ℕ) (judged : HasJudged scan bytes) where
  -- if it may take more bytes, it has seen all of these
  pub seen_all : IsTrue (may_scan scan) → HasScanned scan bytes
  seen_all may = ⊎_elim
      (λ (none : judged.rest ≡ []).
      subst (HasScanned scan)
      (sym (append-nil judged.seen) ∙ ap (λ xs. judged.seen ++ xs) (sym none) ∙ judged.parts)
      judged.scanned)
      (λ stuck. absurd (false≢true (sym stuck ∙ may)))
      judged.enough

  pub goes_judged : bundle_goes judged.seen ≡ bundle_goes bytes
  goes_judged =
      rw (verdict_judged scan bytes judged) refl

-- ---- the rest of a piece

pub joined_rest : (content piece : List ℕ) (count : ℕ)
    → (content ++ take count piece) ++ drop count piece ≡ content ++ piece
joined_rest content piece count =
    rw (append_assoc, take-append-drop) refl

-- no more blocks come in the rest, or there is none
pub rest_read : (reader : DataReader) (bytes rest : List ℕ)
    → (bundle_goes bytes ≡ false) ⊎ (rest ≡ []) → IsDataReaderAt reader bytes
    → IsDataReaderAt reader (bytes ++ rest)
rest_read reader bytes rest ends reading = ⊎_elim
    (λ stops. read_end reader bytes rest reading stops)
    (λ none. rw none (rw (append-nil bytes) reading))
    ends
