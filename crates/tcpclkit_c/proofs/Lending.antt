-- A share of a scan in the memory of C, lent to be looked at. The bytes that it has seen are known.
use Rattle.tcpclkit_c.proofs.Walks.{ℕ, List, [], ◌∷◌, full_share, Incl-refl, ftrue, fsep, fex, flft, flent, named, vptr, ‵, ◌⊛◌, later, ◌$◌, ◌∵◌, !, qed, done, move, fjoin, fpack, nothing, lends_shr, part_at, block_ptr, lies_at, ShrRef}
use seplogic.Ra.Ura.{Ura}
use base.Fml.{Lft, Share}
use base.Logic.{ent, sep}
use types.Kit.{Item, mean}
use types.Logic.{Logic}
use Rattle.tcpclkit_c.specs.{declared.scan.MarkedScan.MarkedScan, Scan.{IsMarkedScanAt, ReadsScan}}
use Rattle.tcpclkit_c.specs.contracts.scan.MarkedScan.{the_row as R}
use Rattle.tcpclkit_c.proofs.scan.MarkedScan.TheLaws.{the_within}
use Rattle.tcpclkit_c.proofs.AnyShare.{scan_any}

module _ {M : Type 1} {𝓤 : Ura M} (𝓛 : Logic 𝓤) (share : Share) (scan : MarkedScan) (b o : ℕ) where
  -- a reference to the scan for the lifetime κ, the lender's part, and the token of κ
  abbrev pub lent_scan : Lft → Item 𝓤
  lent_scan κ =
      later ((‵ ((ShrRef (named 0) κ R).own_val (record { ref_ptr = (b, o); now = scan }) (vptr b o ∷ []))
      ⊛ ‵ (flent κ (part_at R share scan b o))) ⊛ ‵ (flft κ full_share))

  pub lends_scan : (κ : Lft)
      → ent 𝓤 (sep 𝓤 (mean 𝓛 (‵ (part_at R share scan b o))) (mean 𝓛 (‵ (flft κ full_share))))
      (mean 𝓛 (lent_scan κ))
  lends_scan κ =
      lends_shr 𝓛 R (named 0) κ share scan b o R.lives (scan_any M 𝓤 𝓛 share R.lives scan)
      ((κ, full_share) ∷ []) (the_within κ) (Incl-refl κ)

  -- the memory holds a scan that has seen these bytes
  pub held_scan : (seen : List ℕ) → IsMarkedScanAt scan seen
      → ent 𝓤 (mean 𝓛 (‵ (part_at R share scan b o)))
      (mean 𝓛 (‵ (ReadsScan share (block_ptr b o) seen)))
  held_scan seen has =
      qed 𝓛 (‵ (part_at R share scan b o) ∷ []) ∵
      nothing ! $ fpack ! (IsMarkedScanAt scan seen) (λ _. ftrue) has $ move ! (1 ∷ 0 ∷ []) $ fjoin ! $
      fpack ! MarkedScan (λ x. fsep (lies_at R share (block_ptr b o) x)
      (fex (IsMarkedScanAt x seen) (λ _. ftrue))) scan $ done !
