-- Relations: the bytes that a scan of a head has seen.

use Rattle.std.specs.Prelude.{◌≡◌, ℕ, Bool, List, ◌++◌, length}
use Rattle.link_cbor.specs.declared.head_scan.HeadScan.{HeadScan}
use Rattle.link_cbor.specs.Head.{AreBytes, head_front, is_cut}
use Rattle.link_cbor.specs.Stage.{wants_more, IsStageInHead}

-- The scan has seen exactly these bytes. Whatever bytes follow, the stage of the scan determines
-- the head that all of them begin with.
pub record HasScannedHead (scan : HeadScan) (seen : List ℕ) : Type 0 where
  pub bytes : AreBytes seen
  pub count : scan.count ≡ length seen
  pub stands : IsStageInHead scan.count scan.stage (λ more. head_front (seen ++ more))

-- the number of bytes seen
abbrev pub head_scan_size : HeadScan → ℕ
head_scan_size scan = scan.count

-- whether more bytes are needed
abbrev pub may_scan_head : HeadScan → Bool
may_scan_head scan = wants_more scan.stage

-- whether the head is neither whole nor known to be ill-formed after these bytes
abbrev pub head_goes : List ℕ → Bool
head_goes seen = is_cut (head_front seen)
