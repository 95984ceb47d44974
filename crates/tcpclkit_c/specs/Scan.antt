-- A scan of a bundle in pieces, in memory that C lends.
use Rattle.std.specs.Prelude.{◌≡◌, Bool, true, false, not, ◌&&◌, ◌||◌, ◌==◌, ℕ, ◌+◌, ◌-◌, ◌^◌, nat_lt, nat_le, List, [], ◌++◌, length, is_some, if◌then◌else◌}
use base.Fml.{Fml, Share, fex, fsep, ftrue}
use base.Fraction.{full_share}
use denote.RawPtr.{Ptr, lies_at}
use Rattle.link_cbor.specs.Pieces.{taken}
use Rattle.link_bundle_blocks.specs.Bundle.{verdict, payload_seen, state_of, bundle_goes, cut_block_in}
use Rattle.link_bundle.specs.Scan.{HasScanned}
use Rattle.link_bundle_blocks.specs.PrimaryFields.{primary_fields}
use Rattle.link_ffi_numbers.specs.Block.{no_block, cut_shown}
use Rattle.link_ffi_numbers.specs.Bundle.{state_status, ReturnsVerdict}
use Rattle.link_ffi_numbers.specs.Status.{status_ok, status_end, status_range, status_scan_ended}
use Rattle.link_ffi_numbers.specs.declared.block.BlockNumbers.{BlockNumbers}
use Rattle.tcpclkit_c.specs.Bundle.{Names, ReturnsBundleOrFault}
use Rattle.tcpclkit_c.specs.contracts.scan.MarkedScan.{the_row}
use Rattle.link_ffi_numbers.specs.declared.bundle.Bundle.{Bundle}
use Rattle.link_ffi_numbers.specs.declared.bundle.Verdict.{Verdict}
use Rattle.tcpclkit_c.specs.declared.scan.MarkedScan.{MarkedScan}

-- the first word of each scan
abbrev pub mark : ℕ
mark = 11674977472243525447

-- the scan has its mark, and has seen exactly these bytes
pub record IsMarkedScanAt (held : MarkedScan) (seen : List ℕ) : Type 0 where
  pub marked : held.mark ≡ mark
  pub scanned : HasScanned held.scan seen

-- a scan that has seen exactly these bytes lies at the pointer, and this share of it may be read
abbrev pub ReadsScan : Share → Ptr → List ℕ → Fml
ReadsScan share at seen =
    fex MarkedScan
    (λ held. fsep (lies_at the_row share at held) (fex (IsMarkedScanAt held seen) (λ _. ftrue)))

-- a scan that has seen exactly these bytes lies at the pointer, and may be written
abbrev pub HoldsScan : Ptr → List ℕ → Fml
HoldsScan at seen = ReadsScan full_share at seen

-- what a call that only reads a scan is lent: a share of the scan, which has seen these bytes
pub record ScanLoan : Type 0 where
  pub share : Share
  pub seen : List ℕ

-- whether the bytes seen and the next piece together are at most 2^63 - 1
abbrev pub has_room : (seen piece : List ℕ) → Bool
has_room seen piece = nat_le (length seen + length piece) (2 ^ 63 - 1)

-- The bytes of the next piece that a scan takes, up to the end of the bundle or its first fault.
-- Without room for the whole piece, it takes none.
abbrev pub fed : (seen piece : List ℕ) → List ℕ
fed seen piece = if has_room seen piece then taken bundle_goes seen piece else []

-- whether the piece has bytes, and no more bytes are needed after those seen
abbrev pub is_late : (seen piece : List ℕ) → Bool
is_late seen piece = not (bundle_goes seen) && nat_lt 0 (length piece)

-- The status after the bytes `run` of the piece were taken. It is TCPCLKIT_SCAN_ENDED if the piece
-- is late, and TCPCLKIT_RANGE if there is no room for it.
abbrev pub status_after : (seen piece run : List ℕ) → ℕ
status_after seen piece run =
    if has_room seen piece
    then (if is_late seen piece then status_scan_ended
    else state_status (state_of (verdict (seen ++ run))))
    else status_range

-- the status after a scan took the bytes `fed` of the next piece
abbrev pub fed_status : (seen piece : List ℕ) → ℕ
fed_status seen piece = status_after seen piece (fed seen piece)

-- A scan that had seen `seen` took the bytes `fed` of the next piece. `taken` is their number, and
-- `status` is the status after them.
pub record Feeds (seen piece : List ℕ) (scan : MarkedScan) (taken status : ℕ) : Type 0 where
  pub scanned : IsMarkedScanAt scan (seen ++ fed seen piece)
  pub counts : taken ≡ length (fed seen piece)
  pub answers : status ≡ fed_status seen piece

-- Whether a scan that has seen some bytes knows the verdict on `count` bytes that begin with them:
-- it has seen all, or it needs no more.
abbrev pub may_end : (seen : List ℕ) → ℕ → Bool
may_end seen count =
    (count == length seen) || (nat_lt (length seen) count && not (bundle_goes seen))

-- What is returned for `count` bytes: the verdict on the bytes seen and the bytes after them
-- (`rest`), whatever `rest` contains. If `may_end` is false, nothing is written, and the status is
-- TCPCLKIT_RANGE.
pub record EndsScan (seen : List ℕ) (count : ℕ) (old new : Verdict) (status : ℕ) : Type 0 where
  pub range : may_end seen count ≡ false → (status ≡ status_range) × (new ≡ old)
  pub gives : may_end seen count ≡ true → (rest : List ℕ) → length (seen ++ rest) ≡ count
      → ReturnsVerdict (seen ++ rest) new status

-- the block in whose data or check field the seen bytes end, and TCPCLKIT_OK; or no block, and
-- TCPCLKIT_END
pub record ReturnsCutBlock (seen : List ℕ) (block : BlockNumbers) (status : ℕ) : Type 0 where
  pub numbers : block ≡ cut_shown (length seen) (cut_block_in seen)
  pub gives : status ≡ (if is_some (cut_block_in seen) then status_ok else status_end)

-- ---- memory that may have no scan

-- `Feeds` for memory that may have no scan. Without the mark, no byte is taken, and the status is
-- TCPCLKIT_RANGE.
pub record FeedsScanIfAny (old : MarkedScan) (piece : List ℕ) (new : MarkedScan)
    (taken status : ℕ) : Type 0 where
  pub scan : (seen : List ℕ) → IsMarkedScanAt old seen → Feeds seen piece new taken status
  pub other : (old.mark ≡ mark → ⊥) → (status ≡ status_range) × (taken ≡ 0) × (new ≡ old)

-- The verdict on the bytes seen is returned. Without the mark, nothing is written, and the status
-- is TCPCLKIT_RANGE.
pub record JudgesIfAnyScan (held : MarkedScan) (old new : Verdict) (status : ℕ) : Type 0 where
  pub scan : (seen : List ℕ) → IsMarkedScanAt held seen → ReturnsVerdict seen new status
  pub other : (held.mark ≡ mark → ⊥) → (status ≡ status_range) × (new ≡ old)

-- `EndsScan` for memory that may have no scan. Without the mark, nothing is written, and the status
-- is TCPCLKIT_RANGE.
pub record EndsScanIfAny (held : MarkedScan) (count : ℕ) (old new : Verdict) (status : ℕ)
    : Type 0 where
  pub scan : (seen : List ℕ) → IsMarkedScanAt held seen → EndsScan seen count old new status
  pub other : (held.mark ≡ mark → ⊥) → (status ≡ status_range) × (new ≡ old)

-- `ReturnsCutBlock` for memory that may have no scan. Without the mark, no block is written, and
-- the status is TCPCLKIT_RANGE.
pub record ReturnsCutBlockIfAnyScan (held : MarkedScan) (block : BlockNumbers) (status : ℕ)
    : Type 0 where
  pub scan : (seen : List ℕ) → IsMarkedScanAt held seen → ReturnsCutBlock seen block status
  pub other : (held.mark ≡ mark → ⊥) → (status ≡ status_range) × (block ≡ no_block)

-- The verdict, the fields and the names of the seen bytes are returned. Without the mark, nothing
-- is written, and the status is TCPCLKIT_RANGE.
pub record DescribesIfAnyScan (held : MarkedScan) (old_names names : Names) (old new : Bundle)
    (status : ℕ) : Type 0 where
  pub scan : (seen : List ℕ) → IsMarkedScanAt held seen
      → ReturnsBundleOrFault (verdict seen) (payload_seen seen)
      (primary_fields seen) old_names names new
      status
  pub other : (held.mark ≡ mark → ⊥) → (status ≡ status_range) × (new ≡ old) × (names ≡ old_names)
