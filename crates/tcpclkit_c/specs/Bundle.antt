-- What the calls return about a bundle: its numbers, and its names in slices.
use Rattle.std.specs.Prelude.{◌≡◌, ℕ, ◌&&◌, nat_le, min, List, length, Option, Result, Ok, Err, if◌then◌else◌}
use Rattle.link_bundle_types.specs.declared.fault.BundleFault.{BundleFault}
use Rattle.link_bundle_types.specs.declared.eid.Eid.{Eid}
use Rattle.link_bundle_types.specs.declared.fault.State.{State}
use Rattle.link_bundle_types.specs.declared.info.BundleInfo.{BundleInfo}
use Rattle.link_bundle_blocks.specs.Bundle.{state_of}
use Rattle.link_bundle_blocks.specs.Primary.{AcceptedPrimaryFields}
use Rattle.link_ffi_numbers.specs.Bundle.{state_status, verdict_shown, eid_or_none, name_of, name_or_none, primary_shown, bundle_shown}
use Rattle.link_ffi_numbers.specs.Status.{status_ok, status_too_small}
use Rattle.link_ffi_numbers.specs.declared.bundle.Bundle.{Bundle}
use Rattle.link_ffi_numbers.specs.declared.bundle.EidNumbers.{EidNumbers}
use Rattle.link_ffi_numbers.specs.declared.bundle.Verdict.{Verdict}
use Rattle.link_ffi_tools.specs.Slice.{HoldsPrefix, LeavesRest}

-- the three names, or the slices for them before or after a call
pub record Names : Type 0 where
  pub destination : List ℕ
  pub source : List ℕ
  pub report_to : List ℕ

-- these three names, or these three slices
abbrev pub three_names : (destination source report_to : List ℕ) → Names
three_names destination source report_to =
    record { destination = destination; source = source; report_to = report_to }

-- the three names of a good bundle
abbrev pub names_of : BundleInfo → Names
names_of info =
    three_names (name_of info.destination) (name_of info.source) (name_of info.report_to)

-- the three names in a primary block up to its first fault
abbrev pub primary_names : AcceptedPrimaryFields → Names
primary_names primary =
    three_names (name_or_none primary.destination) (name_or_none primary.source)
    (name_or_none primary.report_to)

-- the slices have these names, as far as there is room, and their other bytes are as they were
pub record CopiesNames (names old new : Names) : Type 0 where
  pub destination_name : HoldsPrefix new.destination names.destination
  pub destination_rest : LeavesRest old.destination new.destination names.destination
  pub source_name : HoldsPrefix new.source names.source
  pub source_rest : LeavesRest old.source new.source names.source
  pub report_to_name : HoldsPrefix new.report_to names.report_to
  pub report_to_rest : LeavesRest old.report_to new.report_to names.report_to

-- TCPCLKIT_OK, or TCPCLKIT_TOO_SMALL if a name is longer than the slice for it
abbrev pub names_status : (names slices : Names) → ℕ
names_status names slices =
    if nat_le (length names.destination) (length slices.destination)
    && (nat_le (length names.source) (length slices.source)
    && nat_le (length names.report_to) (length slices.report_to))
    then status_ok else status_too_small

-- What is returned for a good bundle: its numbers, and its names in the slices, as far as there is
-- room. The status says whether all names fit.
pub record ReturnsBundle (info : BundleInfo) (verdict : Verdict) (primary : AcceptedPrimaryFields)
    (old new : Names) (bundle : Bundle) (status : ℕ) : Type 0 where
  pub numbers : bundle ≡ bundle_shown verdict primary info
  pub names : CopiesNames (names_of info) old new
  pub fits : status ≡ names_status (names_of info) new

-- an endpoint ID whose name is cut to the slice for it
abbrev pub cut_eid : Option Eid → (slice : List ℕ) → EidNumbers
cut_eid eid slice =
    record (eid_or_none eid) { name_length = min (eid_or_none eid).name_length (length slice) }

-- the fields of a primary block up to its first fault, with each name cut to the slice for it
abbrev pub cut_primary : Verdict → AcceptedPrimaryFields → (slices : Names) → Bundle
cut_primary verdict primary slices =
    record (primary_shown verdict primary) {
      destination = cut_eid primary.destination slices.destination;
      source = cut_eid primary.source slices.source;
      report_to = cut_eid primary.report_to slices.report_to;
    }

-- What is returned for bytes that are no good bundle: the numbers, and the names in the slices, up
-- to the first fault. A name that does not fit is cut, and the status does not say so.
pub record ReturnsBadBundle (verdict : Verdict) (state : State) (primary : AcceptedPrimaryFields)
    (old new : Names) (bundle : Bundle) (status : ℕ) : Type 0 where
  pub numbers : bundle ≡ cut_primary verdict primary new
  pub names : CopiesNames (primary_names primary) old new
  pub stops : status ≡ state_status state

-- What is returned for this verdict: the case of a good bundle, and the case of a fault. The second
-- argument is the payload's offset, and the number of its bytes that have come.
abbrev pub ReturnsBundleOrFault : Result BundleInfo (BundleFault × ℕ) → Option (ℕ × ℕ)
    → AcceptedPrimaryFields
    → (old new : Names) → Bundle → ℕ → Type 0
ReturnsBundleOrFault (Ok info) span primary old new bundle status =
    ReturnsBundle info (verdict_shown (Ok info) span) primary old new bundle status
ReturnsBundleOrFault (Err stop) span primary old new bundle status =
    ReturnsBadBundle (verdict_shown (Err stop) span)
    (state_of (Err stop)) primary old new bundle status
