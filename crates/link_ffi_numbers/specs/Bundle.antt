-- The verdict on a bundle, its endpoint IDs and its fields as numbers.
use Rattle.std.specs.Prelude.{◌≡◌, ℕ, ◌==◌, ◌&&◌, nat_le, List, [], length, Option, Some, None, Result, Ok, Err, if◌then◌else◌}
use Rattle.link_bundle_types.specs.EidView.{viewed_eid}
use Rattle.link_bundle_types.specs.declared.{fault.BundleFault.BundleFault, eid.Eid.Eid}
use Rattle.link_bundle_types.specs.declared.eid.Eid.TheVariants.{DtnNone, Dtn, Ipn, Ipn3}
use Rattle.link_bundle_types.specs.declared.{eid.EidView.EidView, fault.State.State}
use Rattle.link_bundle_types.specs.declared.fault.State.TheVariants.{Going, Ended, Failed}
use Rattle.link_bundle_types.specs.declared.info.BundleInfo.{BundleInfo}
use Rattle.link_bundle_blocks.specs.Bundle.{verdict, payload_seen, state_of}
use Rattle.link_bundle_heads.specs.Rows.{is_fragment}
use Rattle.link_bundle_blocks.specs.Primary.{AcceptedPrimaryFields}
use Rattle.link_ffi_numbers.specs.Fault.{no_fault, bundle_fault}
use Rattle.link_ffi_numbers.specs.Status.{status_ok, status_truncated, status_fault}
use Rattle.link_ffi_numbers.specs.declared.{fault.Fault.Fault, bundle.Bundle.Bundle}
use Rattle.link_ffi_numbers.specs.declared.bundle.{EidNumbers.EidNumbers, Verdict.Verdict}

-- the status that a call returns for a scan in this state: TCPCLKIT_TRUNCATED, TCPCLKIT_OK or
-- TCPCLKIT_FAULT
abbrev pub state_status : State → ℕ
state_status Going = status_truncated
state_status Ended = status_ok
state_status (Failed fault offset) = status_fault

-- the fault of a verdict; a good bundle has none
abbrev pub fault_of : Result BundleInfo (BundleFault × ℕ) → Fault
fault_of (Ok info) = no_fault
fault_of (Err (fault, offset)) = bundle_fault fault offset

-- a verdict as numbers, from its fault and from the offset of the payload with the number of its
-- bytes that have come; the `Option` is `None` if the payload's offset is not known
abbrev pub with_span : Fault → Option (ℕ × ℕ) → Verdict
with_span fault None =
    record { fault = fault; has_payload = 0; payload_offset = 0; payload_seen = 0 }
with_span fault (Some (offset, count)) =
    record { fault = fault; has_payload = 1; payload_offset = offset; payload_seen = count }

-- a verdict as numbers, with the offset of the payload and the number of its bytes that have come
abbrev pub verdict_shown : Result BundleInfo (BundleFault × ℕ) → Option (ℕ × ℕ) → Verdict
verdict_shown outcome span = with_span (fault_of outcome) span

-- the numbers and the status are those of the verdict on the bytes
pub record ReturnsVerdict (bytes : List ℕ) (answer : Verdict) (status : ℕ) : Type 0 where
  pub numbers : answer ≡ verdict_shown (verdict bytes) (payload_seen bytes)
  pub answers : status ≡ state_status (state_of (verdict bytes))

-- the numbers in place of an endpoint ID, if there is none: all are 0
abbrev pub no_eid : EidNumbers
no_eid = record { kind = 0; allocator = 0; node = 0; service = 0; name_length = 0 }

-- an endpoint ID as its kind and numbers
abbrev pub eid_shown : Eid → EidNumbers
eid_shown DtnNone = record no_eid { kind = 1 }
eid_shown (Dtn name) = record no_eid { kind = 2; name_length = length name.items }
eid_shown (Ipn node service) = record no_eid { kind = 3; node = node; service = service }
eid_shown (Ipn3 allocator node service) =
    record no_eid { kind = 4; allocator = allocator; node = node; service = service }

-- the name of an endpoint ID; only those of the kind `Dtn` have one, and for the others it is empty
abbrev pub name_of : Eid → List ℕ
name_of (Dtn name) = name.items
name_of _ = []

-- an endpoint ID that may be missing
abbrev pub eid_or_none : Option Eid → EidNumbers
eid_or_none None = no_eid
eid_or_none (Some eid) = eid_shown eid

-- the name of an endpoint ID; it is empty if the ID has no name, or if there is no ID
abbrev pub name_or_none : Option Eid → List ℕ
name_or_none None = []
name_or_none (Some eid) = name_of eid

-- The endpoint ID with these numbers, or `None` if no kind of endpoint ID has them. The name is
-- read only for kind 2, a name of dtn. Its length must be `name_length`, and at most 1,024.
abbrev pub eid_by : EidNumbers → List ℕ → Option Eid
eid_by eid name =
    if eid.kind == 1 then Some DtnNone
    else if eid.kind == 2 && (nat_le (length name) 1024 && (length name == eid.name_length))
    then Some (Dtn (record { items = name }))
    else if eid.kind == 3 then Some (Ipn eid.node eid.service)
    else if eid.kind == 4 then Some (Ipn3 eid.allocator eid.node eid.service)
    else None

-- the endpoint ID that a view shows, or `None` for no view
abbrev pub viewed_option : Option EidView → Option Eid
viewed_option None = None
viewed_option (Some view) = Some (viewed_eid view)

-- Bytes that are no good bundle, as numbers: the fields of their primary block up to the first
-- fault. Each field after the fault is 0.
abbrev pub primary_shown : Verdict → AcceptedPrimaryFields → Bundle
primary_shown verdict primary =
    record {
      verdict = verdict;
      primary_fields = primary.accepted;
      primary_whole = if primary.whole then 1 else 0;
      flags = primary.flags;
      destination = eid_or_none primary.destination;
      source = eid_or_none primary.source;
      report_to = eid_or_none primary.report_to;
      time = primary.time;
      sequence = primary.sequence;
      lifetime = primary.lifetime;
      is_fragment = if is_fragment primary.flags then 1 else 0;
      fragment_offset = primary.fragment_offset;
      fragment_total = primary.fragment_total;
      blocks = 0;
      payload_length = 0;
    }

-- 1, the offset of a fragment and the total length; or three zeros if the bundle is no fragment
abbrev pub fragment_shown : Option (ℕ × ℕ) → ℕ × (ℕ × ℕ)
fragment_shown None = (0, (0, 0))
fragment_shown (Some fragment) = (1, fragment)

-- a good bundle as numbers
abbrev pub bundle_shown : Verdict → AcceptedPrimaryFields → BundleInfo → Bundle
bundle_shown verdict primary info =
    record {
      verdict = verdict;
      primary_fields = primary.accepted;
      primary_whole = if primary.whole then 1 else 0;
      flags = info.flags;
      destination = eid_shown info.destination;
      source = eid_shown info.source;
      report_to = eid_shown info.report_to;
      time = info.time;
      sequence = info.sequence;
      lifetime = info.lifetime;
      is_fragment = (fragment_shown info.fragment).0;
      fragment_offset = (fragment_shown info.fragment).1.0;
      fragment_total = (fragment_shown info.fragment).1.1;
      blocks = info.blocks;
      payload_length = info.payload;
    }
