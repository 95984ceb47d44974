-- The greatest length of the names in a bundle's endpoint IDs.

use Rattle.std.specs.Prelude.{◌≤◌, length}
use Rattle.link_bundle_types.specs.declared.eid.{Eid.Eid, Eid.TheVariants.{DtnNone, Dtn, Ipn, Ipn3}}
use Rattle.link_bundle_types.specs.declared.info.BundleInfo.{BundleInfo}

-- the name of a dtn endpoint ID has at most 1,024 bytes; other endpoint IDs have no name
abbrev pub HasNoLongName : Eid → Type 0
HasNoLongName DtnNone = Unit {0}
HasNoLongName (Dtn name) = length name.items ≤ 1024
HasNoLongName (Ipn node service) = Unit {0}
HasNoLongName (Ipn3 allocator node service) = Unit {0}

-- the names of a bundle's three endpoint IDs have at most 1,024 bytes each
pub record HasShortNames (info : BundleInfo) : Type 0 where
  pub source : HasNoLongName info.source
  pub destination : HasNoLongName info.destination
  pub report_to : HasNoLongName info.report_to
