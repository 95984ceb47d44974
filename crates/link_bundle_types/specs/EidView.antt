-- The endpoint ID that a view shows.

use Rattle.link_bundle_types.specs.declared.eid.Eid.{Eid}
use Rattle.link_bundle_types.specs.declared.eid.Eid.TheVariants as eid
use Rattle.link_bundle_types.specs.declared.eid.EidView.{EidView}
use Rattle.link_bundle_types.specs.declared.eid.EidView.TheVariants.{DtnNone, Dtn, Ipn, Ipn3}

-- the endpoint ID that a view shows: the same numbers, or a copy of the name
abbrev pub viewed_eid : EidView → Eid
viewed_eid DtnNone = eid.DtnNone
viewed_eid (Dtn name) = eid.Dtn (record { items = name.now })
viewed_eid (Ipn node service) = eid.Ipn node service
viewed_eid (Ipn3 allocator node service) = eid.Ipn3 allocator node service
