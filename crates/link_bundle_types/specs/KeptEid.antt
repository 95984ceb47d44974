-- Relations, but for formed_eid: an endpoint ID by its form and the bytes of its dtn name.

use Rattle.std.specs.Prelude.{ℕ, ◌+◌, Bool, false, nat_le, List, [], length}
use Rattle.link_bundle_types.specs.declared.eid.Eid.{Eid}
use Rattle.link_bundle_types.specs.declared.eid.Eid.TheVariants as eid
use Rattle.link_bundle_types.specs.declared.kept_eid.EidForm.{EidForm}
use Rattle.link_bundle_types.specs.declared.kept_eid.EidForm.TheVariants.{DtnNone, Dtn, Ipn, Ipn3}

-- the endpoint ID of this form, with the name `name` if the form is `Dtn`; other forms have no name
abbrev pub formed_eid : EidForm → List ℕ → Eid
formed_eid DtnNone name = eid.DtnNone
formed_eid Dtn name = eid.Dtn (record { items = name })
formed_eid (Ipn node service) name = eid.Ipn node service
formed_eid (Ipn3 allocator node service) name = eid.Ipn3 allocator node service

-- the bytes of a dtn name; there are none in another endpoint ID
abbrev pub name_of : Eid → List ℕ
name_of eid.DtnNone = []
name_of (eid.Dtn name) = name.items
name_of (eid.Ipn node service) = []
name_of (eid.Ipn3 allocator node service) = []

-- whether an endpoint ID has a dtn name with room for this many more bytes
abbrev pub name_fits : Eid → ℕ → Bool
name_fits eid.DtnNone more = false
name_fits (eid.Dtn name) more = nat_le (length name.items + more) 1024
name_fits (eid.Ipn node service) more = false
name_fits (eid.Ipn3 allocator node service) more = false
