-- The text of an endpoint ID (RFC 9171 section 4.2.5.1).
use Rattle.std.specs.Prelude.{ℕ, List, ◌++◌, codes}
use Rattle.link_bundle_types.specs.declared.eid.{Eid.Eid, Eid.TheVariants.{DtnNone, Dtn, Ipn, Ipn3}}
use Rattle.link_report.specs.Text.{escaped, number_text}

-- The text of an endpoint ID. An ipn endpoint ID of two numbers has two in its text, and an ipn
-- endpoint ID of three numbers has three.
unfoldable pub eid_text : Eid → List ℕ
eid_text DtnNone = codes "dtn:none"
eid_text (Dtn name) = codes "dtn:" ++ escaped name.items
eid_text (Ipn node service) = number_text (codes "ipn:") node ++ number_text (codes ".") service
eid_text (Ipn3 allocator node service) =
    number_text (codes "ipn:") allocator ++ number_text (codes ".") node
    ++ number_text (codes ".") service
