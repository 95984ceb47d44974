-- Endpoint IDs in CBOR (RFC 9171 section 4.2.5.1).
use Rattle.std.specs.Prelude.{ℕ, ◌^◌, ◌<◌, Bool, true, nat_le, List, ◌++◌, length, Option, Some, None, if◌then◌else◌}
use Rattle.link_bundle_types.specs.declared.eid.{Eid.Eid, Eid.TheVariants.{DtnNone, Dtn, Ipn, Ipn3}}
use Rattle.link_bundle_writer.specs.Heads.{unsigned, text_string, array}

-- an array of the scheme, 1 for dtn and 2 for ipn, and of the scheme-specific part
unfoldable pub eid_bytes : Eid → List ℕ
eid_bytes DtnNone = array 2 ++ unsigned 1 ++ unsigned 0
eid_bytes (Dtn name) = array 2 ++ unsigned 1 ++ text_string (length name.items) ++ name.items
eid_bytes (Ipn node service) = array 2 ++ unsigned 2 ++ array 2 ++ unsigned node ++ unsigned service
eid_bytes (Ipn3 allocator node service) =
    array 2 ++ unsigned 2 ++ array 3 ++ unsigned allocator ++ unsigned node ++ unsigned service

-- whether a dtn name has at most 1,024 bytes; other endpoint IDs have no name
abbrev pub is_short : Eid → Bool
is_short (Dtn name) = nat_le (length name.items) 1024
is_short _ = true

-- the bytes of an endpoint ID, or `None` if its dtn name is too long to be written
abbrev pub eid_of : Eid → Option (List ℕ)
eid_of eid = if is_short eid then Some (eid_bytes eid) else None

-- each number of an ipn endpoint ID fits in 64 bits
abbrev pub EidFits : Eid → Type 0
EidFits (Ipn node service) = (node < 2 ^ 64) × (service < 2 ^ 64)
EidFits (Ipn3 allocator node service) =
    (allocator < 2 ^ 64) × (node < 2 ^ 64) × (service < 2 ^ 64)
EidFits _ = Unit {0}
