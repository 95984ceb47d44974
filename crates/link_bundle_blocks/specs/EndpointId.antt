-- Endpoint IDs (RFC 9171 section 4.2.5.1).

use Rattle.std.specs.Prelude.{ℕ, ◌==◌, Bool, true, false, List, Option, Some, None, Ok}
use Rattle.link_bundle_types.specs.declared.eid.Eid.{Eid}
use Rattle.link_bundle_types.specs.declared.eid.Eid.TheVariants.{DtnNone, Dtn as DtnName, Ipn as IpnNumbers, Ipn3}
use Rattle.link_bundle_heads.specs.declared.endpoint.{Scheme.Scheme, Scheme.TheVariants.{Dtn, Ipn}}
use Rattle.link_bundle_heads.specs.Rows.{◌>>=◌, unsigned, pair, scheme, dtn_part, ipn_part}
use Rattle.link_bundle_blocks.specs.Reading.{ReadAt, row_at, bytes_at}

-- dtn:none (`None`), or a dtn name of that many bytes, which begins at the offset
unfoldable pub dtn_at : Option ℕ → List ℕ → ℕ → ReadAt Eid
dtn_at None bytes offset = Ok (DtnNone, offset)
dtn_at (Some count) bytes offset = do
  (name, offset) ← bytes_at count bytes offset
  Ok (DtnName (record { items = name }), offset)

-- The numbers of an ipn endpoint ID. RFC 9171 has two, a node number and a service number. Three,
-- the first of them an allocator identifier, are the project's own rule (docs/RFCS.md). The `Bool`
-- says whether there are three.
unfoldable pub ipn_at : Bool → List ℕ → ℕ → ReadAt Eid
ipn_at false bytes offset = do
  (node, offset) ← row_at unsigned bytes offset
  (service, offset) ← row_at unsigned bytes offset
  Ok (IpnNumbers node service, offset)
ipn_at true bytes offset = do
  (allocator, offset) ← row_at unsigned bytes offset
  (node, offset) ← row_at unsigned bytes offset
  (service, offset) ← row_at unsigned bytes offset
  Ok (Ipn3 allocator node service, offset)

-- the scheme-specific part of an endpoint ID
unfoldable pub specific_at : Scheme → List ℕ → ℕ → ReadAt Eid
specific_at Dtn bytes offset = do
  (part, offset) ← row_at dtn_part bytes offset
  dtn_at part bytes offset
specific_at Ipn bytes offset = do
  (count, offset) ← row_at ipn_part bytes offset
  ipn_at (count == 3) bytes offset

-- an endpoint ID: an array of its scheme and its scheme-specific part
unfoldable pub eid_at : List ℕ → ℕ → ReadAt Eid
eid_at bytes offset = do
  (_, offset) ← row_at pair bytes offset
  (scheme, offset) ← row_at scheme bytes offset
  specific_at scheme bytes offset
