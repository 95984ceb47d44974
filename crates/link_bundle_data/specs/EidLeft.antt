-- Relations: the rest of an endpoint ID, from each of its heads on. The numbers and the bytes of a
-- name that were read before are given. `offset` is where the rest begins.

use Rattle.std.specs.Prelude.{ℕ, List, ◌++◌, Option, Some, None, Ok}
use Rattle.link_bundle_types.specs.declared.eid.{Eid.Eid, Eid.TheVariants.{Dtn, Ipn, Ipn3}}
use Rattle.link_bundle_heads.specs.Rows.{◌>>=◌, unsigned, scheme}
use Rattle.link_bundle_blocks.specs.Reading.{ReadAt, row_at, bytes_at}
use Rattle.link_bundle_blocks.specs.EndpointId.{specific_at}

-- the ipn endpoint ID with these numbers, of which the allocator identifier may be absent
abbrev pub numbered : Option ℕ → ℕ → ℕ → Eid
numbered None node service = Ipn node service
numbered (Some allocator) node service = Ipn3 allocator node service

-- an ipn endpoint ID of which only the service number is left to be read
unfoldable pub service_left : Option ℕ → ℕ → List ℕ → ℕ → ReadAt Eid
service_left allocator node bytes offset = do
  (service, offset) ← row_at unsigned bytes offset
  Ok (numbered allocator node service, offset)

-- an ipn endpoint ID of which the node number and the service number are left
unfoldable pub node_left : Option ℕ → List ℕ → ℕ → ReadAt Eid
node_left allocator bytes offset = do
  (node, offset) ← row_at unsigned bytes offset
  service_left allocator node bytes offset

-- an endpoint ID from its scheme on, after the head of its array
unfoldable pub scheme_left : List ℕ → ℕ → ReadAt Eid
scheme_left bytes offset = do
  (scheme, offset) ← row_at scheme bytes offset
  specific_at scheme bytes offset

-- A dtn endpoint ID, from inside its name on. The first bytes of the name, `name`, were read.
-- The other `left` bytes were not.
unfoldable pub name_left : List ℕ → ℕ → List ℕ → ℕ → ReadAt Eid
name_left name left bytes offset = do
  (rest, offset) ← bytes_at left bytes offset
  Ok (Dtn (record { items = name ++ rest }), offset)
