-- Names of endpoints and of nodes (RFC 9171 sections 4.2.5.1.1, 4.2.5.1.2 and 4.2.5.2).
use Rattle.std.specs.Prelude.{ℕ, Bool, false, not, ◌&&◌, ◌==◌, nat_eq, List, codes, Option, Some, None, if◌then◌else◌}
use Rattle.std.specs.List.{starts_with}
use Rattle.link_rules_shared.specs.DtnNames.{is_dtn_name, demux_level, demux_of}
use Rattle.link_rules_shared.specs.declared.level.{Level.Level, Level.TheVariants.{Must, Should}}
use Rattle.link_bundle_types.specs.declared.eid.Eid.{Eid}
use Rattle.link_bundle_types.specs.declared.eid.Eid.TheVariants as eid
use Rattle.link_bundle_blocks.specs.Blocks.{Primary}
use Rattle.link_bundle_rules.specs.declared.rule.Endpoint.{Endpoint}
use Rattle.link_bundle_rules.specs.declared.rule.Endpoint.TheVariants.{Destination, Source, ReportTo}

-- Whether an endpoint ID is of scheme dtn, and its text is not a dtn name. The null endpoint is the
-- number 0, so it has no text.
abbrev pub has_bad_name : Eid → Bool
has_bad_name (eid.Dtn name) = not (is_dtn_name name.items)
has_bad_name _ = false

-- the first endpoint ID of a primary block that has a bad name
abbrev pub bad_name : Primary → Option Endpoint
bad_name primary =
    if has_bad_name primary.destination then Some Destination
    else (if has_bad_name primary.source then Some Source
    else (if has_bad_name primary.report_to then Some ReportTo else None))

-- How strictly the demux of a dtn name is forbidden in a node ID (section 4.2.5.1.1). A name that
-- is no dtn name is not judged.
abbrev pub dtn_level : (name : List ℕ) → Option Level
dtn_level name = if is_dtn_name name then demux_level (demux_of name) else None

-- whether an endpoint ID is a dtn name whose demux begins with `~`, and so the endpoint is no
-- singleton (section 4.2.5.1.1)
abbrev pub is_group : Eid → Bool
is_group (eid.Dtn name) =
    starts_with nat_eq (demux_of name.items) (codes "~") && is_dtn_name name.items
is_group _ = false

-- how strictly a service number is forbidden in a node ID: only 0 names a node (section 4.2.5.1.2)
abbrev pub service_level : (service : ℕ) → Option Level
service_level service = if service == 0 then None else Some Should

-- how strictly an endpoint ID is forbidden as a node ID, or `None` if it may be one
abbrev pub node_level : Eid → Option Level
node_level eid.DtnNone = Some Must
node_level (eid.Dtn name) = dtn_level name.items
node_level (eid.Ipn node service) = service_level service
node_level (eid.Ipn3 allocator node service) = service_level service
