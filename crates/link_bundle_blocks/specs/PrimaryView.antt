-- The fields that a view of a primary block shows.

use Rattle.std.specs.Prelude.{option_map}
use Rattle.link_bundle_types.specs.EidView.{viewed_eid}
use Rattle.link_bundle_blocks.specs.declared.primary_view.PrimaryView.{PrimaryView}
use Rattle.link_bundle_blocks.specs.Primary.{AcceptedPrimaryFields}

-- the fields that a view shows
abbrev pub viewed_fields : PrimaryView → AcceptedPrimaryFields
viewed_fields view =
    record {
      accepted = view.accepted;
      whole = view.whole;
      flags = view.flags;
      destination = option_map viewed_eid view.destination;
      source = option_map viewed_eid view.source;
      report_to = option_map viewed_eid view.report_to;
      time = view.time;
      sequence = view.sequence;
      lifetime = view.lifetime;
      fragment_offset = view.fragment_offset;
      fragment_total = view.fragment_total;
    }
