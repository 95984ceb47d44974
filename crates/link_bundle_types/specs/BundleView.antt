-- The bundle that a view shows.

use Rattle.std.specs.Prelude.{ℕ, Result, Ok, Err}
use Rattle.link_bundle_types.specs.declared.fault.BundleFault.{BundleFault}
use Rattle.link_bundle_types.specs.declared.info.{BundleInfo.BundleInfo, BundleView.BundleView}
use Rattle.link_bundle_types.specs.EidView.{viewed_eid}

-- the bundle that a view shows: the same fields, with the endpoint IDs that their views show
abbrev pub viewed_info : BundleView → BundleInfo
viewed_info view =
    record {
      flags = view.flags;
      destination = viewed_eid view.destination;
      source = viewed_eid view.source;
      report_to = viewed_eid view.report_to;
      time = view.time;
      sequence = view.sequence;
      lifetime = view.lifetime;
      fragment = view.fragment;
      blocks = view.blocks;
      payload = view.payload;
    }

-- the verdict that has the bundle itself in place of its view; a fault stays
abbrev pub viewed_verdict : Result BundleView (BundleFault × ℕ)
    → Result BundleInfo (BundleFault × ℕ)
viewed_verdict (Ok view) = Ok (viewed_info view)
viewed_verdict (Err stop) = Err stop
