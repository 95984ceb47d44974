-- The primary block that is to be written.
use Rattle.link_bundle_types.specs.EidView.{viewed_eid}
use Rattle.link_bundle_blocks.specs.Blocks.{Primary}
use Rattle.link_bundle_writer.specs.declared.primary.NewPrimary.{NewPrimary}

-- the fields of the primary block; its check is not among them
abbrev pub viewed_new : NewPrimary → Primary
viewed_new new =
    record {
      flags = new.flags;
      destination = viewed_eid new.destination;
      source = viewed_eid new.source;
      report_to = viewed_eid new.report_to;
      time = new.time;
      sequence = new.sequence;
      lifetime = new.lifetime;
      fragment = new.fragment;
    }
