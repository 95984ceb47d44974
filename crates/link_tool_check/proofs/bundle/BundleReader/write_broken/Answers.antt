use Rattle.std.proofs.Common.{refl, ◌∙◌}
use Rattle.link_bundle_types.specs.BundleView.{viewed_info}
use Rattle.link_tool_check.proofs.bundle.BundleReader.write_broken.Goals as goal

pub returns : goal.returns
returns g c = λ content reads.
    let own = c.args.own.now in
    let info = viewed_info c.args.info.now in
    rw (
      c.as_slice.ensures.value ∙ c.rules-rules.ensures own content info reads refl,
      c.of-source.ensures,
      c.doubt-doubt.ensures own content reads,
    )
    at c.write_rules.ensures
