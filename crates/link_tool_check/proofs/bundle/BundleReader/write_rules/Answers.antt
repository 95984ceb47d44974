use Rattle.link_bundle_types.specs.BundleView.{viewed_info}
use Rattle.link_tool_check.proofs.Writing.{none_written}
use Rattle.link_tool_check.proofs.bundle.BundleReader.write_rules.Goals as goal

pub returns-then-keeps_rules : goal.returns-then-keeps_rules
returns-then-keeps_rules g c = λ content reads.
    rw (c.keeps_rules.ensures c.args.own.now content (viewed_info c.args.info.now) _ reads
    c.if-keeps_rules.true) none_written
