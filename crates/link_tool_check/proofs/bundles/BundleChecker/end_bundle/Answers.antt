use Rattle.std.proofs.Common.{arith}
use Rattle.link_bundle_types.specs.BundleView.{viewed_info}
use Rattle.link_tool_check.proofs.BundleTexts.{tells_whole}
use Rattle.link_tool_check.proofs.bundles.BundleChecker.end_bundle.Goals as goal

pub returns-clause-gives : goal.returns-clause-gives
returns-clause-gives g c = λ now knows sized same numbered.
    let info = viewed_info c.args.whole.info in
    let writes = rw c.as_slice.ensures.value at (c.write_rules-written.ensures now.begun) in
    tells_whole c.args.options.now _ now info c.args.number numbered knows.good
    (rw knows.offset at (writes knows.reading))
    (omega (arith, knows.offset)) (c.restart.ensures.reads c.args.options.now.own.items)
