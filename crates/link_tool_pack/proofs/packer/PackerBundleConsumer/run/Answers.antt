use Rattle.std.proofs.Common.{◌++◌, refl}
use Rattle.link_bundle_types.specs.BundleView.{viewed_info}
use Rattle.link_run_over_bundle_files.specs.Bundles.{BundleWithInfo}
use Rattle.link_tool_pack.specs.PackRun.{texts_of}
use Rattle.link_tool_pack.proofs.Outcomes.{texts_grown, texts_whole, went_on, lost, with_line}
use Rattle.link_tool_pack.proofs.packer.PackerBundleConsumer.run.Goals as goal

pub returns-in_default-clause-gives : goal.returns-in_default-clause-gives
returns-in_default-clause-gives g c = λ before keeps. rw c.in_default.is (λ comes.
    let options = c.args.options.now in
    went_on _ _ options (texts_of options) before _ _ _
    (texts_grown options _ _ _ _ comes.numbered) _ _ _
    (c.write_run.ensures.gives _ keeps.cut c.requires.few))

pub returns-in-Err-clause-gives : goal.returns-in-Err-clause-gives
returns-in-Err-clause-gives g c = λ before keeps. rw c.in-Some.is (λ comes.
    let options = c.args.options.now in
    let bundle : BundleWithInfo = record { bytes = before.begun ++ c.args.run.now.bytes.now; info = viewed_info c.in-Some.whole.info } in
    lost _ _ options (texts_of options) before _ _ _ bundle _ comes.some
    (texts_whole options _ _ _ _ bundle comes.numbered refl comes.some) _ _ _
    (c.in-Err.ensures.gives _ keeps.cut c.requires.few))

pub returns-in-Ok-clause-gives : goal.returns-in-Ok-clause-gives
returns-in-Ok-clause-gives g c = λ before keeps. rw c.in-Some.is (λ comes.
    let options = c.args.options.now in
    let bundle : BundleWithInfo = record { bytes = before.begun ++ c.args.run.now.bytes.now; info = viewed_info c.in-Some.whole.info } in
    with_line _ _ options (texts_of options) before _ _ _ bundle _ comes.some
    (texts_whole options _ _ _ _ bundle comes.numbered refl comes.some) _ _ _
    (c.in-Ok.ensures.gives _ keeps.cut c.requires.few) _ _
    (c.write_line.ensures bundle refl comes.accepted.1))
