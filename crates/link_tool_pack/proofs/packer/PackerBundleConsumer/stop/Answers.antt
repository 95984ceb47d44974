use Rattle.link_run_over_bundle_files.proofs.Told.{told_known}
use Rattle.link_tool_pack.specs.PackRun.{texts_of}
use Rattle.link_tool_pack.proofs.Outcomes.{texts_grown, went_on}
use Rattle.link_tool_pack.proofs.packer.PackerBundleConsumer.stop.Goals as goal

pub returns : goal.returns
returns g c = λ before keeps stops.
    let options = c.args._options.now in
    told_known
    (went_on _ _ options (texts_of options) before _ _ _
    (texts_grown options _ _ _ _ stops.numbered) _ _ _
    (c.write_run.ensures.gives _ keeps.cut c.requires.few)) (λ kept. tt)
