use Rattle.std.proofs.Common.{ap, ◌∙◌}
use Rattle.link_run_over_bundle_files.proofs.Told.{told_known}
use Rattle.link_tool_pack.specs.{More.id_at, MoreRun.more_texts_of}
use Rattle.link_tool_pack.proofs.{MoreOutcomes.texts_grown, Outcomes.went_on}
use Rattle.link_tool_pack.proofs.more.MorePackerBundleConsumer.stop.Goals as goal

pub returns : goal.returns
returns g c = λ before keeps stops.
    let options = c.args.options.now in
    told_known
    (went_on _ _ options.pack (more_texts_of options) before _ _ _
    (texts_grown options _ _ _ _ (c.id_of-id.ensures ∙ ap (id_at options) stops.numbered)) _ _ _
    (c.write_run.ensures.gives _ keeps.cut c.requires.few)) (λ kept. tt)
