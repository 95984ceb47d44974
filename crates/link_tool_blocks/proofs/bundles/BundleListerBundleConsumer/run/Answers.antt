use Rattle.std.proofs.Common.{sym, refl}
use Rattle.link_bundle_types.specs.BundleView.{viewed_info}
use Rattle.link_run_over_bundle_files.proofs.Told.{told_known}
use Rattle.link_tool_blocks.proofs.BundleTexts.{told_on, told_lost, told_whole}
use Rattle.link_tool_blocks.proofs.bundles.BundleListerBundleConsumer.run.Goals as goal

pub returns-in_default-clause-gives : goal.returns-in_default-clause-gives
returns-in_default-clause-gives g c = λ before reading. rw c.in_default.is (λ comes.
    let told = c.tell_run-written.ensures.gives before.begun (sym comes.placed) comes.opened.goes
    comes.scanned (comes.blocks refl) reading tt in
    told_on before _ _ comes.numbered (told_known told (λ known. known.0)))

pub returns-in-Err-clause-gives : goal.returns-in-Err-clause-gives
returns-in-Err-clause-gives g c = λ before reading. rw c.in-Some.is (λ comes.
    told_lost before _ _ comes.numbered (viewed_info c.in-Some.whole.info)
    (c.in-Err.ensures.gives before.begun (sym comes.placed) comes.opened.goes
    comes.scanned (comes.blocks refl) reading tt))

pub returns-in-Ok-clause-gives : goal.returns-in-Ok-clause-gives
returns-in-Ok-clause-gives g c = λ before reading. rw c.in-Some.is (λ comes.
    told_whole before _ _ comes.numbered (viewed_info c.in-Some.whole.info)
    (c.in-Ok.ensures.gives before.begun (sym comes.placed) comes.opened.goes
    comes.scanned (comes.blocks refl) reading tt)
    (rw comes.accepted.1 at c.write_end.ensures) c.restart.ensures.reads)
