use Rattle.std.proofs.Common.{◌≡◌, ◌++◌, ap, sym, append-nil}
use Rattle.link_bundle_blocks.specs.Bundle.{blocks_in}
use Rattle.link_run.specs.Writers.{on_output}
use Rattle.link_run_over_bundle_files.proofs.Told.{told_none}
use Rattle.link_run_over_bundle_files.proofs.blocks.tell_run.Goals as goal

pub returns-in-None-clause-gives : goal.returns-in-None-clause-gives
returns-in-None-clause-gives g c = λ seen before goes come grown reading knows.
    let run = c.args.run.now in
    let same : blocks_in (seen ++ run) ≡ blocks_in seen =
    rw (sym c.in-None.ensures.block, append-nil) at grown in
    let steady = g.met.C.BlockConsumer.steady c.args.number c.args.options.now c.args.consumer.now
    seen run same in
    told_none (ap on_output (sym steady.0))
    (c.follow_cut.ensures.reads seen before reading goes come same, steady.1 knows)
