use Rattle.std.proofs.Common.{length-append, arith}
use Rattle.link_bundle_blocks.specs.Blocks.{viewed_block}
use Rattle.link_run_over_bundle_files.proofs.Told.{told_known, read_data}
use Rattle.link_run_over_bundle_files.proofs.blocks.tell_block.Goals as goal

pub returns-clause-gives : goal.returns-clause-gives
returns-clause-gives g c = λ seen before goes come grown reading knows.
    let run = c.args.run.now in
    let block = viewed_block c.args.block.now in
    let read = c.follow.ensures.reads seen before reading goes come grown in
    told_known (c.block.ensures seen run knows goes (rw c.requires.ended at grown)
    (omega (arith, before, length-append seen run)) (record {
      reading = read;
      whole = read_data _ _ block (λ canonical is.
          c.follow.ensures.whole seen canonical before reading goes grown (rw is at c.requires.ended));
    })) (λ known. (read, known))
