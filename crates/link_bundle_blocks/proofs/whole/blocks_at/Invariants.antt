use Rattle.std.proofs.Common.{◌≡◌, ◌-◌, List, [], length}
use Rattle.link_bundle_blocks.specs.{Blocks.{Primary, Block}, Bundle.{with_blocks, blocks_at}}
use Rattle.link_bundle_blocks.proofs.whole.blocks_at.Given as goal

abbrev pub invariant-loop-block : goal.invariant-loop-block
invariant-loop-block l = record {
  reads : (done : List Block) × ((primary : Primary)
      → blocks_at 64 [] primary l.bytes l.fn.offset
      ≡ with_blocks done (blocks_at (64 - length l.numbers) l.numbers primary l.bytes l.start));
}

abbrev pub decreases-loop-block : goal.decreases-loop-block
decreases-loop-block l = 64 - length l.numbers
