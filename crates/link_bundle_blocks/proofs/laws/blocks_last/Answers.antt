use Rattle.link_bundle_blocks.proofs.Lying.{BlocksWithin-holds}
use Rattle.link_bundle_blocks.proofs.Showing.{BlocksGrow-holds, NoBlocksAfterBundleEnd-holds, NextBlockIsCutOrLater-holds}
use Rattle.link_bundle_blocks.proofs.laws.blocks_last.Goals as goal

pub returns : goal.returns
returns c = record {
  grow = BlocksGrow-holds;
  end = NoBlocksAfterBundleEnd-holds;
  within = BlocksWithin-holds;
  placed = NextBlockIsCutOrLater-holds;
}
