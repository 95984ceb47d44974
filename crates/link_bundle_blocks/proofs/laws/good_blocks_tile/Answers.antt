use Rattle.link_bundle_blocks.proofs.Tiling.{GoodBlocksTile-holds}
use Rattle.link_bundle_blocks.proofs.laws.good_blocks_tile.Goals as goal

pub returns : goal.returns
returns c = GoodBlocksTile-holds
