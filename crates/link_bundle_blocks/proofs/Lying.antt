-- The whole blocks lie within the bytes.

use Rattle.link_bundle_blocks.specs.Laws.{BlocksWithin}
use Rattle.link_bundle_blocks.proofs.{Keeping.bundle_at-fits, Showing.blocks_judged}

pub BlocksWithin-holds : BlocksWithin
BlocksWithin-holds bytes = rw (blocks_judged bytes) (bundle_at-fits bytes).blocks
