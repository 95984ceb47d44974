-- No bytes have more than 64 whole canonical blocks.

use Rattle.std.proofs.Common.{ℕ, ◌≤◌, List, [], length}
use Rattle.link_bundle_blocks.specs.Bundle.{blocks_in}
use Rattle.link_bundle_blocks.proofs.{Keeping.bundle_at-keeps, Showing.blocks_judged}

pub few_blocks : (bytes : List ℕ) → length (blocks_in bytes) ≤ 65
few_blocks bytes = rw (blocks_judged bytes) (bundle_at-keeps bytes []).few
