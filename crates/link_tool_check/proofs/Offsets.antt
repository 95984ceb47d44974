-- Offsets in a block's data, counted from the start of the bundle, have 64 bits.

use Rattle.std.proofs.Common.{ℕ, ◌+◌, ◌^◌, ◌≤◌, ◌<◌, Option, Some, None, Result, Ok, Err, arith}
use Rattle.std.specs.Prelude.{IfSome}
use Rattle.link_bundle_blocks.specs.declared.block.CanonicalBlock.{CanonicalBlock}
use Rattle.link_bundle_data.specs.BlockData.{BlockData}
use Rattle.link_bundle_data.specs.declared.values.DataFault.{DataFault}
use Rattle.link_report_blocks.specs.Fits.{WordsFit}
use Rattle.link_bundle_rules.specs.BundleFacts.{malformed_at, long_head_at}

-- the offset of malformed data has 64 bits
pub malformed_fits : (block : CanonicalBlock) (found : Option (Result BlockData DataFault))
    → WordsFit block.data_start found
    → IfSome (malformed_at block found) (λ byte. byte < 2 ^ 64)
malformed_fits block None fits = tt
malformed_fits block (Some (Ok said)) fits = tt
malformed_fits block (Some (Err fault)) fits = fits

-- so has that of a long head
pub long_fits : (block : CanonicalBlock) (size : ℕ) (long : Option ℕ)
    → IfSome long (λ at. at ≤ size) → block.data_start + size < 2 ^ 64
    → IfSome (long_head_at block long) (λ byte. byte < 2 ^ 64)
long_fits block size None within less = tt
long_fits block size (Some at) within less = omega (arith, within, less)
