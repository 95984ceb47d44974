-- The blocks before a reading.

use Rattle.std.proofs.Common.{◌≡◌, List, [], ◌++◌, Result, Ok, Err, refl, append_assoc}
use Rattle.link_bundle_blocks.specs.{Blocks.Block, Reading.Stop}
use Rattle.link_bundle_blocks.specs.Bundle.{Bundle, with_blocks, verdict_by, payload_of, blocks_of, cut_block_of}

pub none_before : (reading : Result Bundle Stop) → with_blocks [] reading ≡ reading
none_before (Ok bundle) = refl
none_before (Err stop) = refl

pub both_before : (first second : List Block) (reading : Result Bundle Stop)
    → with_blocks first (with_blocks second reading) ≡ with_blocks (first ++ second) reading
both_before first second (Ok bundle) = rw (append_assoc first second bundle.blocks) refl
both_before first second (Err stop) = rw (append_assoc first second stop.blocks) refl

pub verdict_by-blocks : (blocks : List Block) (reading : Result Bundle Stop)
    → verdict_by (with_blocks blocks reading) ≡ verdict_by reading
verdict_by-blocks blocks (Ok bundle) = refl
verdict_by-blocks blocks (Err stop) = refl

pub payload_of-blocks : (blocks : List Block) (reading : Result Bundle Stop)
    → payload_of (with_blocks blocks reading) ≡ payload_of reading
payload_of-blocks blocks (Ok bundle) = refl
payload_of-blocks blocks (Err stop) = refl

pub blocks_of-blocks : (blocks : List Block) (reading : Result Bundle Stop)
    → blocks_of (with_blocks blocks reading) ≡ blocks ++ blocks_of reading
blocks_of-blocks blocks (Ok bundle) = refl
blocks_of-blocks blocks (Err stop) = refl

pub cut_block_of-blocks : (blocks : List Block) (reading : Result Bundle Stop)
    → cut_block_of (with_blocks blocks reading) ≡ cut_block_of reading
cut_block_of-blocks blocks (Ok bundle) = refl
cut_block_of-blocks blocks (Err stop) = refl
