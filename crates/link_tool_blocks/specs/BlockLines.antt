-- The lines of the blocks of a bundle.
use Rattle.std.specs.Prelude.{ℕ, List, [], ◌∷◌, ◌++◌}
use Rattle.link_bundle_blocks.specs.Blocks.{Block, PrimaryOf, CanonicalOf}
use Rattle.link_bundle_blocks.specs.Bundle.{blocks_in}
use Rattle.link_report_blocks.specs.Blocks.{primary_text, block_text}
use Rattle.link_bundle_data_in_pieces.specs.Found.{found_in, flags_after}

-- The line of a block, whose first word is `id`. `flags` are those of the bundle's primary block.
-- The line of the primary block itself does not use them.
abbrev pub block_line : (id flags : ℕ) → (content : List ℕ) → Block → List ℕ
block_line id flags content (PrimaryOf primary check end) = primary_text id primary check end
block_line id flags content (CanonicalOf block) = block_text id block (found_in flags content block)

-- The lines of blocks, one after another. `flags` are the flags of the bundle before these blocks.
-- A primary block among them sets the flags for the blocks after it.
abbrev pub lines_from : (id flags : ℕ) → (content : List ℕ) → List Block → List ℕ
lines_from id flags content [] = []
lines_from id flags content (block ∷ rest) =
    block_line id flags content block ++ lines_from id (flags_after flags block) content rest

-- The lines of the whole blocks in the content, even if the content is no bundle. The flags 0 have
-- no effect, since the first block is the primary block, and its line does not use them.
unfoldable pub block_lines : (id : ℕ) → (content : List ℕ) → List ℕ
block_lines id content = lines_from id 0 content (blocks_in content)
