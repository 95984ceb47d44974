-- Relations: lemmas on the lines of blocks, when more bytes follow.
use Rattle.std.proofs.Common.{◌≡◌, ℕ, List, [], ◌∷◌, ◌++◌, length, fold, All, refl, ap, sym, ◌∙◌, append-nil, append_assoc}
use Rattle.std.proofs.lemmas.Grind.{fold-append}
use Rattle.link_bundle_blocks.specs.Blocks.{Block, PrimaryOf, CanonicalOf, LiesWithin}
use Rattle.link_bundle_blocks.specs.Bundle.{blocks_in}
use Rattle.link_bundle_blocks.proofs.Lying.{BlocksWithin-holds}
use Rattle.link_bundle_blocks.proofs.Showing.{BlocksGrow-holds}
use Rattle.link_bundle_data_in_pieces.specs.Found.{flags_after}
use Rattle.link_bundle_data_in_pieces.proofs.Grown.{all_first, all_rest, data_grown, no_blocks}
use Rattle.link_run_over_bundle_files.specs.Blocks.{HasLastingText}
use Rattle.link_tool_blocks.specs.BlockLines.{block_line, lines_from, block_lines}

-- ---- whole blocks

-- a block that lies in the content keeps its line
line_grown : (id flags : ℕ) (content more : List ℕ) (block : Block)
    → LiesWithin (length content) block
    → block_line id flags (content ++ more) block ≡ block_line id flags content block
line_grown id flags content more (PrimaryOf primary check end) within = refl
line_grown id flags content more (CanonicalOf block) within =
    simp (data_grown content more block within.0)

-- blocks that all lie in the content keep their lines
lines_grown : (id flags : ℕ) (content more : List ℕ) (blocks : List Block)
    → All (LiesWithin (length content)) blocks
    → lines_from id flags (content ++ more) blocks ≡ lines_from id flags content blocks
lines_grown id flags content more [] within = refl
lines_grown id flags content more (block ∷ rest) within =
    let first = all_first (LiesWithin (length content)) block rest within in
    let others = all_rest (LiesWithin (length content)) block rest within in
    rw (
      line_grown id flags content more block first,
      lines_grown id (flags_after flags block) content more rest others,
    ) refl

-- The lines of two lists of blocks, the first before the second. The fold is the flags of the
-- bundle after the first list. The second list begins with them.
lines_both : (id flags : ℕ) (content : List ℕ) (first second : List Block)
    → lines_from id flags content (first ++ second)
    ≡ lines_from id flags content first
    ++ lines_from id (fold flags_after flags first) content second
lines_both id flags content [] second = refl
lines_both id flags content (block ∷ first) second =
    rw (lines_both id (flags_after flags block) content first second, append_assoc) refl

-- ---- more bytes

-- More bytes add the lines of the blocks that they complete. These lines depend on the flags of the
-- bundle. The fold is the flags after the earlier blocks.
pub lines_more : (id : ℕ) (content more : List ℕ) (new : List Block)
    → blocks_in (content ++ more) ≡ blocks_in content ++ new
    → block_lines id (content ++ more)
    ≡ block_lines id content
    ++ lines_from id (fold flags_after 0 (blocks_in content)) (content ++ more) new
unfolding block_lines
lines_more id content more new grown =
    rw (
      grown,
      lines_both id 0 (content ++ more) (blocks_in content) new,
      lines_grown id 0 content more (blocks_in content) (BlocksWithin-holds content),
    ) refl

-- more bytes change no line, and only add lines at the end
pub lines_grow : (id : ℕ) (content more : List ℕ) → HasLastingText (block_lines id) content more
lines_grow id content more =
    let grows = BlocksGrow-holds content more in
    record {
      text = lines_from id (fold flags_after 0 (blocks_in content)) (content ++ more) grows.0;
      is = lines_more id content more grows.0 grows.1;
    }

-- bytes with which no block ends add no line
pub lines_same : (id : ℕ) (content more : List ℕ) → blocks_in (content ++ more) ≡ blocks_in content
    → block_lines id (content ++ more) ≡ block_lines id content
lines_same id content more same =
    lines_more id content more [] (same ∙ sym (append-nil (blocks_in content)))
    ∙ append-nil (block_lines id content)

-- without bytes there are no lines
pub no_lines : (id : ℕ) → block_lines id [] ≡ []
unfolding block_lines
no_lines id = ap (lines_from id 0 []) no_blocks

-- ---- one more block

-- If more bytes complete one block, they add its line. `flags` are the flags of the bundle after
-- this block.
pub line_more : (id flags : ℕ) (content more : List ℕ) (block : Block)
    → flags ≡ fold flags_after 0 (blocks_in (content ++ more))
    → blocks_in (content ++ more) ≡ blocks_in content ++ block ∷ []
    → block_lines id (content ++ more)
    ≡ block_lines id content ++ block_line id flags (content ++ more) block
line_more id flags content more (PrimaryOf primary check end) is grown =
    rw (lines_more id content more _ grown, append-nil) refl
line_more id flags content more (CanonicalOf block) is grown =
    rw (lines_more id content more _ grown, append-nil, is, grown, fold-append) refl
