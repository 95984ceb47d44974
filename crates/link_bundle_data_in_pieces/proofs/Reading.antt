-- What a reader of block data has read after more bytes.
use Rattle.std.proofs.Common.{◌≡◌, ℕ, ◌+◌, ◌<◌, ◌≤◌, false, true, Bool, ◌==◌, List, [], ◌∷◌, ◌++◌, length, Option, Some, None, fold, All, refl, sym, ◌∙◌, ⊎_elim, if◌then◌else◌, arith}
use Rattle.std.proofs.lemmas.{Bool.false≢true, Grind.fold-append}
use Rattle.link_bundle_blocks.specs.Blocks.{Block, CanonicalOf, LiesWithin, next_of}
use Rattle.link_bundle_blocks.specs.Bundle.{judged_bundle, bundle_at, opening_at, bundle_goes, blocks_in, cut_block_in}
use Rattle.link_bundle.specs.Scan.{HasScanned, ending}
use Rattle.link_bundle_blocks.specs.declared.block.CanonicalBlock.{CanonicalBlock}
use Rattle.link_bundle.specs.declared.scan.BundleScan.{BundleScan}
use Rattle.link_bundle_blocks.proofs.Lying.{BlocksWithin-holds}
use Rattle.link_bundle_blocks.proofs.Showing.{NoBlocksAfterBundleEnd-holds, NextBlockIsCutOrLater-holds}
use Rattle.link_bundle.proofs.Verdicts.{no_cut}
use Rattle.link_bundle_data_in_pieces.specs.{Found.flags_after, DataReader.{IsDataReaderAt, IsDataReaderIn}}
use Rattle.link_bundle_data_in_pieces.specs.declared.data.DataReader.{DataReader}
use Rattle.link_bundle_data_in_pieces.proofs.Grown.{all_first, all_rest, goes_stops, no_blocks}

-- ---- before a run

-- the reader has read what comes before a run of the next block's data
pub placed : (reader : DataReader) (seen run : List ℕ) (new : List Block) (block : CanonicalBlock)
    → IsDataReaderAt reader seen → bundle_goes seen ≡ true
    → blocks_in (seen ++ run) ≡ blocks_in seen ++ new
    → next_of new (cut_block_in (seen ++ run)) ≡ Some block → block.data_start < length seen
    → IsDataReaderIn reader seen block
placed reader seen run new block reading goes grown comes before =
    ⊎_elim
    (λ (cut : cut_block_in seen ≡ Some block). reading.at_cut goes block cut)
    (λ (after : length seen ≤ block.data_start). absurd (omega arith))
    (NextBlockIsCutOrLater-holds seen run new block grown comes)

-- ---- after a run

flags_more : (flags : ℕ) (seen run : List ℕ) (new : List Block)
    → flags ≡ fold flags_after 0 (blocks_in seen)
    → blocks_in (seen ++ run) ≡ blocks_in seen ++ new
    → fold flags_after flags new ≡ fold flags_after 0 (blocks_in (seen ++ run))
flags_more flags seen run new is grown =
    rw (is, grown, fold-append) refl

-- a block has ended with the run
pub read_whole : (reader : DataReader) (scan : BundleScan) (flags : ℕ) (seen run : List ℕ)
    (block : Block) → flags ≡ fold flags_after 0 (blocks_in seen)
    → HasScanned scan (seen ++ run) → blocks_in (seen ++ run) ≡ blocks_in seen ++ ending scan
    → ending scan ≡ block ∷ [] → reader.flags ≡ flags_after flags block
    → IsDataReaderAt reader (seen ++ run)
read_whole reader scan flags seen run block was come grown ends is = record {
  flags = is ∙ flags_more flags seen run _ was (rw ends at grown);
  at_cut = λ goes cut_block cut.
      absurd (none_some cut_block (sym (no_cut scan (seen ++ run) block come ends) ∙ cut));
}
  where
    none_some : (some : CanonicalBlock) → ◌≡◌ {A = Option CanonicalBlock} None (Some some) → ⊥
    none_some some is = cc

-- no block has ended with the run; one is cut, or none
pub read_on : (reader : DataReader) (flags : ℕ) (seen run : List ℕ)
    → flags ≡ fold flags_after 0 (blocks_in seen)
    → blocks_in (seen ++ run) ≡ blocks_in seen ++ []
    → reader.flags ≡ flags
    → ((block : CanonicalBlock) → cut_block_in (seen ++ run) ≡ Some block
    → IsDataReaderIn reader (seen ++ run) block)
    → IsDataReaderAt reader (seen ++ run)
read_on reader flags seen run was grown is at_cut = record {
  flags = is ∙ flags_more flags seen run [] was grown;
  at_cut = λ goes block cut. at_cut block cut;
}

-- no more blocks come
pub read_end : (reader : DataReader) (content more : List ℕ) → IsDataReaderAt reader content
    → bundle_goes content ≡ false → IsDataReaderAt reader (content ++ more)
read_end reader content more reading stops = record {
  flags = rw (NoBlocksAfterBundleEnd-holds content more stops) reading.flags;
  at_cut = λ goes block cut. absurd (false≢true (sym (goes_stops content more stops) ∙ goes));
}

pub none_cut : (block : CanonicalBlock) → cut_block_in [] ≡ Some block → ⊥
unfolding cut_block_in judged_bundle bundle_at opening_at
none_cut block cut = cc

-- nothing is read of no bundle
pub read_none : (reader : DataReader) → reader.flags ≡ 0
    → ((block : CanonicalBlock) → cut_block_in [] ≡ Some block → ⊥) → IsDataReaderAt reader []
read_none reader is none = record {
  flags = rw no_blocks is;
  at_cut = λ goes block cut. absurd (none block cut);
}

-- ---- the last of the whole blocks

last_of : {A : Type 0} (P : A → Type 0) (xs : List A) (x : A) → All P (xs ++ x ∷ []) → P x
last_of P [] x all = all_first P x [] all
last_of P (y ∷ xs) x all = last_of P xs x (all_rest P y (xs ++ x ∷ []) all)

pub lies_within : (seen : List ℕ) (earlier : List Block) (block : CanonicalBlock)
    → blocks_in seen ≡ earlier ++ CanonicalOf block ∷ []
    → block.data_start + block.data_length ≤ length seen
lies_within seen earlier block is =
    (last_of (LiesWithin (length seen)) earlier (CanonicalOf block)
    (rw is at (BlocksWithin-holds seen))).0
