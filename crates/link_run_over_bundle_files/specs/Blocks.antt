-- Relations: what a tool is told of the blocks of a bundle, and what it says of them.
use Rattle.std.specs.Prelude.{◌≡◌, ℕ, List, ◌++◌}
use Rattle.link_bundle_blocks.specs.Blocks.{Block, PrimaryOf, CanonicalOf}
use Rattle.link_bundle_data_in_pieces.specs.DataReader.{IsDataReaderAt, IsDataReaderIn}
use Rattle.link_bundle_data_in_pieces.specs.declared.data.DataReader.{DataReader}

-- The bytes `seen` end with this block, and the reader has read its data. The primary block has no
-- data.
abbrev pub HasReadData : DataReader → (seen : List ℕ) → Block → Type 0
HasReadData reader seen (PrimaryOf primary check end) = Unit {0}
HasReadData reader seen (CanonicalOf block) = IsDataReaderIn reader seen block

-- the reader has read the bytes `seen` of a bundle, which end with this block, and the block's data
pub record HasReadToBlockEnd (reader : DataReader) (seen : List ℕ) (block : Block) : Type 0 where
  pub reading : IsDataReaderAt reader seen
  pub whole : HasReadData reader seen block

-- what a tool writes for more bytes begins with what it writes for fewer
pub record HasLastingText (says : List ℕ → List ℕ) (before more : List ℕ) : Type 0 where
  pub text : List ℕ
  pub is : says (before ++ more) ≡ says before ++ text
