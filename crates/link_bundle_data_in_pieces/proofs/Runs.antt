-- The data of a block that a run of the bundle has.
use Rattle.std.proofs.Common.{◌≡◌, ℕ, ◌+◌, ◌-◌, min, ◌≤◌, List, [], ◌++◌, length, drop, length-append, length-take, length-drop, arith}
use Rattle.std.proofs.Math.{ListN.drop_of_length-le, Seq.take-nil}
use Rattle.link_bundle_blocks.specs.declared.block.CanonicalBlock.{CanonicalBlock}
use Rattle.link_bundle.specs.Part.{part_in}
use Rattle.link_bundle.proofs.Parts.{part_more}
use Rattle.link_bundle_data_in_pieces.specs.Found.{data_in}

-- no data of the block has come before
pub data_later : (seen : List ℕ) (block : CanonicalBlock) → length seen ≤ block.data_start
    → data_in seen block ≡ []
data_later seen block after =
    rw (drop_of_length-le seen after) (take-nil block.data_length)

pub data_more : (seen run : List ℕ) (block : CanonicalBlock) (count : ℕ)
    → count ≡ min block.data_length (length seen + length run - block.data_start)
    → data_in (seen ++ run) block
    ≡ data_in seen block ++ part_in run (length seen) block.data_start count
data_more seen run block count all =
    part_more seen run block.data_start block.data_length count
    (omega (
      arith,
      all,
      length-take block.data_length (drop block.data_start (seen ++ run)),
      length-drop block.data_start (seen ++ run),
      length-append seen run,
    ))
