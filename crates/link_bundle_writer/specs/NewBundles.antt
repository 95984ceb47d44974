-- A whole bundle (RFC 9171 section 4.1), as the writers' bytes one after another.
use Rattle.std.specs.Prelude.{ℕ, List, [], ◌∷◌, ◌++◌, length, Option}
use Rattle.std.specs.List.{flat_map}
use Rattle.link_cbor.specs.declared.check.CheckKind.{CheckKind}
use Rattle.link_bundle_blocks.specs.Blocks.{Primary}
use Rattle.link_bundle_writer.specs.NewBlocks.{primary_bytes, block_head, checked}

-- a canonical block with its data
pub record NewBlock : Type 0 where
  pub type : ℕ
  pub number : ℕ
  pub flags : ℕ
  pub check : Option CheckKind
  pub content : List ℕ

-- the bytes of a canonical block: its head, its data, and its check field if it has one
unfoldable pub block_bytes : NewBlock → List ℕ
block_bytes block =
    checked block.check
    (block_head block.type block.number block.flags block.check (length block.content)
    ++ block.content)

-- a bundle, which is an array of indefinite length: the head of the array (9f), the primary block,
-- canonical blocks, and the break (ff)
unfoldable pub bundle_bytes : Primary → Option CheckKind → List NewBlock → List ℕ
bundle_bytes primary check blocks =
    0x9f ∷ (primary_bytes primary check ++ flat_map block_bytes blocks ++ 0xff ∷ [])
