-- The law of the writers of bundles: at most 64 canonical blocks with distinct numbers, the payload
-- block last, make a good bundle (RFC 9171 section 4.1), and describing it gives the fields back.
use Rattle.std.specs.Prelude.{◌≡◌, ◌==◌, ℕ, ◌+◌, ◌^◌, ◌<◌, true, List, [], ◌∷◌, ◌++◌, map, length, Option, Some, Ok, IfSome}
use Rattle.std.specs.List.{All, IsDistinct}
use Rattle.link_cbor.specs.declared.check.CheckKind.{CheckKind}
use Rattle.link_bundle_heads.specs.Rows.{fits_type}
use Rattle.link_bundle_blocks.specs.Blocks.{Primary, Block, PrimaryOf, CanonicalOf}
use Rattle.link_bundle_blocks.specs.Bundle.{verdict, info_of, payload_in, blocks_in}
use Rattle.link_bundle_blocks.specs.Primary.{all_fields}
use Rattle.link_bundle_blocks.specs.PrimaryFields.{primary_fields}
use Rattle.link_bundle_writer.specs.EndpointIds.{EidFits}
use Rattle.link_bundle_writer.specs.NewBlocks.{primary_is_writable, primary_bytes, block_head}
use Rattle.link_bundle_writer.specs.NewBundles.{NewBlock, block_bytes, bundle_bytes}

-- ---- what is written

-- each number of a primary block fits in 64 bits
pub record PrimaryFits (primary : Primary) : Type 0 where
  pub flags : primary.flags < 2 ^ 64
  pub destination : EidFits primary.destination
  pub source : EidFits primary.source
  pub report_to : EidFits primary.report_to
  pub time : primary.time < 2 ^ 64
  pub sequence : primary.sequence < 2 ^ 64
  pub lifetime : primary.lifetime < 2 ^ 64
  pub fragment : IfSome primary.fragment
      (λ (offset, total). (offset < 2 ^ 64) × (total < 2 ^ 64))

-- The type, the number and the flags of a canonical block fit in 64 bits, and so does the length of
-- its data. The number agrees with the type.
pub record BlockFits (block : NewBlock) : Type 0 where
  pub type : block.type < 2 ^ 64
  pub number : block.number < 2 ^ 64
  pub flags : block.flags < 2 ^ 64
  pub size : length block.content < 2 ^ 64
  -- Only the payload block (type 1) has number 1, and it has no other. No block has number 0.
  pub fits : fits_type block.type block.number ≡ true

-- canonical blocks before the payload block, and the payload block
abbrev pub all_blocks : (others : List NewBlock) (payload : NewBlock) → List NewBlock
all_blocks others payload = others ++ payload ∷ []

-- what `BundleReadsBack` asks of a primary block and of the blocks after it
pub record IsWellFormed (primary : Primary) (others : List NewBlock)
    (payload : NewBlock) : Type 0 where
  pub fits : PrimaryFits primary
  -- flag 01 says whether the bundle is a fragment, and dtn names have at most 1,024 bytes
  pub writable : primary_is_writable primary ≡ true
  pub blocks : All BlockFits (all_blocks others payload)
  pub distinct : IsDistinct ◌==◌ (map (λ (block : NewBlock). block.number) (all_blocks others payload))
  -- with the payload block, at most 64 canonical blocks: a scan accepts no more
  pub few : length others < 64
  -- The last block is the payload block, so its number is 1 (`blocks`). No other block has number 1
  -- (`distinct`), so there is no other payload block.
  pub last : payload.type ≡ 1

-- ---- what is read

-- the blocks as they are found in the bundle, the first of them at this offset
unfoldable pub blocks_from : (start : ℕ) → List NewBlock → List Block
blocks_from start [] = []
blocks_from start (block ∷ more) =
    CanonicalOf (record {
      start = start;
      block_type = block.type;
      number = block.number;
      flags = block.flags;
      check = block.check;
      data_start = start + length (block_head block.type block.number block.flags block.check
          (length block.content));
      data_length = length block.content;
      end = Some (start + length (block_bytes block));
    }) ∷ blocks_from (start + length (block_bytes block)) more

-- the bytes are a good bundle, with this payload, these fields and these blocks
pub record IsReadBack (primary : Primary) (check : Option CheckKind) (others : List NewBlock)
    (payload : NewBlock) (bytes : List ℕ) : Type 0 where
  pub good : verdict bytes
      ≡ Ok (info_of primary (length (all_blocks others payload)) (length payload.content))
  pub content : payload_in bytes ≡ payload.content
  pub fields : primary_fields bytes ≡ all_fields primary
  pub blocks : blocks_in bytes
      ≡ PrimaryOf primary check (1 + length (primary_bytes primary check))
      ∷ blocks_from (1 + length (primary_bytes primary check)) (all_blocks others payload)

-- A law: a well-formed bundle is a good one, and what is read of it is what it was written from.
abbrev pub BundleReadsBack : Type 0
BundleReadsBack =
    (primary : Primary) (check : Option CheckKind) (others : List NewBlock) (payload : NewBlock) →
    IsWellFormed primary others payload →
    IsReadBack primary check others payload
    (bundle_bytes primary check (all_blocks others payload))
