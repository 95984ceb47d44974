-- The blocks of a bundle (RFC 9171 section 4.1).

use Rattle.std.specs.Prelude.{ℕ, ◌+◌, ◌≤◌, List, [], ◌∷◌, Option, None, Some, IfSome}
use Rattle.link_cbor.specs.declared.check.CheckKind.{CheckKind}
use Rattle.link_bundle_types.specs.declared.eid.Eid.{Eid}
use Rattle.link_bundle_types.specs.EidView.{viewed_eid}
use Rattle.link_bundle_types.specs.ShortNames.{HasNoLongName}
use Rattle.link_bundle_blocks.specs.declared.block.BlockView.{BlockView}
use Rattle.link_bundle_blocks.specs.declared.block.BlockView.TheVariants as view
use Rattle.link_bundle_blocks.specs.declared.block.CanonicalBlock.{CanonicalBlock}
use Rattle.link_bundle_blocks.specs.declared.block.PrimaryBlock.{PrimaryBlock}

-- the fields of the primary block (section 4.3.1) that are kept
pub record Primary : Type 0 where
  pub flags : ℕ
  pub destination : Eid
  pub source : Eid
  pub report_to : Eid
  pub time : ℕ
  pub sequence : ℕ
  pub lifetime : ℕ
  -- the fragment offset and the total length
  pub fragment : Option (ℕ × ℕ)

-- a block
pub data Block : Type 0 where
  -- the primary block: its fields, the kind of its check, and the offset after it
  PrimaryOf : Primary → Option CheckKind → ℕ → Block
  -- a canonical block (section 4.3.2)
  CanonicalOf : CanonicalBlock → Block

-- a canonical block that ends before this offset
abbrev pub ended : CanonicalBlock → ℕ → CanonicalBlock
ended block offset = record block { end = Some offset }

-- the primary block that a view shows
abbrev pub viewed_primary : PrimaryBlock → Primary
viewed_primary view =
    record {
      flags = view.flags;
      destination = viewed_eid view.destination;
      source = viewed_eid view.source;
      report_to = viewed_eid view.report_to;
      time = view.time;
      sequence = view.sequence;
      lifetime = view.lifetime;
      fragment = view.fragment;
    }

-- the block that a view shows
abbrev pub viewed_block : BlockView → Block
viewed_block (view.Primary block) = PrimaryOf (viewed_primary block) block.check block.end
viewed_block (view.Canonical block) = CanonicalOf block

-- the block that a view shows, as a list; `[]` if there is no view
abbrev pub viewed_blocks : Option BlockView → List Block
viewed_blocks None = []
viewed_blocks (Some view) = viewed_block view ∷ []

-- the dtn names of a primary block have at most 1,024 bytes each
pub record HasShortEids (primary : Primary) : Type 0 where
  pub destination : HasNoLongName primary.destination
  pub source : HasNoLongName primary.source
  pub report_to : HasNoLongName primary.report_to

-- if this is a primary block, its dtn names have at most 1,024 bytes each
abbrev pub IfPrimaryHasShortEids : Block → Type 0
IfPrimaryHasShortEids (PrimaryOf primary check end) = HasShortEids primary
IfPrimaryHasShortEids (CanonicalOf block) = Unit {0}

-- The canonical block that comes next: the first of the blocks, without its end. If there are none,
-- it is `cut`, the block that the bytes cut short. The result is `None` if the primary block is
-- next.
abbrev pub next_of : List Block → Option CanonicalBlock → Option CanonicalBlock
next_of [] cut = cut
next_of (PrimaryOf primary check end ∷ rest) cut = None
next_of (CanonicalOf block ∷ rest) cut = Some (record block { end = None })

-- the block and its data end within that many bytes
abbrev pub LiesWithin : ℕ → Block → Type 0
LiesWithin count (PrimaryOf primary check end) = end ≤ count
LiesWithin count (CanonicalOf block) =
    (block.data_start + block.data_length ≤ count) × IfSome block.end (λ end. end ≤ count)
