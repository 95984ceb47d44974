-- The primary block (RFC 9171 section 4.3.1), and the fields that come before its first fault.

use Rattle.std.specs.Prelude.{ℕ, Bool, true, false, nat_lt, List, Option, Some, None, unwrap_or, Result, Ok, Err, if◌then◌else◌}
use Rattle.link_cbor.specs.declared.check.CheckKind.{CheckKind}
use Rattle.link_bundle_types.specs.declared.eid.Eid.{Eid}
use Rattle.link_bundle_types.specs.declared.eid.Eid.TheVariants.{DtnNone}
use Rattle.link_bundle_heads.specs.Rows.{◌>>=◌, unsigned, pair, primary_block, version, is_fragment, primary_check_type}
use Rattle.link_bundle_blocks.specs.Blocks.{Primary}
use Rattle.link_bundle_blocks.specs.Reading.{Stop, ReadAt, row_at}
use Rattle.link_bundle_blocks.specs.EndpointId.{eid_at}

-- ---- what is known of a block

-- the fields of a primary block that were accepted; the others are 0 or `None`
pub record AcceptedPrimaryFields : Type 0 where
  -- The number of elements of the block's array that were accepted, in their order. These are the
  -- version, the flags, the check type, the destination, the source node, the report-to endpoint,
  -- the creation timestamp and the lifetime, and in a fragment its offset and the total length. The
  -- check value is not counted.
  pub accepted : ℕ
  -- whether the whole block was accepted, its check value too
  pub whole : Bool
  pub flags : ℕ
  pub destination : Option Eid
  pub source : Option Eid
  pub report_to : Option Eid
  pub time : ℕ
  pub sequence : ℕ
  pub lifetime : ℕ
  pub fragment_offset : ℕ
  pub fragment_total : ℕ

-- The number of elements of a primary block's array, without its check value: eight, and two more
-- in a fragment. The argument is the block's field `fragment`.
abbrev pub element_count : Option (ℕ × ℕ) → ℕ
element_count None = 8
element_count (Some fragment) = 10

-- all fields of a whole block
abbrev pub all_fields : Primary → AcceptedPrimaryFields
all_fields block =
    record {
      accepted = element_count block.fragment;
      whole = true;
      flags = block.flags;
      destination = Some block.destination;
      source = Some block.source;
      report_to = Some block.report_to;
      time = block.time;
      sequence = block.sequence;
      lifetime = block.lifetime;
      fragment_offset = (unwrap_or block.fragment (0, 0)).0;
      fragment_total = (unwrap_or block.fragment (0, 0)).1;
    }

-- The fields of a block whose first `count` elements were read. The endpoint IDs of later elements
-- are left out. The other fields of later elements have to be 0 or `None` in `block`.
abbrev pub first_elements : ℕ → Primary → AcceptedPrimaryFields
first_elements count block =
    record (all_fields block) {
      accepted = count;
      whole = false;
      destination = if nat_lt 3 count then Some block.destination else None;
      source = if nat_lt 4 count then Some block.source else None;
      report_to = if nat_lt 5 count then Some block.report_to else None;
    }

-- a block of which nothing was read
abbrev pub no_primary : Primary
no_primary =
    record {
      flags = 0;
      destination = DtnNone;
      source = DtnNone;
      report_to = DtnNone;
      time = 0;
      sequence = 0;
      lifetime = 0;
      fragment = None;
    }

-- ---- how a block is read

-- some elements and the offset after them, or the stop and the fields of the block before it
abbrev pub ElementsOrStop : Type 0 → Type 0
ElementsOrStop A = Result (A × ℕ) (AcceptedPrimaryFields × Stop)

-- The reading of a part of the block. A stop also gets the first `count` elements of the block,
-- which come before this part.
abbrev pub after : {A : Type 0} → ℕ → Primary → ReadAt A → ElementsOrStop A
after count block (Ok read) = Ok read
after count block (Err stop) = Err (first_elements count block, stop)

-- the same reading without the fields before the stop
abbrev pub without_fields : {A : Type 0} → ElementsOrStop A → ReadAt A
without_fields (Ok read) = Ok read
without_fields (Err (fields, stop)) = Err stop

-- The fragment offset and the total length, if the bundle is a fragment, as the `Bool` says.
-- `block` has the elements before them.
unfoldable pub fragment_elements : Bool → Primary → List ℕ → ℕ → ElementsOrStop (Option (ℕ × ℕ))
fragment_elements false block bytes offset = Ok (None, offset)
fragment_elements true block bytes offset = do
  (fragment_offset, offset) ← after 8 block (row_at unsigned bytes offset)
  let block = record block { fragment = Some (fragment_offset, 0) }
  (total, offset) ← after 9 block (row_at unsigned bytes offset)
  Ok (Some (fragment_offset, total), offset)

-- The block up to its check field, and its check type (section 4.3.1). The version, the bundle
-- processing control flags (section 4.2.3) and the check type (section 4.2.1) come first. The
-- endpoint IDs of destination, source and report-to follow (section 4.2.5.1). The creation
-- timestamp (section 4.2.7) has a time (section 4.2.6) and a sequence number. The lifetime and the
-- fields of a fragment come last.
unfoldable pub primary_elements : List ℕ → ℕ → ElementsOrStop (Primary × Option CheckKind)
primary_elements bytes offset = do
  let block = no_primary
  (count, offset) ← after 0 block (row_at primary_block bytes offset)
  (_, offset) ← after 0 block (row_at version bytes offset)
  (flags, offset) ← after 1 block (row_at unsigned bytes offset)
  let block = record block { flags = flags }
  (check, offset) ← after 2 block (row_at (primary_check_type count flags) bytes offset)
  (destination, offset) ← after 3 block (eid_at bytes offset)
  let block = record block { destination = destination }
  (source, offset) ← after 4 block (eid_at bytes offset)
  let block = record block { source = source }
  (report_to, offset) ← after 5 block (eid_at bytes offset)
  let block = record block { report_to = report_to }
  (_, offset) ← after 6 block (row_at pair bytes offset)
  (time, offset) ← after 6 block (row_at unsigned bytes offset)
  (sequence, offset) ← after 6 block (row_at unsigned bytes offset)
  let block = record block { time = time; sequence = sequence }
  (lifetime, offset) ← after 7 block (row_at unsigned bytes offset)
  let block = record block { lifetime = lifetime }
  (fragment, offset) ← fragment_elements (is_fragment flags) block bytes offset
  Ok ((record block { fragment = fragment }, check), offset)

-- ---- the same without the fields before a stop

-- The two numbers of a fragment and the offset after them, or the stop. If `is_fragment` is false,
-- there are no numbers, and nothing is read. The fields that were read before a stop are dropped.
unfoldable pub fragment_at : Bool → List ℕ → ℕ → ReadAt (Option (ℕ × ℕ))
fragment_at is_fragment bytes offset =
    without_fields (fragment_elements is_fragment no_primary bytes offset)

-- the primary block up to its check field, and its check type
unfoldable pub primary_at : List ℕ → ℕ → ReadAt (Primary × Option CheckKind)
primary_at bytes offset = without_fields (primary_elements bytes offset)
