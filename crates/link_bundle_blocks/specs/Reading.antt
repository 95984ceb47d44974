-- How the parts of a bundle are read at offsets of a whole list of bytes. `next` is the offset
-- after a part.

use Rattle.std.specs.Prelude.{ℕ, ◌+◌, nat_lt, List, [], length, take, drop, Option, None, Result, Ok, Err, if◌then◌else◌}
use Rattle.link_cbor.specs.declared.head.Head.{Head}
use Rattle.link_cbor.specs.Head.{HeadFront, Cut as CutHead, IllFormed, Whole, head_front}
use Rattle.link_bundle_types.specs.declared.fault.BundleFault.{BundleFault}
use Rattle.link_bundle_types.specs.declared.fault.BundleFault.TheVariants.{Cut, BadHead}
use Rattle.link_bundle_heads.specs.Rows.{◌>>=◌}
use Rattle.link_bundle_blocks.specs.declared.block.CanonicalBlock.{CanonicalBlock}
use Rattle.link_bundle_blocks.specs.Blocks.{Block}

-- Where a reading ends, and why: the fault and its offset.
pub record Stop : Type 0 where
  pub fault : BundleFault
  pub offset : ℕ
  -- the offset and the length of the payload, if the head of its data was accepted before
  pub payload_span : Option (ℕ × ℕ)
  -- the whole blocks before the fault
  pub blocks : List Block
  -- the block in whose data or check field the bytes end
  pub cut_block : Option CanonicalBlock

-- the fault alone, when no block and no payload was read before it
abbrev pub stopped : BundleFault → ℕ → Stop
stopped fault offset =
    record { fault = fault; offset = offset; payload_span = None; blocks = []; cut_block = None }

-- a part that begins at an offset and the offset after it, or the stop
abbrev pub ReadAt : Type 0 → Type 0
ReadAt A = Result (A × ℕ) Stop

-- the fault of missing bytes, whose offset is the number of bytes that there are
abbrev pub cut_short : {A : Type 0} → List ℕ → Result A Stop
cut_short bytes = Err (stopped Cut (length bytes))

-- The head at an offset, or the stop. The third argument is what the bytes from the offset on begin
-- with.
abbrev pub head_by : List ℕ → ℕ → HeadFront → ReadAt Head
head_by bytes offset CutHead = cut_short bytes
head_by bytes offset IllFormed = Err (stopped BadHead offset)
head_by bytes offset (Whole head size) = Ok (head, offset + size)

-- the head at an offset (RFC 8949 section 3)
unfoldable pub head_at : List ℕ → ℕ → ReadAt Head
head_at bytes offset = head_by bytes offset (head_front (drop offset bytes))

-- The outcome of judging a head, with an offset. The head begins at `offset`, and `next` is the
-- offset after it. A value gets `next`, and a fault gets `offset`.
abbrev pub outcome_at : {A : Type 0} → ℕ → ℕ → Result A BundleFault → ReadAt A
outcome_at offset next (Ok value) = Ok (value, next)
outcome_at offset next (Err fault) = Err (stopped fault offset)

-- the head at an offset, judged by `row`, such as a function of link_bundle_heads
unfoldable pub row_at : {A : Type 0} → (Head → Result A BundleFault) → List ℕ → ℕ → ReadAt A
row_at row bytes offset = do
  (head, next) ← head_at bytes offset
  outcome_at offset next (row head)

-- `count` bytes from an offset on
unfoldable pub bytes_at : ℕ → List ℕ → ℕ → ReadAt (List ℕ)
bytes_at count bytes offset =
    if nat_lt (length bytes) (offset + count) then cut_short bytes
    else Ok (take count (drop offset bytes), offset + count)
