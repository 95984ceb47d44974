-- Relations: what is left to be read of a bundle, at each stage of a scan. The part that the scan
-- is in begins at `start`. These definitions join the code to `judged_bundle`.

use Rattle.std.specs.Bool.{then_some}
use Rattle.std.specs.Prelude.{◌≡◌, ℕ, ◌-◌, ◌==◌, true, List, [], ◌∷◌, ◌++◌, length, unwrap_or, Option, Some, None, Result, Ok, Err, if◌then◌else◌}
use Rattle.link_bundle.specs.declared.{draft.Draft.Draft, stage.ScanStage.ScanStage}
use Rattle.link_bundle.specs.declared.stage.ScanStage.TheVariants.{PrimaryBlock as InPrimaryBlock, BlockHeads, BlockData, CheckField, Break, Ended, Failed}
use Rattle.link_cbor.specs.declared.check.CheckKind.{CheckKind}
use Rattle.link_bundle_heads.specs.Rows.{◌>>=◌, closing}
use Rattle.link_bundle_types.specs.EidView.{viewed_eid}
use Rattle.link_bundle_blocks.specs.declared.block.{CanonicalBlock.CanonicalBlock, PrimaryBlock.PrimaryBlock}
use Rattle.link_bundle_blocks.specs.Reading.{Stop, stopped, row_at}
use Rattle.link_bundle_blocks.specs.Blocks.{Primary, Block, PrimaryOf, CanonicalOf, ended}
use Rattle.link_bundle_blocks.specs.Whole.{whole_primary}
use Rattle.link_bundle_blocks.specs.Bundle.{Bundle, with_payload, with_blocks, info_of, rest_of, blocks_at, if_alone, judged_bundle}

-- the fields of the primary block
abbrev pub primary_of : Draft → Primary
primary_of draft =
    record {
      flags = draft.flags;
      destination = draft.destination;
      source = draft.source;
      report_to = draft.report_to;
      time = draft.time;
      sequence = draft.sequence;
      lifetime = draft.lifetime;
      fragment = draft.fragment;
    }

-- the bytes begin with the primary block of the draft
abbrev pub HasPrimary : Draft → List ℕ → Type 0
HasPrimary draft bytes =
    (read : Option CheckKind × ℕ)
    × (whole_primary bytes ≡ Ok ((primary_of draft, read.0), read.1))

-- the draft with the fields of a primary block that was read
abbrev pub with_primary : Draft → PrimaryBlock → Draft
with_primary draft block = record draft {
  whole = true;
  flags = block.flags;
  destination = viewed_eid block.destination;
  source = viewed_eid block.source;
  report_to = viewed_eid block.report_to;
  time = block.time;
  sequence = block.sequence;
  lifetime = block.lifetime;
  fragment = block.fragment;
  check = block.check;
}

-- The draft with a canonical block whose heads were read. If it is the payload block (type 1), the
-- place of the payload is now known.
abbrev pub with_block : Draft → CanonicalBlock → Draft
with_block draft block = record draft {
  block = block;
  numbers = draft.numbers ++ block.number ∷ [];
  payload_span = then_some (block.block_type == 1) (block.data_start, block.data_length);
}

-- The offset and the length of the payload. If they are not known, they are zeros here. A whole
-- bundle has a payload, so no result shows the zeros.
abbrev pub span_of : Option (ℕ × ℕ) → ℕ × ℕ
span_of payload = unwrap_or payload (0, 0)

-- A whole bundle with the fields of the draft. It ends before `end`. Its blocks are left out.
abbrev pub bundle_of : Draft → ℕ → Bundle
bundle_of draft end =
    let payload = span_of draft.payload_span in
    record {
      info = info_of (primary_of draft) (length draft.numbers) payload.1;
      length = end;
      payload_span = payload;
      blocks = [];
    }

-- the same result, where a stop also has the offset and the length of the payload, if known
abbrev pub with_known_payload : Option (ℕ × ℕ) → Result Bundle Stop → Result Bundle Stop
with_known_payload None reading = reading
with_known_payload (Some payload) reading = with_payload payload reading

-- the canonical block that the scan is in, whose end is not known yet
abbrev pub current : Draft → CanonicalBlock
current draft = record draft.block { end = None }

-- The latest block that ended, with the end `end`. It is the primary block until the heads of a
-- canonical block were read.
abbrev pub last_block : Draft → ℕ → Block
last_block draft end =
    if length draft.numbers == 0 then PrimaryOf (primary_of draft) draft.check end
    else CanonicalOf (ended draft.block end)

-- The latest block that ended, as a list. It is `[]` at a stage that does not begin where a block
-- ends.
abbrev pub stage_last : ScanStage → Draft → ℕ → List Block
stage_last BlockHeads draft start = last_block draft start ∷ []
stage_last Break draft start = last_block draft start ∷ []
stage_last _ draft start = []

-- what is read after a block: the next blocks, or the break if the block was the payload block
abbrev pub block_end : Option (ℕ × ℕ) → List ℕ → Primary → List ℕ → ℕ → Result Bundle Stop
block_end None numbers primary bytes offset =
    blocks_at (64 - length numbers) numbers primary bytes offset
block_end (Some (start, size)) numbers primary bytes offset = do
  (_, end) ← row_at closing bytes offset
  Ok (record {
    info = info_of primary (length numbers) size;
    length = end;
    payload_span = (start, size);
    blocks = [];
  })

-- the bundle that was read, if no byte follows it, or else the fault of trailing bytes
abbrev pub read_alone : List ℕ → Result Bundle Stop → Result Bundle Stop
read_alone bytes reading = do
  bundle ← reading
  if_alone bytes bundle

-- what is read of the bundle after a block that ends before `start`
abbrev pub after_block : Draft → List ℕ → ℕ → Result Bundle Stop
after_block draft bytes start =
    read_alone bytes (with_known_payload draft.payload_span
    (block_end draft.payload_span draft.numbers (primary_of draft) bytes start))

-- What is read of the bundle after the heads of the current block: its data, its check field, and
-- all that follows. It does not matter how much of the block was seen.
abbrev pub in_block : Draft → List ℕ → Result Bundle Stop
in_block draft bytes = read_alone bytes (with_known_payload draft.payload_span do
  (_, end) ← rest_of (current draft) bytes
  with_blocks (CanonicalOf (ended (current draft) end) ∷ [])
      (block_end draft.payload_span draft.numbers (primary_of draft) bytes end))

-- What is read of the bundle from a stage on, without the blocks before. `bytes` are all bytes of
-- the bundle, and the part of the stage begins at `start`.
unfoldable pub stage_left : ScanStage → Draft → ℕ → List ℕ → Result Bundle Stop
stage_left InPrimaryBlock draft start bytes = judged_bundle bytes
stage_left BlockHeads draft start bytes = after_block draft bytes start
stage_left (BlockData left) draft start bytes = in_block draft bytes
stage_left (CheckField kind) draft start bytes = in_block draft bytes
stage_left Break draft start bytes = after_block draft bytes start
stage_left Ended draft start bytes = if_alone bytes (bundle_of draft start)
stage_left (Failed fault at) draft start bytes =
    with_known_payload draft.payload_span (Err (stopped fault at))

-- the block in whose data or check field the bytes end, if they end at this stage; `None` at any
-- other stage
abbrev pub stage_block : ScanStage → Draft → Option CanonicalBlock
stage_block (BlockData left) draft = Some (current draft)
stage_block (CheckField kind) draft = Some (current draft)
stage_block _ draft = None
