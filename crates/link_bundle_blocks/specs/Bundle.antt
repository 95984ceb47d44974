-- Bundles (RFC 9171 section 4.1), and the verdict on a list of bytes.

use Rattle.std.specs.Prelude.{ℕ, zero, suc, ◌+◌, ◌==◌, Bool, true, false, List, [], ◌∷◌, ◌++◌, length, take, drop, Option, Some, None, Result, Ok, Err, if◌then◌else◌}
use Rattle.link_bundle_types.specs.declared.fault.BundleFault.{BundleFault}
use Rattle.link_bundle_types.specs.declared.fault.BundleFault.TheVariants.{NotABundle, Trailing}
use Rattle.link_bundle_types.specs.declared.fault.State.{State}
use Rattle.link_bundle_types.specs.declared.fault.State.TheVariants as state
use Rattle.link_bundle_types.specs.declared.info.BundleInfo.{BundleInfo}
use Rattle.link_bundle_types.specs.Faults.{lasts}
use Rattle.link_bundle_heads.specs.Rows.{◌>>=◌, block_too_many, closing}
use Rattle.link_bundle_blocks.specs.declared.block.CanonicalBlock.{CanonicalBlock}
use Rattle.link_bundle_blocks.specs.Reading.{ReadAt, Stop, stopped, cut_short, row_at}
use Rattle.link_bundle_blocks.specs.CheckField.{field_at}
use Rattle.link_bundle_blocks.specs.Primary.{primary_at}
use Rattle.link_bundle_blocks.specs.Blocks.{Primary, Block, PrimaryOf, CanonicalOf, ended}
use Rattle.link_bundle_blocks.specs.Canonical.{heads_at, content_at}

-- a whole bundle and its length
pub record Bundle : Type 0 where
  pub info : BundleInfo
  pub length : ℕ
  -- the offset and the length of the payload; `info` has the length alone
  pub payload_span : ℕ × ℕ
  pub blocks : List Block

-- the same result; a stop also gets `payload`, the offset and the length of the payload
abbrev pub with_payload : {A : Type 0} → ℕ × ℕ → Result A Stop → Result A Stop
with_payload payload (Ok value) = Ok value
with_payload payload (Err stop) = Err (record stop { payload_span = Some payload })

-- the same result, with these blocks before its own
abbrev pub with_blocks : List Block → Result Bundle Stop → Result Bundle Stop
with_blocks blocks (Ok bundle) = Ok (record bundle { blocks = blocks ++ bundle.blocks })
with_blocks blocks (Err stop) = Err (record stop { blocks = blocks ++ stop.blocks })

-- the block, if the reading stopped in it because the bytes end; `None` at any other fault
abbrev pub cut_in : BundleFault → CanonicalBlock → Option CanonicalBlock
cut_in fault block = if lasts fault then None else Some block

-- The same reading of the block's data and check field. A stop also gets the block, if it stopped
-- because the bytes end.
abbrev pub inside : CanonicalBlock → ReadAt Bool → ReadAt Bool
inside block (Ok read) = Ok read
inside block (Err stop) = Err (record stop { cut_block = cut_in stop.fault block })

-- the fields of a bundle with `blocks` canonical blocks and a payload of `size` bytes
abbrev pub info_of : Primary → ℕ → ℕ → BundleInfo
info_of primary blocks size =
    record {
      flags = primary.flags;
      destination = primary.destination;
      source = primary.source;
      report_to = primary.report_to;
      time = primary.time;
      sequence = primary.sequence;
      lifetime = primary.lifetime;
      fragment = primary.fragment;
      blocks = blocks;
      payload = size;
    }

-- Passes over the data of a canonical block and its check field. The value is always `true`, so
-- only the offset after them counts. If the bytes end in them, the stop gets the block.
abbrev pub rest_of : CanonicalBlock → List ℕ → ReadAt Bool
rest_of block bytes =
    inside block (content_at block.data_length block.check block.start bytes block.data_start)

-- The rest of a bundle, read from the data of `block` on. `block` is the payload block, which is
-- the last. The bundle contains `count` canonical blocks in all.
unfoldable pub payload_at : Primary → ℕ → CanonicalBlock → List ℕ → Result Bundle Stop
payload_at primary count block bytes = with_payload (block.data_start, block.data_length) do
  (_, end) ← rest_of block bytes
  with_blocks (CanonicalOf (ended block end) ∷ []) do
    (_, end) ← row_at closing bytes end
    Ok (record {
      info = info_of primary count block.data_length;
      length = end;
      payload_span = (block.data_start, block.data_length);
      blocks = [];
    })

-- The bundle, read from a canonical block on, up to the payload block, of type 1, and the break.
-- `left` more blocks may come, and `numbers` are the numbers of the blocks before.
unfoldable pub blocks_at : ℕ → List ℕ → Primary → List ℕ → ℕ → Result Bundle Stop
blocks_at zero numbers primary bytes start = do
  -- this is always a fault, so the next line is only there for its type
  (_, offset) ← row_at block_too_many bytes start
  cut_short bytes
blocks_at (suc left) numbers primary bytes start = do
  (block, _) ← heads_at numbers bytes start
  if block.block_type == 1 then payload_at primary (length numbers + 1) block bytes else do
    (_, end) ← rest_of block bytes
    with_blocks (CanonicalOf (ended block end) ∷ [])
        (blocks_at left (numbers ++ block.number ∷ []) primary bytes end)

-- the first byte, which opens an array of indefinite length; the value is always `true`
unfoldable pub opening_at : List ℕ → ReadAt Bool
opening_at [] = cut_short []
opening_at (first ∷ rest) = if first == 0x9f then Ok (true, 1) else Err (stopped NotABundle 0)

-- the bundle that the bytes begin with
unfoldable pub bundle_at : List ℕ → Result Bundle Stop
bundle_at bytes = do
  (_, start) ← opening_at bytes
  ((primary, check), offset) ← primary_at bytes start
  (_, end) ← field_at check start bytes offset
  with_blocks (PrimaryOf primary check end ∷ []) (blocks_at 64 [] primary bytes end)

-- the bundle, if no byte follows it, or else the fault of trailing bytes
abbrev pub if_alone : List ℕ → Bundle → Result Bundle Stop
if_alone bytes bundle =
    if bundle.length == length bytes then Ok bundle
    else Err (record {
      fault = Trailing;
      offset = bundle.length;
      payload_span = Some bundle.payload_span;
      blocks = bundle.blocks;
      cut_block = None;
    })

-- all of the bytes as a bundle, or the stop at their first fault
unfoldable pub judged_bundle : List ℕ → Result Bundle Stop
judged_bundle bytes = do
  bundle ← bundle_at bytes
  if_alone bytes bundle

-- the verdict alone: the fields of the bundle, or the fault and its offset
abbrev pub verdict_by : Result Bundle Stop → Result BundleInfo (BundleFault × ℕ)
verdict_by (Ok bundle) = Ok bundle.info
verdict_by (Err stop) = Err (stop.fault, stop.offset)

-- the verdict on the bytes: a bundle, or the first fault and its offset
unfoldable pub verdict : List ℕ → Result BundleInfo (BundleFault × ℕ)
verdict bytes = verdict_by (judged_bundle bytes)

-- the whole blocks, also of a reading that stopped
abbrev pub blocks_of : Result Bundle Stop → List Block
blocks_of (Ok bundle) = bundle.blocks
blocks_of (Err stop) = stop.blocks

-- the whole blocks among the bytes, in order, also if the bytes are no bundle
unfoldable pub blocks_in : List ℕ → List Block
blocks_in bytes = blocks_of (judged_bundle bytes)

-- the block in which a reading stopped because the bytes end, if it did
abbrev pub cut_block_of : Result Bundle Stop → Option CanonicalBlock
cut_block_of (Ok bundle) = None
cut_block_of (Err stop) = stop.cut_block

-- the block in whose data or check field the bytes end, or `None` if they end elsewhere
unfoldable pub cut_block_in : List ℕ → Option CanonicalBlock
cut_block_in bytes = cut_block_of (judged_bundle bytes)

-- the offset and the length of the payload, if they are known
abbrev pub payload_of : Result Bundle Stop → Option (ℕ × ℕ)
payload_of (Ok bundle) = Some bundle.payload_span
payload_of (Err stop) = stop.payload_span

-- the bytes from the offset on, at most `size` of them; none if the offset is not known
abbrev pub bytes_of : Option (ℕ × ℕ) → List ℕ → List ℕ
bytes_of None bytes = []
bytes_of (Some (offset, size)) bytes = take size (drop offset bytes)

-- The bytes of the payload that are there, also if the bytes are no bundle. There are none if the
-- head of its data was not accepted.
unfoldable pub payload_in : List ℕ → List ℕ
payload_in bytes = bytes_of (payload_of (judged_bundle bytes)) bytes

-- the offset of a span, with `count` in place of its length
abbrev pub spanned : Option (ℕ × ℕ) → ℕ → Option (ℕ × ℕ)
spanned None count = None
spanned (Some (offset, size)) count = Some (offset, count)

-- the offset of the payload's first byte, and the number of its bytes that are there
unfoldable pub payload_seen : List ℕ → Option (ℕ × ℕ)
payload_seen bytes = spanned (payload_of (judged_bundle bytes)) (length (payload_in bytes))

-- the state of a scan with this verdict: it needs more bytes if those seen end inside a bundle
abbrev pub state_of : Result BundleInfo (BundleFault × ℕ) → State
state_of (Ok info) = state.Ended
state_of (Err (fault, offset)) = if lasts fault then state.Failed fault offset else state.Going

-- whether a scan in this state needs more bytes
abbrev pub is_going : State → Bool
is_going state.Going = true
is_going state.Ended = false
is_going (state.Failed fault offset) = false

-- whether the bytes end inside a bundle
abbrev pub bundle_goes : List ℕ → Bool
bundle_goes seen = is_going (state_of (verdict seen))
