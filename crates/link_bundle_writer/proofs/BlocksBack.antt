-- Canonical blocks are read as they were written, up to the end of the bundle.
use Rattle.std.proofs.Common.{◌≡◌, ℕ, zero, suc, ◌+◌, ◌<◌, ◌≤◌, true, false, ◌==◌, List, [], ◌∷◌, ◌++◌, map, length, take, drop, All, Option, None, Ok, arith, refl, ap, ◌∙◌, append_assoc, append-nil, length-append, length-drop}
use Rattle.std.specs.List.{AllByRecursion, IsDistinct, flat_map, list_any}
use Rattle.std.proofs.lemmas.Map.Keys.{IsDistinct-head, IsDistinct-tail}
use Rattle.std.proofs.lemmas.{Bool.{eq-eqb, Decides.nat_tests}, List.map_push, List.Elements.{All-head, All-tail}}
use Rattle.std.proofs.Math.Seq.{take-append_seam}
use Rattle.link_cbor.specs.declared.check.CheckKind.{CheckKind}
use Rattle.link_bundle_heads.specs.Rows.{◌>>=◌, unsigned, block as block_row, block_number, block_check_type, block_data, check_elements, closing, fits_type}
use Rattle.link_bundle_blocks.specs.declared.block.CanonicalBlock.{CanonicalBlock}
use Rattle.link_bundle_blocks.specs.Blocks.{Primary, CanonicalOf, ended}
use Rattle.link_bundle_blocks.specs.Bundle.{with_blocks, blocks_at}
use Rattle.link_bundle_blocks.specs.{Canonical.{heads_at, content_at}, Reading.{ReadAt, row_at}}
use Rattle.link_bundle_blocks.specs.Whole.{whole_canonical, bundle_with}
use Rattle.link_bundle_blocks.proofs.{Readings.{payload_read, next_read}, Runs.drop-run}
use Rattle.link_bundle_writer.proofs.There.{EndsThere, within_there, there_then, there_last, there_bytes, regrouped}
use Rattle.link_bundle_writer.proofs.EidsBack.{there_unsigned}
use Rattle.link_bundle_writer.proofs.RowsThere.{there_block, there_number, there_check, there_data, there_closing}
use Rattle.link_bundle_writer.proofs.CheckBack.{field_there}
use Rattle.link_bundle_writer.specs.GoodBundle.{BlockFits, all_blocks, blocks_from}
use Rattle.link_bundle_writer.specs.NewBlocks.{check_bytes, block_head}
use Rattle.link_bundle_writer.specs.NewBundles.{NewBlock, block_bytes}

-- ---- one block

-- the bytes of a block up to its data
abbrev head_of : NewBlock → List ℕ
head_of block =
    block_head block.type block.number block.flags block.check (length block.content)

-- the block as it is found
abbrev found : NewBlock → (start data_start : ℕ) → CanonicalBlock
found block start data_start =
    record {
      start = start;
      block_type = block.type;
      number = block.number;
      flags = block.flags;
      check = block.check;
      data_start = data_start;
      data_length = length block.content;
      end = None;
    }

-- `heads_at` from an offset on, for a block that begins at `start`
abbrev heads_from : (start : ℕ) → List ℕ → List ℕ → ℕ → ReadAt CanonicalBlock
heads_from start numbers bytes offset = do
  (count, offset) ← row_at block_row bytes offset
  (type, offset) ← row_at unsigned bytes offset
  (number, offset) ← row_at (block_number type numbers) bytes offset
  (flags, offset) ← row_at unsigned bytes offset
  (check, offset) ← row_at (block_check_type count) bytes offset
  (size, offset) ← row_at block_data bytes offset
  Ok (
    record {
      start = start;
      block_type = type;
      number = number;
      flags = flags;
      check = check;
      data_start = offset;
      data_length = size;
      end = None;
    },
    offset,
  )

elements_fit : (check : Option CheckKind) → 5 + check_elements check ≤ 6
elements_fit check = grind arith

there_heads : (block : NewBlock) (numbers : List ℕ) (start : ℕ) → BlockFits block
    → list_any (λ earlier. earlier == block.number) numbers ≡ false
    → EndsThere (heads_from start numbers) (λ end. (found block start end, end)) (head_of block)
unfolding block_head
there_heads block numbers start fits new =
    let count = 5 + check_elements block.check in
    let least : 5 ≤ count = omega arith in
    regrouped
    (there_then (row_at block_row) _ (there_block count least (elements_fit block.check))
    (there_then (row_at unsigned) _ (there_unsigned block.type fits.type)
    (there_then (row_at (block_number block.type numbers)) _
    (there_number block.type block.number numbers fits.number fits.fits new)
    (there_then (row_at unsigned) _ (there_unsigned block.flags fits.flags)
    (there_then (row_at (block_check_type count)) _ (there_check block.check)
    (there_last (row_at block_data) _ (there_data (length block.content) fits.size)
    (λ bytes offset. refl)))))))
    (simp append_assoc)

module _ (block : NewBlock) (bytes more : List ℕ) (start : ℕ) (within : start ≤ length bytes)
    (here : drop start bytes ≡ block_bytes block ++ more) where
  -- its head, its data, and the rest
  split : drop start bytes ≡ head_of block ++ (block.content
      ++ (check_bytes block.check (head_of block ++ block.content) ++ more))
  unfolding block_bytes
  split =
      let content = block.content in
      let check = check_bytes block.check (head_of block ++ content) in
      here ∙ append_assoc (head_of block ++ content) check more
      ∙ append_assoc (head_of block) content (check ++ more)

  at_data : drop (start + length (head_of block)) bytes
      ≡ block.content ++ (check_bytes block.check (head_of block ++ block.content) ++ more)
  at_data = drop-run bytes _ (head_of block) start split

  data_there : take (length block.content) (drop (start + length (head_of block)) bytes)
      ≡ block.content
  data_there =
      ap (λ there. take (length block.content) there) at_data ∙ take-append_seam block.content _

  heads_there : (numbers : List ℕ) → BlockFits block
      → list_any (λ earlier. earlier == block.number) numbers ≡ false
      → heads_at numbers bytes start
      ≡ Ok (found block start (start + length (head_of block)), start + length (head_of block))
  unfolding heads_at
  heads_there numbers fits new =
      (there_heads block numbers start fits new).by bytes start _ within split

  content_there : content_at (length block.content) block.check start bytes
      (start + length (head_of block)) ≡ Ok (true, start + length (block_bytes block))
  unfolding content_at block_bytes
  content_there =
      let head = head_of block in
      let after = within_there bytes start head _ within split in
      let there = (there_bytes block.content).by bytes (start + length head) _ after at_data in
      let size : start + length head + length block.content
      ≡ start + length (head ++ block.content) =
      omega (arith, length-append head block.content) in
      let field = field_there block.check start (head ++ block.content) bytes more within here in
      rw (there, size, field) refl

  block_there : (numbers : List ℕ) → BlockFits block
      → list_any (λ earlier. earlier == block.number) numbers ≡ false
      → whole_canonical numbers bytes start
      ≡ Ok (found block start (start + length (head_of block)), start + length (block_bytes block))
  unfolding whole_canonical
  block_there numbers fits new = rw (heads_there numbers fits new, content_there) refl

-- ---- block numbers

-- what holds of all numbers holds of this one
at_seam : (P : ℕ → Type 0) (front : List ℕ) (number : ℕ) (rest : List ℕ)
    → AllByRecursion P (front ++ number ∷ rest) → P number
at_seam P [] number rest all = all.0
at_seam P (other ∷ front) number rest all = at_seam P front number rest all.1

-- no number before this one is equal to it, and none after it
new_number : (front : List ℕ) (number : ℕ) (rest : List ℕ)
    → IsDistinct ◌==◌ (front ++ number ∷ rest)
    → list_any (λ earlier. earlier == number) front ≡ false
new_number [] number rest distinct = refl
new_number (other ∷ front) number rest distinct =
    let all = front ++ number ∷ rest in
    rw (
      at_seam (λ later. (other == later) ≡ false) front number rest
          (IsDistinct-head ◌==◌ other all distinct),
      new_number front number rest (IsDistinct-tail ◌==◌ other all distinct),
    ) refl

other_numbers : (front : List ℕ) (number : ℕ) (rest : List ℕ)
    → IsDistinct ◌==◌ (front ++ number ∷ rest)
    → AllByRecursion (λ later. (number == later) ≡ false) rest
other_numbers [] number rest distinct = IsDistinct-head ◌==◌ number rest distinct
other_numbers (other ∷ front) number rest distinct =
    other_numbers front number rest (IsDistinct-tail ◌==◌ other (front ++ number ∷ rest) distinct)

-- number 1 is that of the payload block
no_payload : (type number last : ℕ) → fits_type type number ≡ true → fits_type 1 last ≡ true
    → (number == last) ≡ false → (type == 1) ≡ false
no_payload type number last fits last_fits differs = grind (arith, nat_tests)

-- ---- all blocks

abbrev numbers_of : List NewBlock → List ℕ
numbers_of blocks = map (λ (block : NewBlock). block.number) blocks

last_fits : (payload : NewBlock) (others : List NewBlock) → All BlockFits (all_blocks others payload)
    → BlockFits payload
last_fits payload [] all = All-head BlockFits payload [] all
last_fits payload (other ∷ others) all =
    last_fits payload others (All-tail BlockFits other (all_blocks others payload) all)

-- the blocks from an offset on are read up to the end of the bytes
pub record BlocksThere (primary : Primary) (payload : NewBlock) (bytes : List ℕ) (left : ℕ)
    (numbers : List ℕ) (others : List NewBlock) (start : ℕ) : Type 0 where
  pub data_start : ℕ
  pub read : blocks_at left numbers primary bytes start
      ≡ Ok (bundle_with primary (length numbers + length (all_blocks others payload))
      (data_start, length payload.content) (length bytes)
      (blocks_from start (all_blocks others payload)))
  pub content : take (length payload.content) (drop data_start bytes) ≡ payload.content

module _ (primary : Primary) (payload : NewBlock) (last : payload.type ≡ 1) (bytes : List ℕ) where
  pub blocks_there : (others : List NewBlock) (left : ℕ) (numbers : List ℕ) (start : ℕ)
      → length others < left → All BlockFits (all_blocks others payload)
      → IsDistinct ◌==◌ (numbers ++ numbers_of (all_blocks others payload))
      → start ≤ length bytes
      → drop start bytes ≡ flat_map block_bytes (all_blocks others payload) ++ 0xff ∷ []
      → BlocksThere primary payload bytes left numbers others start
  unfolding blocks_from
  blocks_there others zero numbers start few all distinct within here = absurd (omega arith)
  blocks_there [] (suc left) numbers start few all distinct within here =
      let fits = All-head BlockFits payload [] all in
      let alone : drop start bytes ≡ block_bytes payload ++ 0xff ∷ [] =
      here ∙ ap (λ front. front ++ 0xff ∷ []) (append-nil (block_bytes payload)) in
      let new = new_number numbers payload.number [] distinct in
      let data_start = start + length (head_of payload) in
      let block = found payload start data_start in
      let next = start + length (block_bytes payload) in
      let whole = block_there payload bytes (0xff ∷ []) start within alone numbers fits new in
      let after : next ≤ length bytes =
      within_there bytes start (block_bytes payload) (0xff ∷ []) within alone in
      let at_end : drop next bytes ≡ 0xff ∷ [] =
      drop-run bytes (0xff ∷ []) (block_bytes payload) start alone in
      let closes : row_at closing bytes next ≡ Ok (true, next + 1) =
      (there_closing).by bytes next [] after at_end in
      let end : next + 1 ≡ length bytes = omega (arith, length-drop next bytes, ap length at_end) in
      record {
        data_start = data_start;
        read = payload_read left numbers primary bytes block start next (next + 1) whole
            (eq-eqb payload.type 1 last) closes
            ∙ ap (λ n. Ok (bundle_with primary (length numbers + 1)
            (data_start, length payload.content) n (CanonicalOf (ended block next) ∷ []))) end;
        content = data_there payload bytes (0xff ∷ []) start within alone;
      }
  blocks_there (other ∷ others) (suc left) numbers start few all distinct within here =
      let rest = all_blocks others payload in
      let tail = flat_map block_bytes rest ++ 0xff ∷ [] in
      let fits = All-head BlockFits other rest all in
      let all_fit = All-tail BlockFits other rest all in
      let first : drop start bytes ≡ block_bytes other ++ tail =
      here ∙ append_assoc (block_bytes other) (flat_map block_bytes rest) (0xff ∷ []) in
      let new = new_number numbers other.number (numbers_of rest) distinct in
      let block = found other start (start + length (head_of other)) in
      let next = start + length (block_bytes other) in
      let whole = block_there other bytes tail start within first numbers fits new in
      let differ = at_seam (λ later. (other.number == later) ≡ false) (numbers_of others)
      payload.number []
      (rw (map_push (λ (block : NewBlock). block.number) others payload)
      at (other_numbers numbers other.number (numbers_of rest) distinct)) in
      let no = no_payload other.type other.number payload.number fits.fits
      (rw last at (last_fits payload others all_fit).fits) differ in
      let more = blocks_there others left (numbers ++ other.number ∷ []) next (omega arith) all_fit
      (rw (append_assoc numbers (other.number ∷ []) (numbers_of rest)) distinct)
      (within_there bytes start (block_bytes other) tail within first)
      (drop-run bytes tail (block_bytes other) start first) in
      let count : length (numbers ++ other.number ∷ []) + length rest
      ≡ length numbers + length (other ∷ rest) =
      omega (arith, length-append numbers (other.number ∷ [])) in
      record {
        data_start = more.data_start;
        read = next_read left numbers primary bytes block start next whole no
            ∙ ap (λ read. with_blocks (CanonicalOf (ended block next) ∷ []) read) more.read
            ∙ ap (λ n. Ok (bundle_with primary n (more.data_start, length payload.content)
            (length bytes) (CanonicalOf (ended block next) ∷ blocks_from next rest))) count;
        content = more.content;
      }
