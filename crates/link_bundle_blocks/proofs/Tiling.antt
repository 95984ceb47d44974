-- The blocks of a good bundle have all bytes between its first byte and its last.

use Rattle.std.proofs.Common.{◌≡◌, ℕ, zero, suc, ◌+◌, ◌≤◌, ◌≢◌, Bool, true, false, ◌&&◌, List, [], ◌∷◌, ◌++◌, map, length, drop, Option, Result, Ok, Err, refl, sym, ap, ◌∙◌, ⊎_elim, zero-add, length-append, arith}
use Rattle.std.specs.{Prelude.{◌==◌, IfOk, if◌then◌else◌}, List.All}
use Rattle.std.proofs.lemmas.Bool.{cases_Bool, and_parts, eqb-true, eqb-false}
use Rattle.std.proofs.lemmas.List.Elements.{All-nil, All-cons}
use Rattle.link_cbor.specs.declared.check.CheckKind.{CheckKind}
use Rattle.link_cbor.specs.Head.{HeadFront, Cut as CutHead, IllFormed, Whole, head_front}
use Rattle.link_bundle_types.specs.declared.fault.BundleFault.{BundleFault}
use Rattle.link_bundle_types.specs.declared.info.BundleInfo.{BundleInfo}
use Rattle.link_bundle_heads.specs.Rows.{◌>>=◌, is_absent, is_break, block_too_many, closing}
use Rattle.link_bundle_blocks.specs.declared.block.CanonicalBlock.{CanonicalBlock}
use Rattle.link_bundle_blocks.specs.Blocks.{Primary, PrimaryOf, CanonicalOf, ended}
use Rattle.link_bundle_blocks.specs.Reading.{Stop, ReadAt, head_by, outcome_at, head_at, row_at}
use Rattle.link_bundle_blocks.specs.Whole.{whole_primary}
use Rattle.link_bundle_blocks.specs.Canonical.{heads_at, content_at}
use Rattle.link_bundle_blocks.specs.Bundle.{Bundle, with_payload, with_blocks, inside, info_of, rest_of, payload_at, blocks_at, bundle_at, if_alone, judged_bundle, verdict_by, verdict, blocks_in, blocks_of}
use Rattle.link_bundle_blocks.specs.Laws.{IsBlockBetween, AreBlocksBetween, IsTiledWithPayloadLast, GoodBlocksTile}
use Rattle.link_bundle_blocks.proofs.Showing.{blocks_judged}
use Rattle.link_bundle_blocks.proofs.{Steady.{FrontSpans, front-spans, on_by, heads_at-reads, data_before}, Keeping.{IsBegun, heads_begin}}
use Rattle.link_bundle_blocks.proofs.{Beginnings.begins_primary, Readings.{then_read, was_read, bundle_parts}}

-- ---- the break

-- the break after the payload block has one byte
closing_one : (bytes : List ℕ) (start : ℕ)
    → IfOk (row_at closing bytes start) (λ value. value.1 ≡ start + 1)
unfolding row_at head_at closing is_break
closing_one bytes start =
    by_front (head_front (drop start bytes)) (front-spans (drop start bytes))
  where
    by_front : (front : HeadFront) → FrontSpans (drop start bytes) front
        → IfOk (head_by bytes start front >>= λ (head, next). outcome_at start next (closing head))
        (λ value. value.1 ≡ start + 1)
    by_front CutHead spans = tt
    by_front IllFormed spans = tt
    by_front (Whole head size) spans =
        ⊎_elim
        (λ break. rw break
        (ap (λ n. start + n) (spans.1 (and_parts (head.major == 7) (is_absent head.value) break).1)))
        (λ other. rw other tt)
        (cases_Bool ((head.major == 7) && is_absent head.value))

-- ---- a canonical block

inside_before : (block : CanonicalBlock) (limit : ℕ) (reading : ReadAt Bool)
    → IfOk reading (λ value. limit ≤ value.1)
    → IfOk (inside block reading) (λ value. limit ≤ value.1)
inside_before block limit (Ok value) read = read
inside_before block limit (Err stop) read = tt

block_fills : (block : CanonicalBlock) (start : ℕ) (bytes : List ℕ) (value : Bool × ℕ) {next : ℕ}
    → IsBegun start (block, next) → start ≤ next
    → rest_of block bytes ≡ Ok value → IsBlockBetween (CanonicalOf (ended block value.1)) start value.1
block_fills block start bytes value begins onward is =
    let limit = block.data_start + block.data_length in
    let reading = content_at block.data_length block.check block.start bytes block.data_start in (
      begins.begins,
      omega (arith, begins.place),
      was_read (λ value. limit ≤ value.1) (rest_of block bytes) value
          (inside_before block limit reading
          (data_before block.data_length block.check block.start bytes block.data_start)) is,
      refl,
    )

-- ---- the canonical blocks

if-whole : (test : Bool) (holds : Bundle → Type 0) (one other : Result Bundle Stop)
    → (test ≡ true → IfOk one holds) → (test ≡ false → IfOk other holds)
    → IfOk (if test then one else other) holds
if-whole true holds one other taken passed = taken refl
if-whole false holds one other taken passed = passed refl

-- what is read from `start` on, after that many canonical blocks
record IsRestOfBundle (primary : Primary) (count start : ℕ) (bundle : Bundle) : Type 0 where
  pub others : List CanonicalBlock
  pub payload : CanonicalBlock
  pub blocks : bundle.blocks ≡ map CanonicalOf (others ++ payload ∷ [])
  pub fields : bundle.info
      ≡ info_of primary (count + length (others ++ payload ∷ [])) payload.data_length
  pub payload_type : payload.block_type ≡ 1
  pub other_types : All (λ block. block.block_type ≢ 1) others
  pub last : ℕ
  pub tiles : AreBlocksBetween start bundle.blocks last
  pub size : bundle.length ≡ last + 1

kept_payload : (span : ℕ × ℕ) (holds : Bundle → Type 0) (reading : Result Bundle Stop)
    → IfOk reading holds → IfOk (with_payload span reading) holds
kept_payload span holds (Ok bundle) held = held
kept_payload span holds (Err stop) held = tt

-- one more block before what is read
more_rest : (primary : Primary) (count start end : ℕ) (block : CanonicalBlock)
    (reading : Result Bundle Stop)
    → block.block_type ≢ 1 → IsBlockBetween (CanonicalOf block) start end
    → IfOk reading (IsRestOfBundle primary (suc count) end)
    → IfOk (with_blocks (CanonicalOf block ∷ []) reading) (IsRestOfBundle primary count start)
more_rest primary count start end block (Ok bundle) other fills rest = record {
  others = block ∷ rest.others;
  payload = rest.payload;
  blocks = ap (λ blocks. CanonicalOf block ∷ blocks) rest.blocks;
  fields = rest.fields
      ∙ ap (λ n. info_of primary n rest.payload.data_length)
      {y = count + suc (length (rest.others ++ rest.payload ∷ []))} (omega arith);
  payload_type = rest.payload_type;
  other_types = All-cons (λ block. block.block_type ≢ 1) block rest.others other rest.other_types;
  last = rest.last;
  tiles = (end, fills, rest.tiles);
  size = rest.size;
}
more_rest primary count start end block (Err stop) other fills rest = tt

payload_rest : (primary : Primary) (count start : ℕ) (block : CanonicalBlock) (bytes : List ℕ)
    {next : ℕ} → block.block_type ≡ 1 → IsBegun start (block, next) → start ≤ next
    → IfOk (payload_at primary (count + 1) block bytes) (IsRestOfBundle primary count start)
unfolding payload_at
payload_rest primary count start block bytes type begins onward =
    kept_payload (block.data_start, block.data_length) (IsRestOfBundle primary count start) _
    (then_read (IsRestOfBundle primary count start) (rest_of block bytes) _
    (λ (read, end) is. closed end (block_fills block start bytes (read, end) begins onward is)
    (row_at closing bytes end) (closing_one bytes end)))
  where
    closed : (end : ℕ) → IsBlockBetween (CanonicalOf (ended block end)) start end → (reading : ReadAt Bool)
        → IfOk reading (λ value. value.1 ≡ end + 1)
        → IfOk
        (with_blocks (CanonicalOf (ended block end) ∷ []) (reading >>= λ (_, end). Ok (record {
          info = info_of primary (count + 1) block.data_length;
          length = end;
          payload_span = (block.data_start, block.data_length);
          blocks = [];
        })))
        (IsRestOfBundle primary count start)
    closed end fills (Err stop) one = tt
    closed end fills (Ok (read, next)) one = record {
      others = [];
      payload = ended block end;
      blocks = refl;
      fields = refl;
      payload_type = type;
      other_types = All-nil (λ block. block.block_type ≢ 1);
      last = end;
      tiles = (end, fills, refl);
      size = one;
    }

blocks_rest : (left : ℕ) (numbers : List ℕ) (primary : Primary) (bytes : List ℕ) (start : ℕ)
    → IfOk (blocks_at left numbers primary bytes start) (IsRestOfBundle primary (length numbers) start)
unfolding blocks_at
blocks_rest zero numbers primary bytes start =
    then_read (IsRestOfBundle primary (length numbers) start) (row_at block_too_many bytes start) _
    (λ value is. tt)
blocks_rest (suc left) numbers primary bytes start =
    let holds = IsRestOfBundle primary (length numbers) start in
    then_read holds (heads_at numbers bytes start) _
    (λ (block, next) begun.
    let begins = was_read (IsBegun start) (heads_at numbers bytes start) (block, next)
    (heads_begin numbers bytes start) begun in
    let onward = was_read (λ (read : CanonicalBlock × ℕ). start ≤ read.1) _ (block, next)
    (on_by (heads_at-reads bytes [] numbers start)) begun in
    if-whole (block.block_type == 1) holds _ _
    (λ one. payload_rest primary (length numbers) start block bytes
    (eqb-true block.block_type 1 one) begins onward)
    (λ other. then_read holds (rest_of block bytes) _
    (λ (read, end) is.
    more_rest primary (length numbers) start end (ended block end) _
    (eqb-false block.block_type 1 other)
    (block_fills block start bytes (read, end) begins onward is)
    (rw (← pushed block.number)
    (blocks_rest left (numbers ++ block.number ∷ []) primary bytes end)))))
  where
    pushed : (number : ℕ) → length (numbers ++ number ∷ []) ≡ suc (length numbers)
    pushed number = omega (arith, length-append numbers (number ∷ []))

-- ---- the primary block before them, and the whole

-- the blocks of a bundle tile the bytes, if the bundle has all of them
abbrev TilesAll : List ℕ → BundleInfo → Bundle → Type 0
TilesAll bytes info bundle =
    bundle.length ≡ length bytes → info ≡ bundle.info → blocks_in bytes ≡ bundle.blocks
    → IsTiledWithPayloadLast bytes info

primary_tiles : (bytes : List ℕ) (info : BundleInfo) (primary : Primary)
    (check : Option CheckKind) (end : ℕ) (reading : Result Bundle Stop) → 1 ≤ end
    → IfOk reading (IsRestOfBundle primary 0 end)
    → IfOk (with_blocks (PrimaryOf primary check end ∷ []) reading) (TilesAll bytes info)
primary_tiles bytes info primary check end (Ok bundle) late after = λ size fields blocks. record {
  primary = primary;
  check = check;
  end = end;
  others = after.others;
  payload = after.payload;
  blocks = blocks ∙ ap (λ blocks. PrimaryOf primary check end ∷ blocks) after.blocks;
  fields = fields ∙ after.fields
      ∙ ap (λ n. info_of primary n after.payload.data_length)
      (zero-add (length (after.others ++ after.payload ∷ [])));
  payload_type = after.payload_type;
  other_types = after.other_types;
  last = after.last;
  tiles = rw blocks (end, (refl, late, refl), after.tiles);
  size = sym size ∙ after.size;
}
primary_tiles bytes info primary check end (Err stop) late after = tt

bundle_tiles : (bytes : List ℕ) (info : BundleInfo) → IfOk (bundle_at bytes) (TilesAll bytes info)
bundle_tiles bytes info =
    rw (bundle_parts bytes)
    (then_read (TilesAll bytes info) (whole_primary bytes) _
    (λ ((primary, check), end) read.
    primary_tiles bytes info primary check end _
    (omega (arith, (begins_primary bytes (primary, check) end read).some))
    (blocks_rest 64 [] primary bytes end)))

tiled_by : (bytes : List ℕ) (info : BundleInfo) (reading : Result Bundle Stop)
    → IfOk reading (TilesAll bytes info)
    → verdict_by (reading >>= λ bundle. if_alone bytes bundle) ≡ Ok info
    → blocks_in bytes ≡ blocks_of reading → IsTiledWithPayloadLast bytes info
tiled_by bytes info (Err stop) tiles good blocks = absurd (cc)
tiled_by bytes info (Ok bundle) tiles good blocks =
    ⊎_elim
    (λ alone.
    tiles (eqb-true bundle.length (length bytes) alone) (info_is (rw alone at good)) blocks)
    (λ other. absurd (let never = rw other at good in cc))
    (cases_Bool (bundle.length == length bytes))
  where
    info_is : ◌≡◌ {A = Result BundleInfo (BundleFault × ℕ)} (Ok bundle.info) (Ok info)
        → info ≡ bundle.info
    info_is is = cc

pub GoodBlocksTile-holds : GoodBlocksTile
unfolding verdict judged_bundle
GoodBlocksTile-holds bytes info good =
    tiled_by bytes info (bundle_at bytes) (bundle_tiles bytes info) good (blocks_judged bytes)
