-- A bundle that lies whole in some bytes, part by part.

use Rattle.std.proofs.Common.{◌≡◌, ℕ, suc, ◌+◌, ◌<◌, ◌≤◌, Bool, true, false, List, [], ◌∷◌, ◌++◌, length, take, drop, get_or, Option, Some, Result, Ok, Err, refl, ◌∙◌, arith}
use Rattle.std.proofs.lemmas.Bool.{le-ltb}
use Rattle.std.specs.Prelude.{◌==◌, IfOk, if◌then◌else◌}
use Rattle.link_cbor.specs.declared.check.CheckKind.{CheckKind}
use Rattle.link_bundle_heads.specs.Rows.{◌>>=◌, check_width, check_field, closing}
use Rattle.link_bundle_blocks.specs.Reading.{Stop, ReadAt, row_at, bytes_at}
use Rattle.link_bundle_blocks.specs.declared.block.CanonicalBlock.{CanonicalBlock}
use Rattle.link_bundle_blocks.specs.Blocks.{Primary, PrimaryOf, CanonicalOf, ended}
use Rattle.link_bundle_blocks.specs.{Primary.primary_at, Canonical.{heads_at, content_at}}
use Rattle.link_bundle_blocks.specs.Bundle.{Bundle, with_blocks, rest_of, payload_at, blocks_at, opening_at, bundle_at}
use Rattle.link_bundle_blocks.specs.Whole.{whole_primary, whole_canonical, bundle_with}
use Rattle.link_bundle_blocks.specs.CheckField.{number_from, check_of, field_at}

pub bytes_at-whole : (size : ℕ) (bytes : List ℕ) (offset : ℕ) → offset + size ≤ length bytes
    → bytes_at size bytes offset ≡ Ok (take size (drop offset bytes), offset + size)
unfolding bytes_at
bytes_at-whole size bytes offset within = rw (le-ltb (length bytes) (offset + size) within) refl

-- a check field whose content spells the check of its block
pub field_at-equal : (kind : CheckKind) (start content next count : ℕ) (bytes : List ℕ)
    (offset : ℕ) (stored : List ℕ)
    → row_at (check_field kind) bytes offset ≡ Ok (count, content)
    → bytes_at (check_width kind) bytes content ≡ Ok (stored, next)
    → (number_from 0 stored == check_of kind start content bytes) ≡ true
    → field_at (Some kind) start bytes offset ≡ Ok (true, next)
unfolding field_at
field_at-equal kind start content next count bytes offset stored head there equal =
    rw (head, there, equal) refl

-- what holds of what is read, if anything is

pub then_read : {A B : Type 0} (holds : B → Type 0) (now : Result A Stop) (next : A → Result B Stop)
    → ((value : A) → now ≡ Ok value → IfOk (next value) holds) → IfOk (now >>= next) holds
then_read holds (Ok value) next each = each value refl
then_read holds (Err stop) next each = tt

pub was_read : {A : Type 0} (holds : A → Type 0) (now : Result A Stop) (value : A)
    → IfOk now holds → now ≡ Ok value → holds value
was_read holds now value read is = rw is at read

-- a canonical block, part by part

-- the heads, and what comes after them
pub record HasParts (numbers bytes : List ℕ) (start : ℕ) (read : CanonicalBlock × ℕ) : Type 0 where
  pub offset : ℕ
  pub same : Bool
  pub heads : heads_at numbers bytes start ≡ Ok (read.0, offset)
  pub content : content_at read.0.data_length read.0.check read.0.start bytes read.0.data_start
      ≡ Ok (same, read.1)
  pub rest : rest_of read.0 bytes ≡ Ok (same, read.1)

pub has_parts : (numbers bytes : List ℕ) (start : ℕ) (read : CanonicalBlock × ℕ)
    → whole_canonical numbers bytes start ≡ Ok read → HasParts numbers bytes start read
unfolding whole_canonical
has_parts numbers bytes start read is =
    let parts = HasParts numbers bytes start in
    was_read parts _ read
    (then_read parts (heads_at numbers bytes start) _
    (λ (block, offset) heads. then_read parts
    (content_at block.data_length block.check block.start bytes block.data_start) _
    (λ (same, next) content. record {
      offset = offset;
      same = same;
      heads = heads;
      content = content;
      rest = rw content refl;
    }))) is

pub canonical_read : (left : ℕ) (numbers : List ℕ) (primary : Primary) (bytes : List ℕ)
    (start : ℕ) (block : CanonicalBlock) (next : ℕ)
    → whole_canonical numbers bytes start ≡ Ok (block, next)
    → blocks_at (suc left) numbers primary bytes start
    ≡ (if block.block_type == 1 then payload_at primary (length numbers + 1) block bytes
    else (rest_of block bytes >>= λ (_, end). with_blocks (CanonicalOf (ended block end) ∷ [])
    (blocks_at left (numbers ++ block.number ∷ []) primary bytes end)))
unfolding blocks_at
canonical_read left numbers primary bytes start block next is =
    let parts = has_parts numbers bytes start (block, next) is in rw parts.heads refl

-- the payload block and the break after it, and another block
pub payload_read : (left : ℕ) (numbers : List ℕ) (primary : Primary) (bytes : List ℕ)
    (block : CanonicalBlock) (start next end : ℕ)
    → whole_canonical numbers bytes start ≡ Ok (block, next) → (block.block_type == 1) ≡ true
    → row_at closing bytes next ≡ Ok (true, end)
    → blocks_at (suc left) numbers primary bytes start
    ≡ Ok (bundle_with primary (length numbers + 1) (block.data_start, block.data_length) end
    (CanonicalOf (ended block next) ∷ []))
unfolding payload_at
payload_read left numbers primary bytes block start next end whole is closes =
    let parts = has_parts numbers bytes start (block, next) whole in
    canonical_read left numbers primary bytes start block next whole
    ∙ rw (is, parts.rest, closes) refl

pub next_read : (left : ℕ) (numbers : List ℕ) (primary : Primary) (bytes : List ℕ)
    (block : CanonicalBlock) (start next : ℕ)
    → whole_canonical numbers bytes start ≡ Ok (block, next) → (block.block_type == 1) ≡ false
    → blocks_at (suc left) numbers primary bytes start
    ≡ with_blocks (CanonicalOf (ended block next) ∷ [])
    (blocks_at left (numbers ++ block.number ∷ []) primary bytes next)
next_read left numbers primary bytes block start next whole is =
    let parts = has_parts numbers bytes start (block, next) whole in
    canonical_read left numbers primary bytes start block next whole ∙ rw (is, parts.rest) refl

-- ---- the first byte and the primary block

-- the rest after the primary block
abbrev pub after_primary : List ℕ → (Primary × Option CheckKind) × ℕ → Result Bundle Stop
after_primary bytes ((primary, check), next) =
    with_blocks (PrimaryOf primary check next ∷ []) (blocks_at 64 [] primary bytes next)

pub bind-bind : {A B C : Type 0} (reading : ReadAt A) (next : A × ℕ → ReadAt B) (all : A × ℕ → Result C Stop)
    (last : B × ℕ → Result C Stop) → ((value : A × ℕ) → all value ≡ (next value >>= last))
    → (reading >>= all) ≡ ((reading >>= next) >>= last)
bind-bind (Ok value) next all last each = each value
bind-bind (Err stop) next all last each = refl

-- a bundle is its primary block and the rest
pub bundle_parts : (bytes : List ℕ) → bundle_at bytes ≡ (whole_primary bytes >>= after_primary bytes)
unfolding bundle_at whole_primary
bundle_parts bytes =
    bind-bind (opening_at bytes) _ _ (after_primary bytes)
    (λ (_, start). bind-bind (primary_at bytes start) _ _ (after_primary bytes)
    (λ ((primary, check), offset). bind-bind (field_at check start bytes offset) _ _
    (after_primary bytes) (λ (_, next). refl)))

pub primary_read : (bytes : List ℕ) (primary : Primary) (check : Option CheckKind) (next : ℕ)
    → whole_primary bytes ≡ Ok ((primary, check), next)
    → bundle_at bytes ≡ after_primary bytes ((primary, check), next)
primary_read bytes primary check next is = bundle_parts bytes ∙ rw is refl

pub opening_at_array : (bytes : List ℕ) → 0 < length bytes → get_or bytes 0 0 ≡ 0x9f
    → opening_at bytes ≡ Ok (true, 1)
unfolding opening_at
opening_at_array [] some is = absurd (omega arith)
opening_at_array (first ∷ rest) some is = rw is refl

pub ruleset whole_bytes = (bytes_at-whole)
