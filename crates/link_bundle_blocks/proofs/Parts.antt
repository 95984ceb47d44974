-- The parts of a bundle that a scan holds.

use Rattle.std.proofs.Common.{◌≡◌, ℕ, suc, ◌+◌, ◌-◌, ◌≤◌, List, [], ◌∷◌, ◌++◌, length, take, drop, true, false, Some, Result, refl, ap, ⊎_elim, arith, leb, length-append, length-drop}
use Rattle.std.specs.Prelude.{◌==◌, if◌then◌else◌, replicate, slice_range}
use Rattle.std.proofs.lemmas.Bool.{cases_lt, le-leb, lt-leb}
use Rattle.std.proofs.{lemmas.List.{drop-append-le, take_rest}, Math.Seq.take-append-add}
use Rattle.link_cbor.specs.{Crc.crc, declared.check.CheckKind.CheckKind}
use Rattle.link_bundle_heads.specs.Rows.{◌>>=◌, block_too_many, check_width, check_field, closing}
use Rattle.link_bundle_blocks.specs.declared.block.CanonicalBlock.{CanonicalBlock}
use Rattle.link_bundle_blocks.specs.Reading.{Stop, cut_short, row_at}
use Rattle.link_bundle_blocks.specs.Blocks.{Primary, CanonicalOf, ended}
use Rattle.link_bundle_blocks.specs.Bundle.{Bundle, with_blocks, rest_of, payload_at, blocks_at}
use Rattle.link_bundle_blocks.specs.CheckField.{check_of, field_at}
use Rattle.link_bundle_blocks.specs.{Canonical.heads_at, Whole.moved, Parts.{next_block_at, field_from}}
use Rattle.link_bundle_blocks.proofs.Readings.{bind-bind}
use Rattle.link_bundle_blocks.proofs.Shifting.{shifted, same, shifted-if, row_at-shifted, row-then, compared-shifted, heads_at-shifted}

-- ---- the canonical blocks, from the heads of the next one on

-- the rest after the heads of a block, where `left` more blocks may come
abbrev pub after_heads : ℕ → List ℕ → Primary → List ℕ → CanonicalBlock × ℕ → Result Bundle Stop
after_heads left numbers primary bytes (block, _) =
    if block.block_type == 1 then payload_at primary (length numbers + 1) block bytes else do
      (_, end) ← rest_of block bytes
      with_blocks (CanonicalOf (ended block end) ∷ [])
          (blocks_at left (numbers ++ block.number ∷ []) primary bytes end)

pub blocks-next : (numbers : List ℕ) (primary : Primary) (bytes : List ℕ) (start : ℕ)
    → blocks_at (64 - length numbers) numbers primary bytes start
    ≡ (next_block_at numbers bytes start >>= after_heads (63 - length numbers) numbers primary bytes)
unfolding blocks_at next_block_at
blocks-next numbers primary bytes start =
    let count = length numbers in
    ⊎_elim
    (λ below.
    let room : leb 64 count ≡ false = lt-leb 64 count below in
    let left : 64 - count ≡ suc (63 - count) = omega arith in
    rw (room, left) refl)
    (λ many.
    let full : leb 64 count ≡ true = le-leb 64 count many in
    let none : 64 - count ≡ 0 = omega arith in
    rw (full, none)
    (bind-bind (row_at block_too_many bytes start) (λ _. cut_short bytes) _
    (after_heads (63 - count) numbers primary bytes) (λ _. refl)))
    (cases_lt count 64)

-- ---- a part that begins after other bytes

pub next-shifted : (numbers front bytes : List ℕ)
    → next_block_at numbers (front ++ bytes) (length front)
    ≡ shifted (length front) (moved (length front)) (next_block_at numbers bytes 0)
unfolding next_block_at
next-shifted numbers front bytes =
    let change : CanonicalBlock → CanonicalBlock = moved (length front) in
    let start : length front + 0 ≡ length front = omega arith in
    rw start at (shifted-if (length front) change (leb 64 (length numbers))
    (row_at block_too_many bytes 0 >>= λ _. cut_short bytes) (heads_at numbers bytes 0)
    (row_at block_too_many (front ++ bytes) (length front + 0) >>= λ _.
    cut_short (front ++ bytes))
    (heads_at numbers (front ++ bytes) (length front + 0))
    (row-then block_too_many change front bytes 0 _ _ (λ _ _. rw (length-append front bytes) refl))
    (heads_at-shifted numbers front bytes 0))

pub closing-shifted : (front bytes : List ℕ)
    → row_at closing (front ++ bytes) (length front)
    ≡ shifted (length front) same (row_at closing bytes 0)
closing-shifted front bytes =
    let start : length front + 0 ≡ length front = omega arith in
    rw start at (row_at-shifted closing front bytes 0)

-- the bytes from `start` on, up to the first `content` bytes after `front`
slice-across : (front bytes : List ℕ) (start content : ℕ) → start ≤ length front
    → slice_range (front ++ bytes) start (length front + content)
    ≡ slice_range front start (length front) ++ take content bytes
slice-across front bytes start content within =
    let size : length front + content - start ≡ length (drop start front) + content =
    omega (arith, length-drop start front) in
    rw (
      drop-append-le start front bytes within,
      size,
      take-append-add (drop start front) bytes content,
      take_rest front start,
    ) refl

check-across : (kind : CheckKind) (start content : ℕ) (front bytes : List ℕ) → start ≤ length front
    → check_of kind start (length front + content) (front ++ bytes)
    ≡ crc kind (slice_range front start (length front) ++ take content bytes
    ++ replicate (check_width kind) 0)
unfolding check_of
check-across kind start content front bytes within =
    ap (λ (block : List ℕ). crc kind (block ++ replicate (check_width kind) 0))
    (slice-across front bytes start content within)

field-after : (kind : CheckKind) (start : ℕ) (front bytes : List ℕ) → start ≤ length front
    → field_at (Some kind) start (front ++ bytes) (length front + 0)
    ≡ shifted (length front) same (field_from kind (slice_range front start (length front)) bytes)
unfolding field_at field_from
field-after kind start front bytes within =
    row-then (check_field kind) same front bytes 0 _ _
    (λ _ content. rw (check-across kind start content front bytes within)
    (compared-shifted kind 0 content _ front bytes))

pub field-from : (kind : CheckKind) (start : ℕ) (front bytes : List ℕ) → start ≤ length front
    → field_at (Some kind) start (front ++ bytes) (length front)
    ≡ shifted (length front) same (field_from kind (slice_range front start (length front)) bytes)
field-from kind start front bytes within =
    let start_is : length front + 0 ≡ length front = omega arith in
    rw start_is at (field-after kind start front bytes within)
