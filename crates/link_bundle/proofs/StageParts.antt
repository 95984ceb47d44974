-- The part of a stage, as its reading depends on the bytes.

use Rattle.std.proofs.Common.{◌≡◌, ℕ, ◌<◌, ◌≤◌, true, false, List, [], ◌++◌, length, take, drop, Result, Ok, Err, ◌⊎◌, sym, take-append-drop, append-nil, arith}
use Rattle.std.specs.Prelude.{IsTrue, IfOk}
use Rattle.std.proofs.lemmas.{Bool.false≢true}
use Rattle.link_bundle_blocks.specs.declared.block.CanonicalBlock.{CanonicalBlock}
use Rattle.link_bundle_blocks.specs.Parts.{next_block_at}
use Rattle.link_bundle_blocks.specs.Reading.{Stop, ReadAt, stopped, cut_short}
use Rattle.link_bundle_blocks.proofs.PartsSteady.{IsBoundedPart, CutOrSame, keeps, part-more, primary-part, heads-part, field-part, any_field-part, break-part}
use Rattle.link_bundle.specs.declared.stage.ScanStage.{ScanStage}
use Rattle.link_bundle.specs.declared.stage.ScanStage.TheVariants.{PrimaryBlock, BlockHeads, CheckField, Break}
use Rattle.link_bundle.specs.Stages.{limit, end_of, is_cut, is_part, any_reading, part_reading}

-- the heads of a block end within the bytes
pub heads_within : (numbers bytes : List ℕ) (block : CanonicalBlock) (size : ℕ)
    → Ok (block, size) ≡ next_block_at numbers bytes 0
    → size ≤ length bytes
heads_within numbers bytes block size is =
    (keeps (heads-part numbers) bytes [] block size (sym is)).1

-- the first bytes end inside the part, which ends after them, or more bytes do not change it
abbrev pub EndsLater : List ℕ → (now later : Result ℕ Stop) → Type 0
EndsLater front now later =
    ((is_cut now ≡ true) × IfOk later (λ next. length front < next))
    ⊎ ((later ≡ now) × IfOk now (λ next. next ≤ length front))

ends_later : {A : Type 0} (front : List ℕ) (now later : ReadAt A) → CutOrSame front now later
    → EndsLater front (end_of now) (end_of later)
ends_later front (Ok now) (Ok later) same = grind (arith, same)
ends_later front (Ok now) (Err later) same = grind (arith, same)
ends_later front (Err now) (Ok later) same = grind (arith, same)
ends_later front (Err now) (Err later) same = grind (arith, same)

-- the reading of a part that has at most `limit` bytes
pub record IsStagePart (limit : ℕ) (reading : List ℕ → Result ℕ Stop) : Type 0 where
  pub cuts : (bytes : List ℕ) → is_cut (reading bytes) ≡ true
      → (reading bytes ≡ cut_short bytes) × (length bytes < limit)
  pub within : (bytes : List ℕ) (stop : Stop) → reading bytes ≡ Err stop
      → (stop ≡ stopped stop.fault stop.offset) × (stop.offset ≤ length bytes)
  pub more : (front rest : List ℕ) → EndsLater front (reading front) (reading (front ++ rest))

reads_part : {A : Type 0} {limit : ℕ} {part : List ℕ → ReadAt A} → IsBoundedPart limit part
    → IsStagePart limit (λ bytes. end_of (part bytes))
reads_part {part = reading} part = record {
  cuts = λ bytes cut. grind (arith, part.reads bytes []);
  within = λ bytes stop is. grind (arith, part.reads bytes []);
  more = λ front rest.
      ends_later front (reading front) (reading (front ++ rest)) (part-more part front rest);
}

pub any_part : (stage : ScanStage) (numbers : List ℕ) → IsTrue (is_part stage)
    → IsStagePart (limit stage) (any_reading stage numbers)
any_part PrimaryBlock numbers part = reads_part primary-part
any_part BlockHeads numbers part = reads_part (heads-part numbers)
any_part (CheckField kind) numbers part = reads_part (any_field-part kind)
any_part Break numbers part = reads_part break-part
any_part stage numbers part = absurd (false≢true part)

pub stage_part : (stage : ScanStage) (numbers covered : List ℕ) → IsTrue (is_part stage)
    → IsStagePart (limit stage) (part_reading stage numbers covered)
stage_part (CheckField kind) numbers covered part = reads_part (field-part kind covered)
stage_part stage numbers covered part = any_part stage numbers part

module _ {limit : ℕ} {reading : List ℕ → Result ℕ Stop} (part : IsStagePart limit reading) where
  -- if the bytes end inside the part, fewer of them do too
  pub cut_front : (count : ℕ) (bytes : List ℕ) → is_cut (reading bytes) ≡ true
      → is_cut (reading (take count bytes)) ≡ true
  cut_front count bytes cut = grind (
    arith,
    take-append-drop count bytes,
    part.more (take count bytes) (drop count bytes),
  )

  -- if the first bytes do not end inside the part, the others do not change it
  pub same_front : (count : ℕ) (bytes : List ℕ) → is_cut (reading (take count bytes)) ≡ false
      → reading bytes ≡ reading (take count bytes)
  same_front count bytes whole = grind (
    arith,
    take-append-drop count bytes,
    part.more (take count bytes) (drop count bytes),
  )

  pub same_more : (front rest : List ℕ) → is_cut (reading front) ≡ false
      → reading (front ++ rest) ≡ reading front
  same_more front rest whole = grind (arith, part.more front rest)

  pub ends_within : (bytes : List ℕ) (size : ℕ) → reading bytes ≡ Ok size → size ≤ length bytes
  ends_within bytes size is = grind (arith, append-nil bytes, part.more bytes [])

  pub ends_after : (front rest : List ℕ) (size : ℕ) → is_cut (reading front) ≡ true
      → reading (front ++ rest) ≡ Ok size
      → length front < size
  ends_after front rest size cut is = grind (arith, part.more front rest)
