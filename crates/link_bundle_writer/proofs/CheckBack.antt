-- A check field is read, and found to be that of its block.
use Rattle.std.proofs.Common.{◌≡◌, ℕ, ◌+◌, ◌-◌, ◌/◌, ◌%◌, ◌^◌, ◌<◌, ◌≤◌, ◌==◌, true, List, [], ◌∷◌, ◌++◌, length, take, drop, replicate, slice_range, fold, bit_xor, Option, Some, None, Ok, arith, refl, ap, ◌∙◌, sym, append_assoc, append-nil, length-append}
use Rattle.std.proofs.lemmas.{Bool.{eq-eqb, cond_both}, Nat.xor_lt}
use Rattle.std.proofs.Math.Seq.{take-append_seam}
use Rattle.byteorder.specs.Numbers.{big_number-reads_back, length-bytes_high_first}
use Rattle.link_cbor.specs.declared.check.{CheckKind.CheckKind, CheckKind.TheVariants.{Crc16, Crc32}}
use Rattle.link_cbor.specs.Crc.{polynomial, all_ones, all_bits, turn, register_after, crc}
use Rattle.link_bundle_heads.specs.Rows.{check_width}
use Rattle.link_bundle_blocks.specs.Reading.{bytes_at}
use Rattle.link_bundle_blocks.specs.CheckField.{number_from, check_of, field_at}
use Rattle.link_bundle_blocks.proofs.{Readings.field_at-equal, Runs.drop-run}
use Rattle.link_bundle_writer.proofs.There.{within_there, there_bytes}
use Rattle.link_bundle_writer.proofs.RowsThere.{there_field}
use Rattle.link_bundle_writer.specs.Heads.{byte_string}
use Rattle.link_bundle_writer.specs.NewBlocks.{check_field, checked}
use Rattle.link_writing.specs.Numbers.{be}

-- ---- check values

number_back : (kind : CheckKind) (value : ℕ) → value < 256 ^ check_width kind
    → number_from 0 (be (check_width kind) value) ≡ value
number_back Crc16 value fits = let read = big_number-reads_back 2 value [] fits in omega (arith, read)
number_back Crc32 value fits = let read = big_number-reads_back 4 value [] fits in omega (arith, read)

module _ (kind : CheckKind) (width : ℕ) (fits : polynomial kind < 2 ^ width) where
  turns_fit : (bits : List ℕ) (register : ℕ) → register < 2 ^ width
      → fold (turn kind) register bits < 2 ^ width
  unfolding turn
  turns_fit [] register below = below
  turns_fit (bit ∷ bits) register below =
      let half : register / 2 < 2 ^ width = omega arith in
      turns_fit bits (turn kind register bit)
      (cond_both (register % 2 == bit) (register / 2) (bit_xor (register / 2) (polynomial kind))
      (λ n. n < 2 ^ width) (λ _. half) (λ _. xor_lt width (register / 2) (polynomial kind) half fits))

-- the register of a check fits in the width of its value
pub register_fits : (kind : CheckKind) (bytes : List ℕ)
    → register_after kind (all_ones kind) bytes < 256 ^ check_width kind
unfolding register_after
register_fits Crc16 bytes = turns_fit Crc16 16 (omega arith) (all_bits bytes) 0xffff (omega arith)
register_fits Crc32 bytes = turns_fit Crc32 32 (omega arith) (all_bits bytes) 0xffff_ffff (omega arith)

crc_fits : (kind : CheckKind) (bytes : List ℕ) → crc kind bytes < 256 ^ check_width kind
unfolding crc
crc_fits Crc16 bytes = xor_lt 16 _ 0xffff (register_fits Crc16 bytes) (omega arith)
crc_fits Crc32 bytes = xor_lt 32 _ 0xffff_ffff (register_fits Crc32 bytes) (omega arith)

-- ---- check fields

-- the bytes from the start of a block up to the content of its check field
up_to : (bytes block head rest : List ℕ) (start : ℕ) → drop start bytes ≡ block ++ (head ++ rest)
    → slice_range bytes start (start + length block + length head) ≡ block ++ head
up_to bytes block head rest start here =
    let count : start + length block + length head - start ≡ length (block ++ head) =
    omega (arith, length-append block head) in
    ap (λ n. take n (drop start bytes)) count
    ∙ ap (λ there. take (length (block ++ head)) there) (here ∙ sym (append_assoc block head rest))
    ∙ take-append_seam (block ++ head) rest

-- the check field of a block that was written with it
pub field_there : (check : Option CheckKind) (start : ℕ) (block bytes more : List ℕ)
    → start ≤ length bytes → drop start bytes ≡ checked check block ++ more
    → field_at check start bytes (start + length block)
    ≡ Ok (true, start + length (checked check block))
unfolding field_at check_of check_field
field_there None start block bytes more within here = rw (append-nil block) refl
field_there (Some kind) start block bytes more within here =
    let width = check_width kind in
    let head = byte_string width in
    let value = crc kind (block ++ (head ++ replicate width 0)) in
    let content = be width value in
    let offset = start + length block in
    let size : length content ≡ width = length-bytes_high_first width value in
    let split : drop start bytes ≡ block ++ (head ++ (content ++ more)) =
    here ∙ append_assoc block (head ++ content) more
    ∙ ap (λ rest. block ++ rest) (append_assoc head content more) in
    let first : offset ≤ length bytes =
    within_there bytes start block (head ++ (content ++ more)) within split in
    let at_head : drop offset bytes ≡ head ++ (content ++ more) =
    drop-run bytes (head ++ (content ++ more)) block start split in
    let second : offset + length head ≤ length bytes =
    within_there bytes offset head (content ++ more) first at_head in
    let at_content : drop (offset + length head) bytes ≡ content ++ more =
    drop-run bytes (content ++ more) head offset at_head in
    let stored : bytes_at width bytes (offset + length head)
    ≡ Ok (content, offset + length head + width) =
    rw size at ((there_bytes content).by bytes (offset + length head) more second at_content) in
    let sum : check_of kind start (offset + length head) bytes ≡ value =
    ap (λ there. crc kind (there ++ replicate width 0))
    (up_to bytes block head (content ++ more) start split)
    ∙ ap (crc kind) (append_assoc block head (replicate width 0)) in
    let end : offset + length head + width ≡ start + length (block ++ (head ++ content)) =
    omega (arith, length-append block (head ++ content), length-append head content, size) in
    field_at-equal kind start (offset + length head) (offset + length head + width) width bytes
    offset content
    ((there_field kind).by bytes offset (content ++ more) first at_head) stored
    (eq-eqb _ _
    (number_back kind value (crc_fits kind (block ++ (head ++ replicate width 0))) ∙ sym sum))
    ∙ ap (λ n. Ok (true, n)) end
