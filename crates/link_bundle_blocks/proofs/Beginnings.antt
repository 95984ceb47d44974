-- Bytes that begin with a block.

use Rattle.std.proofs.Common.{◌≡◌, ℕ, zero, suc, ◌+◌, ◌<◌, ◌≤◌, List, [], ◌++◌, length, take, drop, Option, Result, Ok, Err, refl, sym, ap, ◌∙◌, append-nil, arith}
use Rattle.std.proofs.lemmas.List.{length-take-le, take-append-drop}
use Rattle.link_bundle_types.specs.declared.fault.BundleFault.TheVariants.{Cut}
use Rattle.link_cbor.specs.{declared.check.CheckKind.CheckKind, Head.head_front}
use Rattle.link_bundle_blocks.specs.{declared.block.CanonicalBlock.CanonicalBlock, Blocks.Primary}
use Rattle.link_bundle_blocks.specs.Reading.{Stop, ReadAt, head_at, row_at}
use Rattle.link_bundle_blocks.specs.Canonical.{heads_at}
use Rattle.link_bundle_blocks.specs.Bundle.{Bundle, opening_at, bundle_at}
use Rattle.link_bundle_blocks.specs.Whole.{whole_primary, whole_canonical}
use Rattle.link_bundle_blocks.proofs.Steady.{Reads, ended, reads-then, reads-any, content_at-reads, heads_at-reads, data_before}
use Rattle.link_bundle_blocks.proofs.Elements.{whole_primary-reads}
use Rattle.link_bundle_blocks.proofs.Keeping.{Lasts, cuts, same, ending, end_of, reads_last, begun-of-either, bundle_at-lasts}
use Rattle.link_bundle_blocks.proofs.Readings.{was_read, has_parts}

pub whole_canonical-reads : (numbers bytes more : List ℕ) (start : ℕ)
    → Reads (54 + suc (length bytes)) bytes start (whole_canonical numbers bytes start)
    (whole_canonical numbers (bytes ++ more) start)
unfolding whole_canonical
whole_canonical-reads numbers bytes more start =
    reads-then (heads_at-reads bytes more numbers start)
    (λ (block, next) onward read.
    rw (begun-of-either numbers bytes more start (block, next) read).place
    (reads-any (reads-then
    (content_at-reads bytes more block.data_length block.check block.start block.data_start)
    (λ (_, next) onward read. ended block next))))

-- ---- what the bytes begin with

module _ {A : Type 0} (size : A → ℕ) (read : List ℕ → Result A Stop) (value : A) where
  -- The bytes begin with a part that is read as this value, whatever bytes follow it.
  pub record BeginsWithPart (bytes : List ℕ) : Type 0 where
    pub some : 0 < size value
    pub within : size value ≤ length bytes
    pub reads : (more : List ℕ) → read (take (size value) bytes ++ more) ≡ Ok value

  not_cut : (reading : Result A Stop) → ending size reading ≡ Err Cut → reading ≡ Ok value → ⊥
  not_cut (Ok found) cut is = cc
  not_cut (Err stop) cut is = cc

  ends_within : {bytes : List ℕ} {now later : Result A Stop} → Lasts size bytes now later
      → now ≡ Ok value → size value ≤ length bytes
  ends_within (cuts cut past) is = absurd (not_cut _ cut is)
  ends_within (same stays within) is = within (size value) (ap (ending size) is)

  by_itself : {bytes : List ℕ} {now later : Result A Stop} → Lasts size bytes now later
      → later ≡ Ok value → size value ≤ length bytes → now ≡ Ok value
  by_itself (cuts cut past) is here = absurd (omega (arith, past (size value) (ap (ending size) is)))
  by_itself (same stays within) is here = sym stays ∙ is

  read_on : {bytes : List ℕ} {now later : Result A Stop} → Lasts size bytes now later
      → now ≡ Ok value → later ≡ Ok value
  read_on (cuts cut past) is = absurd (not_cut _ cut is)
  read_on (same stays within) is = stays ∙ is

  not_nothing : (count : ℕ) (bytes : List ℕ)
      → ending size (read []) ≡ Err Cut → read (take count bytes) ≡ Ok value → 0 < count
  not_nothing zero bytes nothing is = absurd (not_cut (read []) nothing is)
  not_nothing (suc count) bytes nothing is = omega arith

  pub begins : (bytes : List ℕ)
      → ((bytes more : List ℕ) → Lasts size bytes (read bytes) (read (bytes ++ more)))
      → ending size (read []) ≡ Err Cut → read bytes ≡ Ok value → BeginsWithPart bytes
  begins bytes lasting nothing is =
      let count = size value in
      let within = ends_within (lasting bytes []) is in
      let run = take count bytes in
      let own = by_itself (lasting run (drop count bytes))
      (ap read (take-append-drop count bytes) ∙ is)
      (omega (arith, length-take-le count bytes within)) in
      record {
        some = not_nothing count bytes nothing own;
        within = within;
        reads = λ more. read_on (lasting run more) own;
      }

block_stays : (numbers bytes more : List ℕ)
    → Lasts (λ read. read.1) bytes (whole_canonical numbers bytes 0)
    (whole_canonical numbers (bytes ++ more) 0)
block_stays numbers bytes more = reads_last (whole_canonical-reads numbers bytes more 0)

primary_stays : (bytes more : List ℕ)
    → Lasts (λ read. read.1) bytes (whole_primary bytes) (whole_primary (bytes ++ more))
primary_stays bytes more = reads_last (whole_primary-reads bytes more)

-- a block stays the same, whatever bytes follow it
pub block_lasts : (numbers run more : List ℕ) (block : CanonicalBlock) (size : ℕ)
    → whole_canonical numbers run 0 ≡ Ok (block, size)
    → whole_canonical numbers (run ++ more) 0 ≡ Ok (block, size)
block_lasts numbers run more block size is =
    read_on (λ read. read.1) (λ bytes. whole_canonical numbers bytes 0) (block, size)
    (block_stays numbers run more) is

pub primary_lasts : (run more : List ℕ) (read : Primary × Option CheckKind) (size : ℕ)
    → whole_primary run ≡ Ok (read, size) → whole_primary (run ++ more) ≡ Ok (read, size)
primary_lasts run more read size is =
    read_on (λ read. read.1) whole_primary (read, size) (primary_stays run more) is

-- the data of a block begins within the block
pub data_begins : (numbers bytes : List ℕ) (start : ℕ) (block : CanonicalBlock) (next : ℕ)
    → whole_canonical numbers bytes start ≡ Ok (block, next) → block.data_start ≤ next
data_begins numbers bytes start block next is =
    let parts = has_parts numbers bytes start (block, next) is in
    omega (
      arith,
      was_read _ _ _
          (data_before block.data_length block.check block.start bytes block.data_start)
          parts.content,
    )

no_block : (numbers : List ℕ) → ending (λ read. read.1) (whole_canonical numbers [] 0) ≡ Err Cut
unfolding whole_canonical heads_at row_at head_at head_front
no_block numbers = refl

pub begins_block : (numbers bytes : List ℕ) (block : CanonicalBlock) (size : ℕ)
    → whole_canonical numbers bytes 0 ≡ Ok (block, size)
    → BeginsWithPart (λ read. read.1) (λ bytes. whole_canonical numbers bytes 0) (block, size) bytes
begins_block numbers bytes block size is =
    begins (λ read. read.1) (λ bytes. whole_canonical numbers bytes 0) (block, size) bytes
    (block_stays numbers) (no_block numbers) is

no_primary : ending (λ read. read.1) (whole_primary []) ≡ Err Cut
unfolding whole_primary opening_at
no_primary = refl

pub begins_primary : (bytes : List ℕ) (read : Primary × Option CheckKind) (size : ℕ)
    → whole_primary bytes ≡ Ok (read, size)
    → BeginsWithPart (λ read. read.1) whole_primary (read, size) bytes
begins_primary bytes read size is =
    begins (λ read. read.1) whole_primary (read, size) bytes primary_stays no_primary is

-- the first bytes are exactly the part
pub read_exactly : {A : Type 0} (read : List ℕ → ReadAt A) (value : A) (size : ℕ) (bytes : List ℕ)
    → BeginsWithPart (λ read. read.1) read (value, size) bytes
    → read (take size bytes) ≡ Ok (value, length (take size bytes))
read_exactly read value size bytes begins =
    ap read (sym (append-nil (take size bytes)))
    ∙ begins.reads []
    ∙ ap (λ (size : ℕ). Ok (value, size)) (sym (length-take-le size bytes begins.within))

-- ---- whole bundles

no_bundle : end_of (bundle_at []) ≡ Err Cut
unfolding bundle_at opening_at
no_bundle = refl

pub begins_bundle : (bundle : Bundle) (bytes : List ℕ) → bundle_at bytes ≡ Ok bundle
    → BeginsWithPart (λ bundle. bundle.length) bundle_at bundle bytes
begins_bundle bundle bytes is =
    begins (λ bundle. bundle.length) bundle_at bundle bytes bundle_at-lasts no_bundle is
