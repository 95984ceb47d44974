-- A bundle that is read from some bytes, and from those bytes with more after them.

use Rattle.std.proofs.Common.{◌≡◌, ℕ, zero, suc, ◌+◌, ◌<◌, ◌≤◌, ◌⊎◌, inl, inr, Bool, true, false, List, [], ◌∷◌, ◌++◌, length, Option, None, Some, Result, Ok, Err, refl, sym, ap, ◌∙◌, ⊎_elim, append-nil, append_assoc, arith}
use Rattle.std.specs.{Prelude.{◌==◌, IfOk, if◌then◌else◌}, List.All}
use Rattle.std.proofs.lemmas.{Bool.cases_lt, List.Elements.{All-nil, All-cons}}
use Rattle.link_bundle_types.specs.declared.fault.BundleFault.{BundleFault}
use Rattle.link_bundle_types.specs.declared.fault.BundleFault.TheVariants.{Cut}
use Rattle.link_bundle_types.specs.{declared.info.BundleInfo.BundleInfo, Faults.lasts}
use Rattle.link_bundle_heads.specs.Rows.{◌>>=◌, unsigned, block_data, block as block_head, block_too_many, block_number, block_check_type, closing}
use Rattle.link_cbor.specs.declared.check.CheckKind.{CheckKind}
use Rattle.link_bundle_blocks.specs.declared.block.CanonicalBlock.{CanonicalBlock}
use Rattle.link_bundle_blocks.specs.Blocks.{Primary, Block, PrimaryOf, CanonicalOf, ended, next_of, LiesWithin}
use Rattle.link_bundle_blocks.specs.Reading.{Stop, ReadAt, stopped, row_at}
use Rattle.link_bundle_blocks.specs.Canonical.{heads_at}
use Rattle.link_bundle_blocks.specs.Bundle.{Bundle, with_payload, with_blocks, cut_in, inside, rest_of, payload_at, blocks_at, bundle_at, payload_of, blocks_of, cut_block_of}
use Rattle.link_bundle_blocks.proofs.Blocks.{payload_of-blocks}
use Rattle.link_bundle_blocks.proofs.Steady.{Reads, is_read, has_fault, is_cut, goes_on, stops, both_either, row_at-reads, content_at-reads, heads_at-reads, too_many, data_before, lasting}
use Rattle.link_bundle_blocks.proofs.{Elements.whole_primary-reads, Runs.content_at-cut}
use Rattle.link_bundle_blocks.proofs.Readings.{then_read, was_read, bundle_parts}

-- ---- whether more bytes change a reading

-- where a reading ends, or its fault; `size` is the offset after a value
abbrev pub ending : {A : Type 0} → (A → ℕ) → Result A Stop → Result ℕ BundleFault
ending size (Ok value) = Ok (size value)
ending size (Err stop) = Err stop.fault

-- What is read of some bytes, and of those bytes with more after them. Either the first bytes end
-- inside it, and then it ends after them, or it is the same and ends within them.
pub data Lasts {A : Type 0} (size : A → ℕ) (bytes : List ℕ) (now later : Result A Stop)
    : Type 0 where
  cuts : ending size now ≡ Err Cut
      → ((end : ℕ) → ending size later ≡ Ok end → length bytes < end)
      → Lasts size bytes now later
  same : later ≡ now → ((end : ℕ) → ending size now ≡ Ok end → end ≤ length bytes)
      → Lasts size bytes now later

pub reads_last : {A : Type 0} {limit : ℕ} {bytes : List ℕ} {now later : ReadAt A}
    → Reads limit bytes 0 now later → Lasts (λ read. read.1) bytes now later
reads_last {now = Ok (value, next)} (is_read onward below within) =
    same refl (λ end is. let here : next ≡ end = cc in omega (arith, within (omega arith)))
reads_last (has_fault fault here stays) = same refl (λ end is. cc)
reads_last {later = Ok (value, next)} (is_cut short (goes_on onward past)) =
    cuts refl (λ end is. let here : next ≡ end = cc in omega arith)
reads_last (is_cut short (stops fault)) = cuts refl (λ end is. cc)

-- ---- a bundle from an offset on

-- where a bundle ends, or its fault
abbrev pub end_of : Result Bundle Stop → Result ℕ BundleFault
end_of reading = ending (λ bundle. bundle.length) reading

-- the payload, or nothing where the payload does not matter
abbrev pub shown : Bool → Result Bundle Stop → Option (ℕ × ℕ)
shown true reading = payload_of reading
shown false reading = None

-- the canonical block that comes next
abbrev pub next_in : Result Bundle Stop → Option CanonicalBlock
next_in reading = next_of (blocks_of reading) (cut_block_of reading)

-- the payload, the end of the bundle and the data of the next block lie at the offset or after it
pub record From (paid : Bool) (offset : ℕ) (reading : Result Bundle Stop) : Type 0 where
  pub payload : (span : ℕ × ℕ) → shown paid reading ≡ Some span → offset ≤ span.0
  pub end : (end : ℕ) → end_of reading ≡ Ok end → offset ≤ end
  pub next : (block : CanonicalBlock) → next_in reading ≡ Some block → offset ≤ block.data_start

-- what is read lies within the bytes
pub record Fits (bytes : List ℕ) (reading : Result Bundle Stop) : Type 0 where
  pub blocks : All (LiesWithin (length bytes)) (blocks_of reading)
  pub end : (end : ℕ) → end_of reading ≡ Ok end → end ≤ length bytes

-- what more bytes change
pub record Ends (paid : Bool) (bytes : List ℕ) (now later : Result Bundle Stop) : Type 0 where
  -- the first bytes end inside the bundle, or it stays the same
  pub lasts : ((end_of now ≡ Err Cut) × ((end : ℕ) → end_of later ≡ Ok end → length bytes < end))
      ⊎ (later ≡ now)
  -- the payload is there, if they do not end inside the bundle
  pub there : (end_of now ≡ Err Cut)
      ⊎ ((span : ℕ × ℕ) → shown paid now ≡ Some span → span.0 + span.1 ≤ length bytes)
  -- the payload stays the same, or it begins after them
  pub pays : (shown paid later ≡ shown paid now) ⊎ ((shown paid now ≡ None)
      × ((span : ℕ × ℕ) → shown paid later ≡ Some span → length bytes < span.0))
  -- More bytes add some blocks. The canonical block that comes next is the one that the first bytes
  -- cut, or its data begins after them.
  pub new : List Block
  pub grows : blocks_of later ≡ blocks_of now ++ new
  pub placed : (block : CanonicalBlock) → next_of new (cut_block_of later) ≡ Some block
      → (cut_block_of now ≡ Some block) ⊎ (length bytes ≤ block.data_start)

-- A bundle that is read from an offset on, of some bytes and of those bytes with more after them.
-- It has at most that many blocks.
pub record PayloadStays (paid : Bool) (most : ℕ) (bytes : List ℕ) (offset : ℕ)
    (now later : Result Bundle Stop) : Type 0 where
  pub from : From paid offset later
  pub fits : offset ≤ length bytes → Fits bytes now
  pub few : length (blocks_of now) ≤ most
  pub ends : Ends paid bytes now later

pub nothing : {A : Type 0} {value : A} → None ≡ Some value → ⊥
nothing is = cc

sooner : {paid : Bool} {offset start : ℕ} {reading : Result Bundle Stop} → offset ≤ start
    → From paid start reading → From paid offset reading
sooner lower from = record {
  payload = λ span is. omega (arith, from.payload span is);
  end = λ end is. omega (arith, from.end end is);
  next = λ block is. omega (arith, from.next block is);
}

-- neither a block nor a payload is read
bare-keeps : {paid : Bool} {most offset : ℕ} {bytes : List ℕ} (reading : Result Bundle Stop)
    → blocks_of reading ≡ [] → shown paid reading ≡ None
    → ((end : ℕ) → end_of reading ≡ Ok end → offset ≡ end)
    → ((block : CanonicalBlock) → cut_block_of reading ≡ Some block → offset ≤ block.data_start)
    → PayloadStays paid most bytes offset reading reading
bare-keeps {bytes = bytes} reading none unpaid ends next = record {
  from = record {
    payload = λ span is. absurd (nothing (sym unpaid ∙ is));
    end = λ end is. omega (arith, ends end is);
    next = λ block is. next block (rw none at is);
  };
  fits = λ here. record {
    blocks = rw none (All-nil (LiesWithin (length bytes)));
    end = λ end is. omega (arith, ends end is);
  };
  few = rw none (omega arith);
  ends = record {
    lasts = inr refl;
    there = inr (λ span is. absurd (nothing (sym unpaid ∙ is)));
    pays = inl refl;
    new = [];
    grows = sym (append-nil (blocks_of reading));
    placed = λ block is. inl is;
  };
}

-- ---- a stop

-- a stop at which no payload is known, in this block
abbrev stop_in : BundleFault → ℕ → Option CanonicalBlock → Stop
stop_in fault at cut = record (stopped fault at) { cut_block = cut }

unpaid : (paid : Bool) (fault : BundleFault) (at : ℕ) (cut : Option CanonicalBlock)
    → shown paid (Err (stop_in fault at cut)) ≡ None
unpaid true fault at cut = refl
unpaid false fault at cut = refl

module _ (paid : Bool) (fault : BundleFault) (at : ℕ) (cut : Option CanonicalBlock) where
  stop-from : {offset : ℕ}
      → ((block : CanonicalBlock) → cut ≡ Some block → offset ≤ block.data_start)
      → From paid offset (Err (stop_in fault at cut))
  stop-from next = record {
    payload = λ span is. absurd (nothing (sym (unpaid paid fault at cut) ∙ is));
    end = λ end is. cc;
    next = next;
  }

  stop-keeps : {most offset : ℕ} {bytes : List ℕ}
      → ((block : CanonicalBlock) → cut ≡ Some block → offset ≤ block.data_start)
      → PayloadStays paid most bytes offset (Err (stop_in fault at cut)) (Err (stop_in fault at cut))
  stop-keeps next = bare-keeps _ refl (unpaid paid fault at cut) (λ end is. cc) next

-- the first bytes end before the next block is whole
keeps-cut : {paid : Bool} {most offset : ℕ} {bytes : List ℕ} {later : Result Bundle Stop}
    (cut : Option CanonicalBlock) → From paid offset later
    → ((span : ℕ × ℕ) → shown paid later ≡ Some span → length bytes < span.0)
    → ((end : ℕ) → end_of later ≡ Ok end → length bytes < end)
    → ((block : CanonicalBlock) → next_in later ≡ Some block
    → (cut ≡ Some block) ⊎ (length bytes ≤ block.data_start))
    → PayloadStays paid most bytes offset (Err (stop_in Cut (length bytes) cut)) later
keeps-cut {paid = paid} {bytes = bytes} {later = later} cut from payload end placed = record {
  from = from;
  fits = λ here. record { blocks = All-nil (LiesWithin (length bytes)); end = λ end is. cc };
  few = omega arith;
  ends = record {
    lasts = inl (refl, end);
    there = inl refl;
    pays = inr (unpaid paid Cut (length bytes) cut, payload);
    new = blocks_of later;
    grows = refl;
    placed = placed;
  };
}

-- both stop before the next block is whole
both-stop : (paid : Bool) {most offset : ℕ} {bytes : List ℕ} (fault : BundleFault) (at : ℕ)
    (cut other : Option CanonicalBlock)
    → ((block : CanonicalBlock) → other ≡ Some block
    → (cut ≡ Some block) × (offset ≤ block.data_start))
    → PayloadStays paid most bytes offset (Err (stop_in Cut (length bytes) cut))
    (Err (stop_in fault at other))
both-stop paid fault at cut other known =
    keeps-cut cut (stop-from paid fault at other (λ block is. (known block is).1))
    (λ span is. absurd (nothing (sym (unpaid paid fault at other) ∙ is))) (λ end is. cc)
    (λ block is. inl (known block is).0)

-- ---- a part, and what follows it

keeps-then : {A : Type 0} {paid : Bool} {limit most : ℕ} {bytes : List ℕ} {offset : ℕ}
    {now later : ReadAt A} {next next_later : A × ℕ → Result Bundle Stop}
    → Reads limit bytes offset now later
    → ((value : A × ℕ) → (now ≡ Ok value) ⊎ (later ≡ Ok value)
    → PayloadStays paid most bytes value.1 (next value) (next_later value))
    → PayloadStays paid most bytes offset (now >>= next) (later >>= next_later)
keeps-then {now = Ok value} (is_read onward below within) each =
    let rest = each value (inl refl) in
    record {
      from = sooner onward rest.from;
      fits = λ here. rest.fits (within here);
      few = rest.few;
      ends = rest.ends;
    }
keeps-then {paid = paid} (has_fault fault here stays) each =
    stop-keeps paid fault _ None (λ block is. absurd (nothing is))
keeps-then {later = Ok value} (is_cut short (goes_on onward past)) each =
    let from = (each value (inr refl)).from in
    keeps-cut None (sooner onward from) (λ span is. omega (arith, from.payload span is))
    (λ end is. omega (arith, from.end end is)) (λ block is. inr (omega (arith, from.next block is)))
keeps-then {paid = paid} (is_cut short (stops fault)) each =
    both-stop paid fault _ None None (λ block is. absurd (nothing is))

-- ---- a change that leaves the rest of a reading as it is

-- the change puts these blocks before the others
record Leaves (front : List Block) (reading changed : Result Bundle Stop) : Type 0 where
  end : end_of changed ≡ end_of reading
  cut : cut_block_of changed ≡ cut_block_of reading
  blocks : blocks_of changed ≡ front ++ blocks_of reading

with_blocks-leaves : (blocks : List Block) (reading : Result Bundle Stop)
    → Leaves blocks reading (with_blocks blocks reading)
with_blocks-leaves blocks (Ok bundle) = record { end = refl; cut = refl; blocks = refl }
with_blocks-leaves blocks (Err stop) = record { end = refl; cut = refl; blocks = refl }

with_payload-leaves : (payload : ℕ × ℕ) (reading : Result Bundle Stop)
    → Leaves [] reading (with_payload payload reading)
with_payload-leaves payload (Ok bundle) = record { end = refl; cut = refl; blocks = refl }
with_payload-leaves payload (Err stop) = record { end = refl; cut = refl; blocks = refl }

shown-blocks : (paid : Bool) (blocks : List Block) (reading : Result Bundle Stop)
    → shown paid (with_blocks blocks reading) ≡ shown paid reading
shown-blocks true blocks reading = payload_of-blocks blocks reading
shown-blocks false blocks reading = refl

-- more bytes change the rest only
ends-change : {paid also : Bool} {front : List Block}
    {change : Result Bundle Stop → Result Bundle Stop} {bytes : List ℕ}
    {now later : Result Bundle Stop}
    → ((reading : Result Bundle Stop) → Leaves front reading (change reading))
    → Ends paid bytes now later
    → (end_of now ≡ Err Cut)
    ⊎ ((span : ℕ × ℕ) → shown also (change now) ≡ Some span → span.0 + span.1 ≤ length bytes)
    → (shown also (change later) ≡ shown also (change now)) ⊎ ((shown also (change now) ≡ None)
    × ((span : ℕ × ℕ) → shown also (change later) ≡ Some span → length bytes < span.0))
    → Ends also bytes (change now) (change later)
ends-change {front = front} {change = change} {now = now} {later = later} leaves ends there pays =
    record {
      lasts = ⊎_elim
          (λ cut.
          inl ((leaves now).end ∙ cut.0, λ end is. cut.1 end (sym (leaves later).end ∙ is)))
          (λ same. inr (ap change same)) ends.lasts;
      there = ⊎_elim (λ cut. inl ((leaves now).end ∙ cut)) (λ here. inr here) there;
      pays = pays;
      new = ends.new;
      grows = rw (
        (leaves later).blocks,
        (leaves now).blocks,
        ends.grows,
        append_assoc front (blocks_of now) ends.new,
      ) refl;
      placed = λ block is.
          rw ((leaves now).cut) (ends.placed block (rw ((leaves later).cut) at is));
    }

-- a block before what is read from its end on
from-block : {paid : Bool} {offset start : ℕ} {reading : Result Bundle Stop} (block : Block)
    → offset ≤ start → From paid start reading
    → ((found : CanonicalBlock) → next_in (with_blocks (block ∷ []) reading) ≡ Some found
    → offset ≤ found.data_start)
    → From paid offset (with_blocks (block ∷ []) reading)
from-block {paid = paid} {reading = reading} block lower from next = record {
  payload = λ span is.
      omega (arith, from.payload span (sym (shown-blocks paid (block ∷ []) reading) ∙ is));
  end = λ end is.
      omega (arith, from.end end (sym (with_blocks-leaves (block ∷ []) reading).end ∙ is));
  next = next;
}

keeps-block : {paid : Bool} {most offset start : ℕ} {bytes : List ℕ} {now later : Result Bundle Stop}
    (block : Block) → offset ≤ start → (offset ≤ length bytes → start ≤ length bytes)
    → (start ≤ length bytes → LiesWithin (length bytes) block)
    → ((found : CanonicalBlock) → next_in (with_blocks (block ∷ []) later) ≡ Some found
    → offset ≤ found.data_start)
    → PayloadStays paid most bytes start now later
    → PayloadStays paid (suc most) bytes offset (with_blocks (block ∷ []) now)
    (with_blocks (block ∷ []) later)
keeps-block {paid = paid} {bytes = bytes} {now = now} {later = later} block lower reach lies next
    keeps =
    let first = block ∷ [] in
    let leaves = with_blocks-leaves first in
    record {
      from = from-block block lower keeps.from next;
      fits = λ here.
          let fits = keeps.fits (reach here) in
          record {
            blocks = rw ((leaves now).blocks)
                (All-cons (LiesWithin (length bytes)) block (blocks_of now) (lies (reach here))
                fits.blocks);
            end = λ end is. fits.end end (sym (leaves now).end ∙ is);
          };
      few = rw ((leaves now).blocks) (omega (arith, keeps.few));
      ends = ends-change {front = first} {change = with_blocks first} leaves keeps.ends
          (rw (shown-blocks paid first now) keeps.ends.there)
          (rw (shown-blocks paid first now, shown-blocks paid first later) keeps.ends.pays);
    }

-- ---- a canonical block, and what follows it

-- a block before what is read
abbrev after_block : CanonicalBlock → (ℕ → Result Bundle Stop) → Bool × ℕ → Result Bundle Stop
after_block block rest (read, end) = with_blocks (CanonicalOf (ended block end) ∷ []) (rest end)

next_after : (block : CanonicalBlock) (end : ℕ) (reading : Result Bundle Stop)
    (found : CanonicalBlock) → block.end ≡ None
    → next_in (with_blocks (CanonicalOf (ended block end) ∷ []) reading) ≡ Some found
    → block ≡ found
next_after block end reading found none is =
    ap (λ (end : Option ℕ). record block { end = end }) none ∙ some_is reading is
  where
    some_is : (reading : Result Bundle Stop)
        → next_in (with_blocks (CanonicalOf (ended block end) ∷ []) reading) ≡ Some found
        → record block { end = None } ≡ found
    some_is (Ok bundle) is = cc
    some_is (Err stop) is = cc

-- the block that a stop inside it cuts
cut_is : (fault : BundleFault) (block found : CanonicalBlock) → cut_in fault block ≡ Some found
    → block ≡ found
cut_is fault block found = chosen (lasts fault)
  where
    chosen : (test : Bool) → (if test then None else Some block) ≡ Some found → block ≡ found
    chosen true is = cc
    chosen false is = cc

starts_at : {block found : CanonicalBlock} → block ≡ found → block.data_start ≤ found.data_start
starts_at is = omega (arith, ap (λ (block : CanonicalBlock). block.data_start) is)

keeps-inside : {paid : Bool} {limit most : ℕ} {bytes : List ℕ} {now later : ReadAt Bool}
    {rest rest_later : ℕ → Result Bundle Stop} (block : CanonicalBlock) → block.end ≡ None
    → IfOk now (λ read. block.data_start + block.data_length ≤ read.1)
    → Reads limit bytes block.data_start now later
    → ((end : ℕ) → PayloadStays paid most bytes end (rest end) (rest_later end))
    → PayloadStays paid (suc most) bytes block.data_start (inside block now >>= after_block block rest)
    (inside block later >>= after_block block rest_later)
keeps-inside {now = Ok (read, end)} {rest_later = rest_later} block unended holds
    (is_read onward below within) each =
    keeps-block (CanonicalOf (ended block end)) onward within (λ here. (omega (arith, holds), here))
    (λ found is. starts_at (next_after block end (rest_later end) found unended is)) (each end)
keeps-inside {paid = paid} block unended holds (has_fault fault here stays) each =
    stop-keeps paid fault _ (cut_in fault block) (λ found is. starts_at (cut_is fault block found is))
keeps-inside {paid = paid} {later = Ok (read, end)} {rest_later = rest_later} block unended holds
    (is_cut short (goes_on onward past)) each =
    let from = (each end).from in
    let first = CanonicalOf (ended block end) ∷ [] in
    let next = next_after block end (rest_later end) in
    keeps-cut (Some block)
    (from-block (CanonicalOf (ended block end)) onward from
    (λ found is. starts_at (next found unended is)))
    (λ span is.
    omega (arith, from.payload span (sym (shown-blocks paid first (rest_later end)) ∙ is)))
    (λ last is. omega (arith, from.end last (sym (with_blocks-leaves first (rest_later end)).end ∙ is)))
    (λ found is. inl (ap Some (next found unended is)))
keeps-inside {paid = paid} block unended holds (is_cut short (stops fault)) each =
    both-stop paid fault _ (Some block) (cut_in fault block)
    (λ found is.
    let same = cut_is fault block found is in (ap Some same, starts_at same))

-- ---- the payload block

module _ (primary : Primary) (blocks : ℕ) (block : CanonicalBlock) where
  -- the payload is known
  payload_at-known : (bytes : List ℕ)
      → payload_of (payload_at primary blocks block bytes)
      ≡ Some (block.data_start, block.data_length)
  unfolding payload_at
  payload_at-known bytes =
      known _ (then_read paid (rest_of block bytes) _
      (λ (read, end) is. kept (CanonicalOf (ended block end) ∷ []) _
      (then_read paid (row_at closing bytes end) _ (λ last is. refl))))
    where
      paid : Bundle → Type 0
      paid bundle = bundle.payload_span ≡ (block.data_start, block.data_length)

      kept : (blocks : List Block) (reading : Result Bundle Stop) → IfOk reading paid
          → IfOk (with_blocks blocks reading) paid
      kept blocks (Ok bundle) is = is
      kept blocks (Err stop) is = tt

      known : (reading : Result Bundle Stop) → IfOk reading paid
          → payload_of (with_payload (block.data_start, block.data_length) reading)
          ≡ Some (block.data_start, block.data_length)
      known (Ok bundle) is = ap Some is
      known (Err stop) is = refl

-- the end of the bundle, after its break
end-keeps : {most : ℕ} {bytes : List ℕ} (info : BundleInfo) (span : ℕ × ℕ) (last : ℕ)
    → let bundle : Bundle = record { info = info; length = last; payload_span = span; blocks = [] } in
    PayloadStays false most bytes last (Ok bundle) (Ok bundle)
end-keeps info span last = bare-keeps _ refl refl (λ end is. cc) (λ block is. absurd (nothing is))

-- a payload that is known and is there, if the bytes do not end inside the bundle
keeps-payload : {most offset : ℕ} {bytes : List ℕ} {now later : Result Bundle Stop}
    (payload : ℕ × ℕ) → offset ≤ payload.0
    → payload_of (with_payload payload now) ≡ Some payload
    → payload_of (with_payload payload later) ≡ Some payload
    → (end_of now ≡ Err Cut) ⊎ (payload.0 + payload.1 ≤ length bytes)
    → PayloadStays false most bytes offset now later
    → PayloadStays true most bytes offset (with_payload payload now) (with_payload payload later)
keeps-payload {now = now} {later = later} payload lower known known_later there keeps =
    let leaves = with_payload-leaves payload in
    record {
      from = record {
        payload = λ span is.
            let same : payload ≡ span = let is = sym known_later ∙ is in cc in
            omega (arith, ap (λ (span : ℕ × ℕ). span.0) same);
        end = λ end is. keeps.from.end end (sym (leaves later).end ∙ is);
        next = λ block is.
            keeps.from.next block (rw ((leaves later).blocks, (leaves later).cut) at is);
      };
      fits = λ here.
          let fits = keeps.fits here in
          record {
            blocks = rw ((leaves now).blocks) fits.blocks;
            end = λ end is. fits.end end (sym (leaves now).end ∙ is);
          };
      few = rw ((leaves now).blocks) keeps.few;
      ends = ends-change {front = []} {change = with_payload payload} leaves keeps.ends
          (⊎_elim (λ cut. inl cut)
          (λ here. inr (λ span is.
          let same : payload ≡ span = let is = sym known ∙ is in cc in
          omega (
            arith,
            here,
            ap (λ (span : ℕ × ℕ). span.0) same,
            ap (λ (span : ℕ × ℕ). span.1) same,
          ))) there)
          (inl (known_later ∙ sym known));
    }

payload_at-keeps : (most : ℕ) (primary : Primary) (blocks : ℕ) (block : CanonicalBlock)
    (bytes more : List ℕ) → block.end ≡ None
    → PayloadStays true (suc most) bytes block.data_start (payload_at primary blocks block bytes)
    (payload_at primary blocks block (bytes ++ more))
unfolding payload_at
payload_at-keeps most primary blocks block bytes more unended =
    let at = block.data_start in
    let size = block.data_length in
    keeps-payload (at, size) (omega arith)
    (payload_at-known primary blocks block bytes)
    (payload_at-known primary blocks block (bytes ++ more))
    (⊎_elim
    (λ missing. inl (rw (content_at-cut size block.check block.start bytes at missing) refl))
    (λ there. inr there)
    (cases_lt (length bytes) (at + size)))
    (keeps-inside block unended (data_before size block.check block.start bytes at)
    (content_at-reads bytes more size block.check block.start at)
    (λ end. keeps-then (row_at-reads bytes more closing end lasting.of_closing)
    (λ (_, last) read. end-keeps _ _ last)))

-- ---- the blocks before it

-- what is known of the heads of a block that begins at `start`, and of the offset after them
pub record IsBegun (start : ℕ) (read : CanonicalBlock × ℕ) : Type 0 where
  pub begins : read.0.start ≡ start
  pub place : read.1 ≡ read.0.data_start
  pub end : read.0.end ≡ None

pub heads_begin : (numbers bytes : List ℕ) (start : ℕ)
    → IfOk (heads_at numbers bytes start) (IsBegun start)
unfolding heads_at
heads_begin numbers bytes start =
    let holds = IsBegun start in
    then_read holds (row_at block_head bytes start) _
    (λ (count, offset) _. then_read holds (row_at unsigned bytes offset) _
    (λ (type, offset) _. then_read holds (row_at (block_number type numbers) bytes offset) _
    (λ (number, offset) _. then_read holds (row_at unsigned bytes offset) _
    (λ (flags, offset) _. then_read holds (row_at (block_check_type count) bytes offset) _
    (λ (check, offset) _. then_read holds (row_at block_data bytes offset) _
    (λ (size, offset) _. record { begins = refl; place = refl; end = refl }))))))

pub begun-of-either : (numbers bytes more : List ℕ) (start : ℕ) (read : CanonicalBlock × ℕ)
    → (heads_at numbers bytes start ≡ Ok read) ⊎ (heads_at numbers (bytes ++ more) start ≡ Ok read)
    → IsBegun start read
begun-of-either numbers bytes more start read either =
    ⊎_elim (was_read (IsBegun start) _ read (heads_begin numbers bytes start))
    (was_read (IsBegun start) _ read (heads_begin numbers (bytes ++ more) start)) either

blocks_at-keeps : (left : ℕ) (numbers : List ℕ) (primary : Primary) (bytes more : List ℕ)
    (start : ℕ)
    → PayloadStays true left bytes start (blocks_at left numbers primary bytes start)
    (blocks_at left numbers primary (bytes ++ more) start)
unfolding blocks_at
blocks_at-keeps zero numbers primary bytes more start =
    keeps-then (row_at-reads bytes more block_too_many start lasting.of_block_too_many)
    (λ value read. absurd (too_many bytes more start value read))
blocks_at-keeps (suc left) numbers primary bytes more start =
    keeps-then (heads_at-reads bytes more numbers start)
    (λ (block, next) read.
    let begun = begun-of-either numbers bytes more start (block, next) read in
    let at = block.data_start in
    rw begun.place
    (both_either (PayloadStays true (suc left) bytes at) (block.block_type == 1) _ _ _ _
    (payload_at-keeps left primary (length numbers + 1) block bytes more begun.end)
    (keeps-inside block begun.end (data_before block.data_length block.check block.start bytes at)
    (content_at-reads bytes more block.data_length block.check block.start at)
    (λ end. blocks_at-keeps left (numbers ++ block.number ∷ []) primary bytes more end))))

-- ---- the primary block before them

next_primary : (primary : Primary) (check : Option CheckKind) (end : ℕ)
    (reading : Result Bundle Stop) (found : CanonicalBlock)
    → next_in (with_blocks (PrimaryOf primary check end ∷ []) reading) ≡ Some found → ⊥
next_primary primary check end (Ok bundle) found is = nothing is
next_primary primary check end (Err stop) found is = nothing is

pub bundle_at-keeps : (bytes more : List ℕ)
    → PayloadStays true 65 bytes 0 (bundle_at bytes) (bundle_at (bytes ++ more))
bundle_at-keeps bytes more =
    rw (bundle_parts bytes, bundle_parts (bytes ++ more))
    (keeps-then (whole_primary-reads bytes more)
    (λ ((primary, check), end) read.
    keeps-block (PrimaryOf primary check end) (omega arith) (λ here. here) (λ here. here)
    (λ found is. absurd (next_primary primary check end _ found is))
    (blocks_at-keeps 64 [] primary bytes more end)))

pub bundle_at-fits : (bytes : List ℕ) → Fits bytes (bundle_at bytes)
bundle_at-fits bytes = (bundle_at-keeps bytes []).fits (omega arith)

pub bundle_at-lasts : (bytes more : List ℕ)
    → Lasts (λ bundle. bundle.length) bytes (bundle_at bytes) (bundle_at (bytes ++ more))
bundle_at-lasts bytes more =
    ⊎_elim (λ cut. cuts cut.0 cut.1) (λ is. same is (bundle_at-fits bytes).end)
    (bundle_at-keeps bytes more).ends.lasts
