-- The parts that are read from some bytes, and from those bytes with more after them. Each part has
-- at most so many bytes.

use Rattle.std.proofs.Common.{◌≡◌, ℕ, suc, ◌+◌, ◌-◌, ◌/◌, ◌%◌, ◌^◌, ◌<◌, ◌≤◌, Bool, true, false, List, [], ◌∷◌, ◌++◌, length, drop, Option, None, Some, Result, Ok, Err, refl, sym, ◌∙◌, ◌⊎◌, inl, inr, ⊎_elim, length-append, length-drop, arith, leb, ltb}
use Rattle.std.specs.Prelude.{◌==◌, slice_range, unwrap_or, IfOk, IfErr, IsTrue, if◌then◌else◌}
use Rattle.std.proofs.lemmas.Bool.{cases_lt, Decides.nat_tests}
use Rattle.std.proofs.{lemmas.List.{drop-append-le, take-append-le}, Math.{ListN.drop_of_length-le, Nat.pow-le-pow_right}}
use Rattle.link_cbor.specs.declared.{check.CheckKind.CheckKind, head.Head.Head}
use Rattle.link_cbor.specs.declared.check.CheckKind.TheVariants.{Crc16, Crc32}
use Rattle.link_cbor.specs.Head.{HeadFront, Cut as CutHead, IllFormed, Whole, argument_front, with_argument, no_argument, front_by, head_front}
use Rattle.link_cbor.proofs.HeadLaws.{EndsFrom, HeadStays, ends_inside, ends_after, head_stays}
use Rattle.link_bundle_types.specs.declared.fault.BundleFault.{BundleFault}
use Rattle.link_bundle_types.specs.declared.fault.BundleFault.TheVariants.{Cut, NotABundle, CheckDiffers}
use Rattle.link_bundle_types.specs.Faults.{lasts}
use Rattle.link_bundle_heads.specs.declared.endpoint.{Scheme.Scheme, Scheme.TheVariants.{Dtn, Ipn}}
use Rattle.link_bundle_heads.specs.Rows.{◌>>=◌, is_absent, is_break, unsigned, block_data, array, pair, primary_block, version, check_type, primary_check_type, scheme, dtn_part, ipn_part, block as block_head, block_too_many, block_number, block_check_type, check_width, check_field, closing}
use Rattle.link_bundle_blocks.specs.Reading.{Stop, ReadAt, stopped, cut_short, head_by, outcome_at, head_at, row_at, bytes_at}
use Rattle.link_bundle_blocks.specs.EndpointId.{dtn_at, ipn_at, specific_at, eid_at}
use Rattle.link_bundle_blocks.specs.CheckField.{number_from, check_of, field_at}
use Rattle.link_bundle_blocks.specs.{Canonical.{heads_at, content_at}, Bundle.opening_at}
use Rattle.link_bundle_blocks.specs.Parts.{next_block_at, field_from, any_field}
use Rattle.link_bundle_blocks.proofs.{Readings.{then_read, was_read, bytes_at-whole}, Runs.bytes_at-cut}

-- what holds of both branches holds of the one that is chosen
pub of_either : {A : Type 0} (P : A → Type 0) (test : Bool) (one other : A) → P one → P other
    → P (if test then one else other)
of_either P true one other taken passed = taken
of_either P false one other taken passed = passed

-- the same of two choices
pub both_either : {A : Type 0} (P : A → A → Type 0) (test : Bool) (one also other another : A)
    → P one also → P other another
    → P (if test then one else other) (if test then also else another)
both_either P true one also other another taken passed = taken
both_either P false one also other another taken passed = passed

-- ---- two readings

-- the reading stops where the bytes end, and no payload is known
abbrev pub IsCut : {A : Type 0} → List ℕ → Result A Stop → Type 0
IsCut bytes (Ok value) = ⊥
IsCut bytes (Err stop) = stop ≡ stopped Cut (length bytes)

-- a part that begins at the offset ends after the bytes, or a stop in it knows no more
pub data Goes {A : Type 0} (bytes : List ℕ) (offset : ℕ) : ReadAt A → Type 0 where
  goes_on : {value : A} {next : ℕ} → offset ≤ next → length bytes < next
      → Goes bytes offset (Ok (value, next))
  stops : (fault : BundleFault) {at : ℕ} → Goes bytes offset (Err (stopped fault at))

-- A part that is read at an offset of some bytes, and of those bytes with more after them. It has
-- at most `limit` bytes. If the first bytes do not end inside it, it stays the same.
pub data Reads {A : Type 0} (limit : ℕ) (bytes : List ℕ) (offset : ℕ)
    : ReadAt A → ReadAt A → Type 0 where
  is_read : {value : A} {next : ℕ} → offset ≤ next
      → (offset ≤ length bytes → next ≤ offset + limit)
      → (offset ≤ length bytes → next ≤ length bytes)
      → Reads limit bytes offset (Ok (value, next)) (Ok (value, next))
  has_fault : (fault : BundleFault) {at : ℕ} → (offset ≤ length bytes → at ≤ length bytes)
      → IsTrue (lasts fault)
      → Reads limit bytes offset (Err (stopped fault at)) (Err (stopped fault at))
  is_cut : {later : ReadAt A} → length bytes < offset + limit → Goes bytes offset later
      → Reads limit bytes offset (cut_short bytes) later

-- the same from an earlier offset on
goes-from : {A : Type 0} {bytes : List ℕ} {offset start : ℕ} {later : ReadAt A} → offset ≤ start
    → Goes bytes start later → Goes bytes offset later
goes-from before (goes_on onward past) = goes_on (omega arith) past
goes-from before (stops fault) = stops fault

-- a part that begins after the bytes
pub goes-of : {A : Type 0} {limit : ℕ} {bytes : List ℕ} {offset start : ℕ} {now later : ReadAt A}
    → offset ≤ start → length bytes < start → Reads limit bytes start now later
    → Goes bytes offset later
goes-of before past (is_read onward below within) = goes_on (omega arith) (omega arith)
goes-of before past (has_fault fault here stays) = stops fault
goes-of before past (is_cut short goes) = goes-from before goes

reads-from : {A : Type 0} {limit more : ℕ} {bytes : List ℕ} {offset start : ℕ} {now later : ReadAt A}
    → offset ≤ start → (offset ≤ length bytes → start + limit ≤ offset + more)
    → (offset ≤ length bytes → start ≤ length bytes)
    → Reads limit bytes start now later → Reads more bytes offset now later
reads-from before reach here (is_read onward below within) =
    is_read (omega arith) (λ at. omega (arith, reach at, below (here at))) (λ at. within (here at))
reads-from before reach here (has_fault fault there stays) =
    has_fault fault (λ at. there (here at)) stays
reads-from {bytes = bytes} {offset = offset} before reach here (is_cut short goes) =
    is_cut (⊎_elim (λ follows. omega arith) (λ at. omega (arith, reach at))
    (cases_lt (length bytes) offset)) (goes-from before goes)

pub reads-then : {A B : Type 0} {limit more : ℕ} {bytes : List ℕ} {offset : ℕ}
    {now later : ReadAt A} {next next_later : A × ℕ → ReadAt B}
    → Reads limit bytes offset now later
    → ((value : A × ℕ) → offset ≤ value.1 → (now ≡ Ok value) ⊎ (later ≡ Ok value)
    → Reads more bytes value.1 (next value) (next_later value))
    → Reads (limit + more) bytes offset (now >>= next) (later >>= next_later)
reads-then (is_read onward below within) each =
    reads-from onward (λ at. omega (arith, below at)) within (each _ onward (inl refl))
reads-then (has_fault fault here stays) each = has_fault fault here stays
reads-then (is_cut short (goes_on onward past)) each =
    is_cut (omega arith) (goes-of onward past (each _ onward (inr refl)))
reads-then (is_cut short (stops fault)) each = is_cut (omega arith) (stops fault)

-- the same with a higher limit
reads-below : {A : Type 0} {limit more : ℕ} {bytes : List ℕ} {offset : ℕ} {now later : ReadAt A}
    → limit ≤ more → Reads limit bytes offset now later → Reads more bytes offset now later
reads-below below reads = reads-from (omega arith) (λ at. omega arith) (λ at. at) reads

-- a part that is read within the bytes has no more bytes than there are
pub reads-any : {A : Type 0} {limit : ℕ} {bytes : List ℕ} {offset : ℕ} {now later : ReadAt A}
    → Reads limit bytes offset now later → Reads (suc (length bytes)) bytes offset now later
reads-any (is_read onward below within) =
    is_read onward (λ at. omega (arith, within at)) within
reads-any (has_fault fault here stays) = has_fault fault here stays
reads-any (is_cut short goes) = is_cut (omega arith) goes

-- no more bytes are read
pub ended : {A : Type 0} {bytes : List ℕ} (value : A) (offset : ℕ)
    → Reads 0 bytes offset (Ok (value, offset)) (Ok (value, offset))
ended value offset = is_read (omega arith) (λ at. omega arith) (λ at. at)

-- bytes that end inside a part are fewer than its limit
pub cut-below : {A : Type 0} {limit : ℕ} {bytes : List ℕ} {now later : ReadAt A}
    → Reads limit bytes 0 now later → IsCut bytes now → length bytes < limit
cut-below reads cut = grind (arith, reads)

-- a part that is read ends where it begins or after it
pub on_by : {A : Type 0} {limit : ℕ} {bytes : List ℕ} {offset : ℕ} {now later : ReadAt A}
    → Reads limit bytes offset now later → IfOk now (λ value. offset ≤ value.1)
on_by (is_read onward below within) = onward
on_by (has_fault fault here stays) = tt
on_by (is_cut short goes) = tt

-- ---- a head

-- the faults of a row last
abbrev pub Lasting : {A : Type 0} → (Head → Result A BundleFault) → Type 0
Lasting row = (head : Head) → IfErr (row head) (λ fault. IsTrue (lasts fault))

-- the faults of each row last
pub record RowsLast : Type 0 where
  pub of_unsigned : Lasting unsigned
  pub of_block_data : Lasting block_data
  pub of_pair : Lasting pair
  pub of_primary_block : Lasting primary_block
  pub of_version : Lasting version
  pub of_primary_check_type : (count flags : ℕ) → Lasting (primary_check_type count flags)
  pub of_scheme : Lasting scheme
  pub of_dtn_part : Lasting dtn_part
  pub of_ipn_part : Lasting ipn_part
  pub of_block : Lasting block_head
  pub of_block_too_many : Lasting block_too_many
  pub of_block_number : (type : ℕ) (numbers : List ℕ) → Lasting (block_number type numbers)
  pub of_block_check_type : (count : ℕ) → Lasting (block_check_type count)
  pub of_check_field : (kind : CheckKind) → Lasting (check_field kind)
  pub of_closing : Lasting closing

pub lasting : RowsLast
unfolding unsigned block_data pair array primary_block version primary_check_type check_type
    scheme dtn_part ipn_part block_head block_too_many block_number block_check_type check_field
    closing is_break
lasting = record {
  of_unsigned = λ head. grind (arith, nat_tests);
  of_block_data = λ head. grind (arith, nat_tests);
  of_pair = λ head. grind (arith, nat_tests);
  of_primary_block = λ head. grind (arith, nat_tests);
  of_version = λ head. grind (arith, nat_tests);
  of_primary_check_type = λ count flags head. grind (arith, nat_tests);
  of_scheme = λ head. grind (arith, nat_tests);
  of_dtn_part = λ head. grind (arith, nat_tests);
  of_ipn_part = λ head. grind (arith, nat_tests);
  of_block = λ head. grind (arith, nat_tests);
  of_block_too_many = λ head. grind (arith, nat_tests);
  of_block_number = λ type numbers head. grind (arith, nat_tests);
  of_block_check_type = λ count head. grind (arith, nat_tests);
  of_check_field = λ kind head. grind (arith, nat_tests);
  of_closing = λ head. grind (arith, nat_tests);
}

-- A whole head has at most nine bytes, and one byte if it has no value. Bytes that end inside a
-- head are fewer.
abbrev pub FrontSpans : List ℕ → HeadFront → Type 0
FrontSpans bytes CutHead = length bytes < 9
FrontSpans bytes IllFormed = Unit {0}
FrontSpans bytes (Whole head size) = (size ≤ 9) × (is_absent head.value ≡ true → size ≡ 1)

front_by-spans : (major information first : ℕ) (rest : List ℕ)
    → FrontSpans (first ∷ rest) (front_by major information rest)
unfolding front_by argument_front with_argument no_argument
front_by-spans major information first rest = grind (arith, nat_tests, bound)
  where
    bound : information < 28 → 2 ^ (information - 24) ≤ 8
    bound below =
        let step : information - 24 ≤ 3 = omega arith in
        pow-le-pow_right {n = 2} (omega arith) step

pub front-spans : (bytes : List ℕ) → FrontSpans bytes (head_front bytes)
unfolding head_front
front-spans [] = omega arith
front-spans (first ∷ rest) = front_by-spans (first / 32) (first % 32) first rest

front-stays : (bytes more : List ℕ) (offset : ℕ)
    → HeadStays (drop offset bytes) (head_front (drop offset bytes))
    (head_front (drop offset (bytes ++ more)))
front-stays bytes more offset =
    ⊎_elim
    (λ follows.
    let none : drop offset bytes ≡ [] = drop_of_length-le bytes (omega arith) in
    rw none (head_stays [] (drop offset (bytes ++ more))))
    (λ here. rw (drop-append-le offset bytes more here) (head_stays (drop offset bytes) more))
    (cases_lt (length bytes) offset)

-- a head that is judged by its row
abbrev judged : {A : Type 0} → (Head → Result A BundleFault) → List ℕ → ℕ → HeadFront → ReadAt A
judged row bytes offset front =
    head_by bytes offset front >>= λ (head, next). outcome_at offset next (row head)

judged-goes : {A : Type 0} (row : Head → Result A BundleFault) (bytes all : List ℕ) (offset : ℕ)
    (front : HeadFront) → EndsFrom (suc (length (drop offset bytes))) front
    → Goes bytes offset (judged row all offset front)
judged-goes row bytes all offset CutHead ends = stops _
judged-goes row bytes all offset IllFormed ends = stops _
judged-goes {A = A} row bytes all offset (Whole head size) ends = outcome (row head)
  where
    outcome : (outcome : Result A BundleFault)
        → Goes bytes offset (outcome_at offset (offset + size) outcome)
    outcome (Ok value) = goes_on (omega arith) (omega (arith, length-drop offset bytes))
    outcome (Err fault) = stops fault

outcome_at-reads : {A : Type 0} (bytes : List ℕ) (offset size : ℕ) (outcome : Result A BundleFault)
    → size ≤ 9 → size ≤ length (drop offset bytes) → IfErr outcome (λ fault. IsTrue (lasts fault))
    → Reads 9 bytes offset (outcome_at offset (offset + size) outcome)
    (outcome_at offset (offset + size) outcome)
outcome_at-reads bytes offset size (Ok value) small within lasting =
    is_read (omega arith) (λ at. omega arith) (λ at. omega (arith, length-drop offset bytes))
outcome_at-reads bytes offset size (Err fault) small within lasting =
    has_fault fault (λ at. at) lasting

judged-reads : {A : Type 0} (row : Head → Result A BundleFault) (bytes all : List ℕ) (offset : ℕ)
    (now later : HeadFront) → Lasting row → FrontSpans (drop offset bytes) now
    → HeadStays (drop offset bytes) now later
    → Reads 9 bytes offset (judged row bytes offset now) (judged row all offset later)
judged-reads row bytes all offset now later lasting spans (ends_inside cut ends) =
    let short : length (drop offset bytes) < 9 = rw cut at spans in
    rw cut (is_cut (omega (arith, length-drop offset bytes))
    (judged-goes row bytes all offset later ends))
judged-reads row bytes all offset CutHead later lasting spans (ends_after is within) = absurd within
judged-reads row bytes all offset IllFormed later lasting spans (ends_after is within) =
    rw is (has_fault _ (λ at. at) refl)
judged-reads row bytes all offset (Whole head size) later lasting spans (ends_after is within) =
    rw is (outcome_at-reads bytes offset size (row head) spans.0 within (lasting head))

-- what holds of each value of a row holds of the value that is read
row_at-holds : {A : Type 0} (holds : A → Type 0) (row : Head → Result A BundleFault)
    (bytes : List ℕ) (offset : ℕ) (value : A × ℕ)
    → ((head : Head) → IfOk (row head) holds)
    → row_at row bytes offset ≡ Ok value
    → holds value.0
unfolding row_at
row_at-holds {A = A} holds row bytes offset value each is =
    was_read (λ read. holds read.0) _ value
    (then_read (λ read. holds read.0) (head_at bytes offset) _
    (λ (head, next) read. outcome next (row head) (each head))) is
  where
    outcome : (next : ℕ) (outcome : Result A BundleFault) → IfOk outcome holds
        → IfOk (outcome_at offset next outcome) (λ read. holds read.0)
    outcome next (Ok value) held = held
    outcome next (Err fault) held = tt

-- a name has at most 1,024 bytes
dtn_part-fits : (head : Head) → IfOk (dtn_part head) (λ part. unwrap_or part 0 ≤ 1024)
unfolding dtn_part
dtn_part-fits head = grind (arith, nat_tests)

-- no block follows 64 blocks
too_many-refused : (head : Head) → IfOk (block_too_many head) (λ count. ⊥)
unfolding block_too_many
too_many-refused head = grind arith

width : (kind : CheckKind) → check_width kind ≤ 4
width Crc16 = omega arith
width Crc32 = omega arith

-- the content of a check field, compared with the check
abbrev pub compared : CheckKind → (offset content check : ℕ) → List ℕ → ReadAt Bool
compared kind offset content check bytes =
    bytes_at (check_width kind) bytes content >>= λ (stored, next).
    if number_from 0 stored == check then Ok (true, next) else Err (stopped CheckDiffers offset)

-- the bytes that are checked come before the content
slice-stays : (bytes more : List ℕ) (start end : ℕ) → end ≤ length bytes
    → slice_range (bytes ++ more) start end ≡ slice_range bytes start end
slice-stays bytes more start end within =
    ⊎_elim
    (λ follows. let none : end - start ≡ 0 = omega arith in rw none refl)
    (λ before.
    let fits : end - start ≤ length (drop start bytes) = omega (arith, length-drop start bytes) in
    rw (
      drop-append-le start bytes more (omega arith),
      take-append-le (end - start) (drop start bytes) more fits,
    ) refl)
    (cases_lt end start)

bytes_at-goes : (count : ℕ) (bytes all : List ℕ) (offset : ℕ) → length bytes < offset + count
    → Goes bytes offset (bytes_at count all offset)
unfolding bytes_at
bytes_at-goes count bytes all offset missing =
    of_either (Goes bytes offset) (ltb (length all) (offset + count)) (cut_short all) (Ok _) (stops _)
    (goes_on (omega arith) missing)

bytes_at-stays : (count : ℕ) (bytes more : List ℕ) (offset : ℕ) → offset + count ≤ length bytes
    → bytes_at count (bytes ++ more) offset ≡ bytes_at count bytes offset
bytes_at-stays count bytes more offset there =
    let within : offset ≤ length bytes = omega arith in
    let fits : count ≤ length (drop offset bytes) = omega (arith, length-drop offset bytes) in
    bytes_at-whole count (bytes ++ more) offset (omega (arith, length-append bytes more))
    ∙ rw (
      drop-append-le offset bytes more within,
      take-append-le count (drop offset bytes) more fits,
    ) (sym (bytes_at-whole count bytes offset there))

-- ---- each part of a bundle

module _ (bytes more : List ℕ) where
  pub row_at-reads : {A : Type 0} (row : Head → Result A BundleFault) (offset : ℕ) → Lasting row
      → Reads 9 bytes offset (row_at row bytes offset) (row_at row (bytes ++ more) offset)
  unfolding row_at head_at
  row_at-reads row offset lasting =
      judged-reads row bytes (bytes ++ more) offset (head_front (drop offset bytes))
      (head_front (drop offset (bytes ++ more))) lasting (front-spans (drop offset bytes))
      (front-stays bytes more offset)

  row-then : {A B : Type 0} (row : Head → Result A BundleFault) {limit offset : ℕ}
      {next next_later : A × ℕ → ReadAt B} → Lasting row
      → ((value : A × ℕ) → Reads limit bytes value.1 (next value) (next_later value))
      → Reads (9 + limit) bytes offset (row_at row bytes offset >>= next)
      (row_at row (bytes ++ more) offset >>= next_later)
  row-then row {offset = offset} lasting each =
      reads-then (row_at-reads row offset lasting) (λ value onward read. each value)

  -- what holds of each value of a row holds of both values
  both-hold : {A : Type 0} (holds : A → Type 0) (row : Head → Result A BundleFault) (offset : ℕ)
      (value : A × ℕ) → ((head : Head) → IfOk (row head) holds)
      → (row_at row bytes offset ≡ Ok value) ⊎ (row_at row (bytes ++ more) offset ≡ Ok value)
      → holds value.0
  both-hold holds row offset value each either =
      ⊎_elim (row_at-holds holds row bytes offset value each)
      (row_at-holds holds row (bytes ++ more) offset value each) either

  pub bytes_at-reads : (count offset : ℕ)
      → Reads count bytes offset (bytes_at count bytes offset) (bytes_at count (bytes ++ more) offset)
  bytes_at-reads count offset =
      ⊎_elim
      (λ missing. rw (bytes_at-cut count bytes offset missing)
      (is_cut missing (bytes_at-goes count bytes (bytes ++ more) offset missing)))
      (λ there.
      rw (bytes_at-stays count bytes more offset there, bytes_at-whole count bytes offset there)
      (is_read {next = offset + count} (omega arith) (λ at. omega arith) (λ at. there)))
      (cases_lt (length bytes) (offset + count))

  dtn_at-reads : (part : Option ℕ) (offset : ℕ) → unwrap_or part 0 ≤ 1024
      → Reads 1024 bytes offset (dtn_at part bytes offset) (dtn_at part (bytes ++ more) offset)
  unfolding dtn_at
  dtn_at-reads None offset fits = reads-below {limit = 0} (omega arith) (ended _ offset)
  dtn_at-reads (Some count) offset fits =
      reads-below {limit = count + 0} (omega arith)
      (reads-then (bytes_at-reads count offset) (λ (name, end) onward read. ended _ end))

  ipn_at-reads : (allocated : Bool) (offset : ℕ)
      → Reads 27 bytes offset (ipn_at allocated bytes offset) (ipn_at allocated (bytes ++ more) offset)
  unfolding ipn_at
  ipn_at-reads false offset =
      reads-below {limit = 18} (omega arith)
      (row-then unsigned lasting.of_unsigned
      (λ (node, offset). row-then unsigned lasting.of_unsigned (λ (service, end). ended _ end)))
  ipn_at-reads true offset =
      row-then unsigned lasting.of_unsigned
      (λ (allocator, offset). row-then unsigned lasting.of_unsigned
      (λ (node, offset). row-then unsigned lasting.of_unsigned (λ (service, end). ended _ end)))

  specific_at-reads : (which : Scheme) (offset : ℕ)
      → Reads 1033 bytes offset (specific_at which bytes offset)
      (specific_at which (bytes ++ more) offset)
  unfolding specific_at
  specific_at-reads Dtn offset =
      reads-then (row_at-reads dtn_part offset lasting.of_dtn_part)
      (λ (part, next) onward either. dtn_at-reads part next
      (both-hold (λ part. unwrap_or part 0 ≤ 1024) dtn_part offset (part, next) dtn_part-fits
      either))
  specific_at-reads Ipn offset =
      reads-below {limit = 36} (omega arith)
      (row-then ipn_part lasting.of_ipn_part (λ (count, next). ipn_at-reads (count == 3) next))

  pub eid_at-reads : (offset : ℕ)
      → Reads 1051 bytes offset (eid_at bytes offset) (eid_at (bytes ++ more) offset)
  unfolding eid_at
  eid_at-reads offset =
      row-then pair lasting.of_pair
      (λ (_, offset). row-then scheme lasting.of_scheme
      (λ (which, offset). specific_at-reads which offset))

  compared-same : (kind : CheckKind) (offset content check : ℕ) → offset ≤ content
      → Reads 4 bytes content (compared kind offset content check bytes)
      (compared kind offset content check (bytes ++ more))
  compared-same kind offset content check before =
      reads-below {limit = check_width kind + 0} (omega (arith, width kind))
      (reads-then (bytes_at-reads (check_width kind) content)
      (λ (stored, next) onward either.
      of_either (λ (reading : ReadAt Bool). Reads 0 bytes next reading reading)
      (number_from 0 stored == check) (Ok (true, next)) (Err (stopped CheckDiffers offset))
      (ended true next) (has_fault _ (λ at. omega arith) refl)))

  -- the check is the same, if the content begins within the first bytes
  compared-reads : (kind : CheckKind) (offset content check later : ℕ) → offset ≤ content
      → (content ≤ length bytes → later ≡ check)
      → Reads 4 bytes content (compared kind offset content check bytes)
      (compared kind offset content later (bytes ++ more))
  compared-reads kind offset content check later before stays =
      ⊎_elim
      (λ follows.
      let cut = bytes_at-cut (check_width kind) bytes content (omega arith) in
      rw cut (rw cut at (compared-same kind offset content later before)))
      (λ within. rw (stays within) (compared-same kind offset content check before))
      (cases_lt (length bytes) content)

  pub field_at-reads : (check : Option CheckKind) (start offset : ℕ)
      → Reads 13 bytes offset (field_at check start bytes offset)
      (field_at check start (bytes ++ more) offset)
  unfolding field_at check_of
  field_at-reads None start offset = reads-below {limit = 0} (omega arith) (ended true offset)
  field_at-reads (Some kind) start offset =
      reads-then (row_at-reads (check_field kind) offset (lasting.of_check_field kind))
      (λ (_, content) onward either. compared-reads kind offset content _ _ onward
      (λ within. rw (slice-stays bytes more start content within) refl))

  pub content_at-reads : (size : ℕ) (check : Option CheckKind) (start offset : ℕ)
      → Reads (size + 13) bytes offset (content_at size check start bytes offset)
      (content_at size check start (bytes ++ more) offset)
  unfolding content_at
  content_at-reads size check start offset =
      reads-then (bytes_at-reads size offset)
      (λ (_, offset) onward read. field_at-reads check start offset)

  pub heads_at-reads : (numbers : List ℕ) (offset : ℕ)
      → Reads 54 bytes offset (heads_at numbers bytes offset) (heads_at numbers (bytes ++ more) offset)
  unfolding heads_at
  heads_at-reads numbers offset =
      row-then block_head lasting.of_block
      (λ (count, offset). row-then unsigned lasting.of_unsigned
      (λ (type, offset). row-then (block_number type numbers) (lasting.of_block_number type numbers)
      (λ (number, offset). row-then unsigned lasting.of_unsigned
      (λ (flags, offset). row-then (block_check_type count) (lasting.of_block_check_type count)
      (λ (check, offset). row-then block_data lasting.of_block_data
      (λ (size, offset). ended _ offset))))))

  -- no block is read after 64 blocks
  pub too_many : (offset : ℕ) (value : ℕ × ℕ)
      → (row_at block_too_many bytes offset ≡ Ok value)
      ⊎ (row_at block_too_many (bytes ++ more) offset ≡ Ok value) → ⊥
  too_many offset value either =
      both-hold (λ count. ⊥) block_too_many offset value too_many-refused either

  pub next_block_at-reads : (numbers : List ℕ) (start : ℕ)
      → Reads 54 bytes start (next_block_at numbers bytes start)
      (next_block_at numbers (bytes ++ more) start)
  unfolding next_block_at
  next_block_at-reads numbers start =
      both_either (Reads 54 bytes start) (leb 64 (length numbers)) _ _ _ _
      (reads-then {more = 45} (row_at-reads block_too_many start lasting.of_block_too_many)
      (λ value onward either. absurd (too_many start value either)))
      (heads_at-reads numbers start)

  pub field_from-reads : (kind : CheckKind) (before : List ℕ)
      → Reads 13 bytes 0 (field_from kind before bytes) (field_from kind before (bytes ++ more))
  unfolding field_from
  field_from-reads kind before =
      reads-then (row_at-reads (check_field kind) 0 (lasting.of_check_field kind))
      (λ (_, content) onward either. compared-reads kind 0 content _ _ onward
      (λ within. rw (take-append-le content bytes more within) refl))

  pub any_field-reads : (kind : CheckKind)
      → Reads 13 bytes 0 (any_field kind bytes) (any_field kind (bytes ++ more))
  unfolding any_field
  any_field-reads kind =
      reads-below {limit = 9 + (check_width kind + 0)} (omega (arith, width kind))
      (row-then (check_field kind) (lasting.of_check_field kind)
      (λ (_, content). reads-then (bytes_at-reads (check_width kind) content)
      (λ (_, next) onward read. ended true next)))

pub opening_at-reads : (bytes more : List ℕ)
    → Reads 1 bytes 0 (opening_at bytes) (opening_at (bytes ++ more))
unfolding opening_at
opening_at-reads [] [] = is_cut (omega arith) (stops _)
opening_at-reads [] (first ∷ rest) =
    is_cut (omega arith) (of_either (Goes [] 0) (first == 0x9f) (Ok (true, 1)) (Err _)
    (goes_on (omega arith) (omega arith)) (stops _))
opening_at-reads (first ∷ rest) more =
    of_either (λ (reading : ReadAt Bool). Reads 1 (first ∷ rest) 0 reading reading)
    (first == 0x9f) (Ok (true, 1)) (Err (stopped NotABundle 0))
    (is_read (omega arith) (λ at. omega arith) (λ at. omega arith)) (has_fault _ (λ at. at) refl)

-- the data of a block lies before the end of its check field
pub data_before : (size : ℕ) (check : Option CheckKind) (start : ℕ) (bytes : List ℕ) (offset : ℕ)
    → IfOk (content_at size check start bytes offset) (λ value. offset + size ≤ value.1)
unfolding content_at bytes_at
data_before size check start bytes offset =
    of_either (λ (taken : ReadAt (List ℕ)).
    IfOk (taken >>= λ (_, offset). field_at check start bytes offset)
    (λ value. offset + size ≤ value.1)) (ltb (length bytes) (offset + size)) (cut_short bytes)
    (Ok _) tt
    (on_by (field_at-reads bytes [] check start (offset + size)))
