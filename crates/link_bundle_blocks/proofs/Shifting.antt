-- The parts that are read from some bytes, and from those bytes with others before them.

use Rattle.std.proofs.Common.{◌≡◌, ℕ, ◌+◌, ◌-◌, Bool, true, false, List, ◌++◌, length, drop, Option, None, Some, Result, Ok, Err, refl, ap, ◌∙◌, sym, ⊎_elim, length-append, arith, ltb}
use Rattle.std.specs.Prelude.{◌==◌, if◌then◌else◌}
use Rattle.std.proofs.lemmas.{Bool.{cases_lt, lt-ltb, le-ltb}, List.drop-drop}
use Rattle.std.proofs.Math.Seq.{drop-append_seam}
use Rattle.link_cbor.specs.declared.{check.CheckKind.CheckKind, head.Head.Head}
use Rattle.link_cbor.specs.Head.{HeadFront, Cut as CutHead, IllFormed, Whole, head_front}
use Rattle.link_bundle_types.specs.declared.fault.BundleFault.{BundleFault}
use Rattle.link_bundle_types.specs.declared.fault.BundleFault.TheVariants.{CheckDiffers}
use Rattle.link_bundle_heads.specs.Rows.{◌>>=◌, unsigned, block_data, block as block_head, block_number, block_check_type, check_width, check_field}
use Rattle.link_bundle_blocks.specs.declared.block.CanonicalBlock.{CanonicalBlock}
use Rattle.link_bundle_blocks.specs.Reading.{ReadAt, stopped, head_by, outcome_at, head_at, row_at, bytes_at}
use Rattle.link_bundle_blocks.specs.CheckField.{number_from, check_of, field_at}
use Rattle.link_bundle_blocks.specs.Canonical.{heads_at, content_at}
use Rattle.link_bundle_blocks.specs.Whole.{whole_canonical, moved}
use Rattle.link_bundle_blocks.proofs.Steady.{compared}

-- a reading whose bytes have `count` more bytes before them, and whose value changes so
abbrev pub shifted : {A : Type 0} → ℕ → (A → A) → ReadAt A → ReadAt A
shifted count change (Ok (value, next)) = Ok (change value, count + next)
shifted count change (Err stop) = Err (record stop { offset = count + stop.offset })

-- a value that stays the same
abbrev pub same : {A : Type 0} → A → A
same value = value

pub shifted-then : {A B : Type 0} (count : ℕ) (change : A → A) (change_next : B → B)
    (reading later : ReadAt A) (next next_later : A × ℕ → ReadAt B)
    → later ≡ shifted count change reading
    → ((value : A) (offset : ℕ)
    → next_later (change value, count + offset) ≡ shifted count change_next (next (value, offset)))
    → (later >>= next_later) ≡ shifted count change_next (reading >>= next)
shifted-then count change change_next (Ok (value, offset)) later next next_later is each =
    rw is (each value offset)
shifted-then count change change_next (Err stop) later next next_later is each = rw is refl

pub shifted-if : {A : Type 0} (count : ℕ) (change : A → A) (test : Bool)
    (one other one_later other_later : ReadAt A)
    → one_later ≡ shifted count change one → other_later ≡ shifted count change other
    → (if test then one_later else other_later)
    ≡ shifted count change (if test then one else other)
shifted-if count change true one other one_later other_later taken passed = taken
shifted-if count change false one other one_later other_later taken passed = passed

drop-front : (front bytes : List ℕ) (offset : ℕ)
    → drop (length front + offset) (front ++ bytes) ≡ drop offset bytes
drop-front front bytes offset =
    sym (drop-drop offset (length front) (front ++ bytes))
    ∙ ap (λ (rest : List ℕ). drop offset rest) (drop-append_seam front bytes)

head_by-shifted : (front bytes : List ℕ) (offset : ℕ) (head : HeadFront)
    → head_by (front ++ bytes) (length front + offset) head
    ≡ shifted (length front) same (head_by bytes offset head)
head_by-shifted front bytes offset CutHead = rw (length-append front bytes) refl
head_by-shifted front bytes offset IllFormed = refl
head_by-shifted front bytes offset (Whole head size) =
    let sum : length front + offset + size ≡ length front + (offset + size) = omega arith in
    rw sum refl

head_at-shifted : (front bytes : List ℕ) (offset : ℕ)
    → head_at (front ++ bytes) (length front + offset)
    ≡ shifted (length front) same (head_at bytes offset)
unfolding head_at
head_at-shifted front bytes offset =
    rw (drop-front front bytes offset)
    (head_by-shifted front bytes offset (head_front (drop offset bytes)))

outcome_at-shifted : {A : Type 0} (count offset next : ℕ) (outcome : Result A BundleFault)
    → outcome_at (count + offset) (count + next) outcome
    ≡ shifted count same (outcome_at offset next outcome)
outcome_at-shifted count offset next (Ok value) = refl
outcome_at-shifted count offset next (Err fault) = refl

pub row_at-shifted : {A : Type 0} (row : Head → Result A BundleFault) (front bytes : List ℕ)
    (offset : ℕ)
    → row_at row (front ++ bytes) (length front + offset)
    ≡ shifted (length front) same (row_at row bytes offset)
unfolding row_at
row_at-shifted row front bytes offset =
    shifted-then (length front) same same (head_at bytes offset)
    (head_at (front ++ bytes) (length front + offset)) _ _ (head_at-shifted front bytes offset)
    (λ head next. outcome_at-shifted (length front) offset next (row head))

pub row-then : {A B : Type 0} (row : Head → Result A BundleFault) (change : B → B)
    (front bytes : List ℕ) (offset : ℕ) (next next_later : A × ℕ → ReadAt B)
    → ((value : A) (offset : ℕ)
    → next_later (value, length front + offset)
    ≡ shifted (length front) change (next (value, offset)))
    → (row_at row (front ++ bytes) (length front + offset) >>= next_later)
    ≡ shifted (length front) change (row_at row bytes offset >>= next)
row-then row change front bytes offset next next_later each =
    shifted-then (length front) same change (row_at row bytes offset)
    (row_at row (front ++ bytes) (length front + offset)) next next_later
    (row_at-shifted row front bytes offset) each

pub bytes_at-shifted : (size : ℕ) (front bytes : List ℕ) (offset : ℕ)
    → bytes_at size (front ++ bytes) (length front + offset)
    ≡ shifted (length front) same (bytes_at size bytes offset)
unfolding bytes_at
bytes_at-shifted size front bytes offset =
    let long = length-append front bytes in
    let sum : length front + offset + size ≡ length front + (offset + size) = omega arith in
    ⊎_elim
    (λ missing.
    let now : ltb (length bytes) (offset + size) ≡ true =
    lt-ltb (length bytes) (offset + size) missing in
    let later : ltb (length (front ++ bytes)) (length front + offset + size) ≡ true =
    lt-ltb (length (front ++ bytes)) (length front + offset + size) (omega arith) in
    rw (now, later, long) refl)
    (λ there.
    let now : ltb (length bytes) (offset + size) ≡ false =
    le-ltb (length bytes) (offset + size) there in
    let later : ltb (length (front ++ bytes)) (length front + offset + size) ≡ false =
    le-ltb (length (front ++ bytes)) (length front + offset + size) (omega arith) in
    rw (now, later, drop-front front bytes offset, sum) refl)
    (cases_lt (length bytes) (offset + size))

check_of-shifted : (kind : CheckKind) (start content : ℕ) (front bytes : List ℕ)
    → check_of kind (length front + start) (length front + content) (front ++ bytes)
    ≡ check_of kind start content bytes
unfolding check_of
check_of-shifted kind start content front bytes =
    let size : length front + content - (length front + start) ≡ content - start = omega arith in
    rw (drop-front front bytes start, size) refl

pub compared-shifted : (kind : CheckKind) (offset content check : ℕ) (front bytes : List ℕ)
    → compared kind (length front + offset) (length front + content) check (front ++ bytes)
    ≡ shifted (length front) same (compared kind offset content check bytes)
compared-shifted kind offset content check front bytes =
    shifted-then (length front) same same (bytes_at (check_width kind) bytes content)
    (bytes_at (check_width kind) (front ++ bytes) (length front + content)) _ _
    (bytes_at-shifted (check_width kind) front bytes content)
    (λ stored next. shifted-if (length front) same (number_from 0 stored == check)
    (Ok (true, next)) (Err (stopped CheckDiffers offset)) _ _ refl refl)

field_at-shifted : (check : Option CheckKind) (start : ℕ) (front bytes : List ℕ) (offset : ℕ)
    → field_at check (length front + start) (front ++ bytes) (length front + offset)
    ≡ shifted (length front) same (field_at check start bytes offset)
unfolding field_at
field_at-shifted None start front bytes offset = refl
field_at-shifted (Some kind) start front bytes offset =
    row-then (check_field kind) same front bytes offset _ _
    (λ _ content. rw (check_of-shifted kind start content front bytes)
    (compared-shifted kind offset content _ front bytes))

content_at-shifted : (size : ℕ) (check : Option CheckKind) (start : ℕ) (front bytes : List ℕ)
    (offset : ℕ)
    → content_at size check (length front + start) (front ++ bytes) (length front + offset)
    ≡ shifted (length front) same (content_at size check start bytes offset)
unfolding content_at
content_at-shifted size check start front bytes offset =
    shifted-then (length front) same same (bytes_at size bytes offset)
    (bytes_at size (front ++ bytes) (length front + offset)) _ _
    (bytes_at-shifted size front bytes offset)
    (λ _ offset. field_at-shifted check start front bytes offset)

pub heads_at-shifted : (numbers front bytes : List ℕ) (start : ℕ)
    → heads_at numbers (front ++ bytes) (length front + start)
    ≡ shifted (length front) (moved (length front)) (heads_at numbers bytes start)
unfolding heads_at
heads_at-shifted numbers front bytes start =
    let change : CanonicalBlock → CanonicalBlock = moved (length front) in
    row-then block_head change front bytes start _ _
    (λ count offset. row-then unsigned change front bytes offset _ _
    (λ type offset. row-then (block_number type numbers) change front bytes offset _ _
    (λ number offset. row-then unsigned change front bytes offset _ _
    (λ flags offset. row-then (block_check_type count) change front bytes offset _ _
    (λ check offset. row-then block_data change front bytes offset _ _
    (λ size offset. refl))))))

pub whole_canonical-shifted : (numbers front bytes : List ℕ) (start : ℕ)
    → whole_canonical numbers (front ++ bytes) (length front + start)
    ≡ shifted (length front) (moved (length front)) (whole_canonical numbers bytes start)
unfolding whole_canonical
whole_canonical-shifted numbers front bytes start =
    shifted-then (length front) (moved (length front)) (moved (length front))
    (heads_at numbers bytes start) (heads_at numbers (front ++ bytes) (length front + start)) _ _
    (heads_at-shifted numbers front bytes start)
    (λ block _. shifted-then (length front) same (moved (length front))
    (content_at block.data_length block.check block.start bytes block.data_start)
    (content_at block.data_length block.check (length front + block.start) (front ++ bytes)
    (length front + block.data_start)) _ _
    (content_at-shifted block.data_length block.check block.start front bytes block.data_start)
    (λ _ next. refl))
