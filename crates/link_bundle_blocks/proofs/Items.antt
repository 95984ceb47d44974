-- Heads of known major types, by the numbers that their bytes spell.

use Rattle.std.proofs.Common.{◌≡◌, ℕ, zero, suc, ◌+◌, ◌-◌, ◌*◌, ◌/◌, ◌%◌, ◌^◌, ◌<◌, ◌≤◌, true, false, List, ◌∷◌, length, take, drop, slice_index, get_or, None, Some, Result, Ok, refl, sym, ap, ◌∙◌, arith}
use Rattle.std.specs.Prelude.{◌==◌}
use Rattle.std.proofs.lemmas.{Bool.ne_eqb, List.{drop_more, get_or-drop, length-drop}}
use Rattle.std.proofs.{lemmas.Nat.{div-mul-add, pow-add}, Math.Pow.pow_mono}
use Rattle.byteorder.specs.{Endian.big_from, Numbers.big_from-lt}
use Rattle.link_cbor.specs.declared.head.Head.{Head}
use Rattle.link_cbor.specs.Head.{Whole, big_endian, with_argument, no_argument, head_front}
use Rattle.link_cbor.proofs.HeadLaws.{big_endian-big_from, argument_front-there, front_by-small, front_by-argument, front_by-none}
use Rattle.link_bundle_types.specs.declared.fault.BundleFault.{BundleFault}
use Rattle.link_bundle_types.specs.declared.eid.Eid.TheVariants.{DtnNone, Ipn as IpnNumbers}
use Rattle.link_bundle_heads.specs.declared.endpoint.Scheme.TheVariants.{Dtn, Ipn}
use Rattle.link_bundle_heads.specs.Rows.{unsigned, array, pair, scheme, dtn_part, ipn_part, is_break, closing}
use Rattle.link_bundle_blocks.specs.Reading.{head_at, row_at}
use Rattle.link_bundle_blocks.specs.EndpointId.{dtn_at, ipn_at, specific_at, eid_at}
use Rattle.link_bundle_blocks.proofs.Heads.{row_at-accepted}

-- ---- the number that the first bytes spell

-- the first `low` of `all` bytes, and the others
big_from-split : (low high all from : ℕ) (bytes : List ℕ) → all ≡ low + high
    → big_from from all bytes
    ≡ big_from from low bytes * 256 ^ high + big_from (from + low) high bytes
big_from-split zero high all from bytes is =
    let same : all ≡ high = omega arith in
    let start : from + zero ≡ from = omega arith in
    rw (same, start) (omega arith)
big_from-split (suc low) high zero from bytes is = absurd (omega arith)
big_from-split (suc low) high (suc all) from bytes is =
    let more : all ≡ low + high = omega arith in
    let start : from + suc low ≡ suc from + low = omega arith in
    let power : 256 ^ all ≡ 256 ^ low * 256 ^ high =
    ap (λ (size : ℕ). 256 ^ size) more ∙ pow-add 256 low high in
    rw (big_from-split low high all (suc from) bytes more, start, power)
    (joined (slice_index bytes from) (256 ^ low) (256 ^ high) (big_from (suc from) low bytes)
    (big_from (suc from + low) high bytes))
  where
    joined : (first low high rest more : ℕ)
        → first * (low * high) + (rest * high + more) ≡ (first * low + rest) * high + more
    joined first low high rest more = omega arith

-- the first bytes of eight, by a shift to the right
big_from-div : (low high : ℕ) (bytes : List ℕ) → 8 ≡ low + high
    → ((index : ℕ) → slice_index bytes index < 256)
    → big_from 0 8 bytes / 256 ^ high ≡ big_from 0 low bytes
big_from-div low high bytes is are =
    ap (λ (number : ℕ). number / 256 ^ high) (big_from-split low high 8 0 bytes is)
    ∙ div-mul-add (big_from 0 low bytes) (256 ^ high) (big_from (0 + low) high bytes)
    (big_from-lt (0 + low) high bytes are)

big_from-shift : (step : ℕ) (bytes : List ℕ) → step < 4
    → ((index : ℕ) → slice_index bytes index < 256)
    → big_from 0 8 bytes / 2 ^ (64 - 8 * 2 ^ step) ≡ big_from 0 (2 ^ step) bytes
big_from-shift zero bytes below are = big_from-div 1 7 bytes refl are
big_from-shift (suc zero) bytes below are = big_from-div 2 6 bytes refl are
big_from-shift (suc (suc zero)) bytes below are = big_from-div 4 4 bytes refl are
big_from-shift (suc (suc (suc zero))) bytes below are = big_from-div 8 0 bytes refl are
big_from-shift (suc (suc (suc (suc step)))) bytes below are = absurd (omega arith)

-- ---- heads

pub head_at-front : (bytes : List ℕ) (offset size : ℕ) (head : Head)
    → head_front (drop offset bytes) ≡ Whole head size
    → head_at bytes offset ≡ Ok (head, offset + size)
unfolding head_at
head_at-front bytes offset size head is = rw is refl

front-small : (major information first : ℕ) (rest : List ℕ)
    → first ≡ 32 * major + information → information < 24
    → head_front (first ∷ rest) ≡ Whole (record { major = major; value = Some information }) 1
unfolding head_front
front-small major information first rest is small =
    let by : first / 32 ≡ major = omega arith in
    let left : first % 32 ≡ information = omega arith in
    rw (by, left) (front_by-small major information rest small)

pub head_at-small : (major information : ℕ) (bytes : List ℕ) (offset : ℕ) → offset < length bytes
    → get_or bytes offset 0 ≡ 32 * major + information → information < 24
    → head_at bytes offset ≡ Ok (record { major = major; value = Some information }, offset + 1)
head_at-small major information bytes offset within is small =
    head_at-front bytes offset 1 (record { major = major; value = Some information })
    (ap head_front (drop_more bytes offset 0 within)
    ∙ front-small major information (get_or bytes offset 0) (drop (offset + 1) bytes) is small)

with_argument-whole : (major size argument : ℕ) → major < 7
    → with_argument major size argument
    ≡ Whole (record { major = major; value = Some argument }) (1 + size)
unfolding with_argument
with_argument-whole major size argument below =
    let other : (major == 7) ≡ false = ne_eqb major 7 (omega arith) in
    rw other refl

front-argument : (major information size first : ℕ) (rest : List ℕ) → major < 7
    → first ≡ 32 * major + information → 24 ≤ information → information < 28
    → size ≡ 2 ^ (information - 24) → 8 ≤ length rest
    → ((index : ℕ) → slice_index rest index < 256)
    → head_front (first ∷ rest)
    ≡ Whole (record { major = major; value = Some (big_from 0 8 rest / 2 ^ (64 - 8 * size)) })
    (1 + size)
unfolding head_front
front-argument major information size first rest below is least most size_is within are =
    let by : first / 32 ≡ major = omega arith in
    let left : first % 32 ≡ information = omega arith in
    let step : information - 24 ≤ 3 = omega arith in
    let there : 2 ^ (information - 24) ≤ length rest = omega (arith, pow_mono step) in
    rw (by, left, size_is)
    (front_by-argument major information rest least most
    ∙ argument_front-there major (2 ^ (information - 24)) rest there
    ∙ with_argument-whole major (2 ^ (information - 24)) (big_endian (take (2 ^ (information - 24)) rest)) below
    ∙ ap (λ (argument : ℕ). Whole (record { major = major; value = Some argument })
    (1 + 2 ^ (information - 24)))
    (big_endian-big_from (2 ^ (information - 24)) rest there
    ∙ sym (big_from-shift (information - 24) rest (omega arith) are)))

-- `argument` is the number that the eight bytes after the first spell
pub head_at-argument : (major information size argument : ℕ) (bytes : List ℕ) (offset : ℕ)
    → major < 7
    → offset + 9 ≤ length bytes → get_or bytes offset 0 ≡ 32 * major + information
    → 24 ≤ information → information < 28 → size ≡ 2 ^ (information - 24)
    → ((index : ℕ) → slice_index bytes index < 256)
    → argument ≡ big_from 0 8 (drop (offset + 1) bytes)
    → head_at bytes offset
    ≡ Ok (record { major = major; value = Some (argument / 2 ^ (64 - 8 * size)) }, offset + 1 + size)
head_at-argument major information size argument bytes offset below within is least most size_is are
    spells =
    let next : offset + 1 + size ≡ offset + (1 + size) = omega arith in
    rw (spells, next)
    (head_at-front bytes offset (1 + size) _
    (ap head_front (drop_more bytes offset 0 (omega arith))
    ∙ front-argument major information size (get_or bytes offset 0)
    (drop (offset + 1) bytes) below is least most size_is
    (omega (arith, length-drop (offset + 1) bytes))
    (λ index. rw (get_or-drop (offset + 1) bytes index 0) (are (offset + 1 + index)))))

-- ---- heads of one byte, which are judged

small_row : {A : Type 0} (row : Head → Result A BundleFault) (major number : ℕ) (value : A)
    (bytes : List ℕ) (offset next : ℕ) → next ≡ offset + 1
    → offset < length bytes → get_or bytes offset 0 ≡ 32 * major + number → number < 24
    → row (record { major = major; value = Some number }) ≡ Ok value
    → row_at row bytes offset ≡ Ok (value, next)
small_row row major number value bytes offset next after within is small accepted =
    rw after
    (row_at-accepted row bytes offset (offset + 1) (record { major = major; value = Some number })
    value (head_at-small major number bytes offset within is small) accepted)

pub pair_at-byte : (bytes : List ℕ) (offset : ℕ) → offset < length bytes → get_or bytes offset 0 ≡ 0x82
    → row_at pair bytes offset ≡ Ok (2, offset + 1)
unfolding pair array
pair_at-byte bytes offset within is =
    small_row pair 4 2 2 bytes offset (offset + 1) refl within is (omega arith) refl

front-break : (rest : List ℕ)
    → head_front (0xff ∷ rest) ≡ Whole (record { major = 7; value = None }) 1
unfolding head_front no_argument
front-break rest = front_by-none 7 31 rest (omega arith)

pub closing_at-byte : (bytes : List ℕ) (offset : ℕ) → offset < length bytes
    → get_or bytes offset 0 ≡ 0xff
    → row_at closing bytes offset ≡ Ok (true, offset + 1)
unfolding closing is_break
closing_at-byte bytes offset within is =
    row_at-accepted closing bytes offset (offset + 1) (record { major = 7; value = None }) true
    (head_at-front bytes offset 1 (record { major = 7; value = None })
    (ap head_front (drop_more bytes offset 0 within)
    ∙ ap (λ (first : ℕ). head_front (first ∷ drop (offset + 1) bytes)) is
    ∙ front-break (drop (offset + 1) bytes)))
    refl

pub ruleset one_byte = (pair_at-byte, closing_at-byte)

-- ---- endpoint IDs, by their first three bytes

-- three bytes, one by one
record Three (bytes : List ℕ) (offset first second third : ℕ) : Type 0 where
  one : get_or bytes offset 0 ≡ first
  two : get_or bytes (offset + 1) 0 ≡ second
  three : get_or bytes (offset + 2) 0 ≡ third

three_of : (bytes : List ℕ) (offset first second third word : ℕ)
    → first < 256 → second < 256 → third < 256
    → ((index : ℕ) → slice_index bytes index < 256)
    → word ≡ big_from 0 4 (drop offset bytes)
    → word / 2 ^ 8 ≡ (first * 256 + second) * 256 + third
    → Three bytes offset first second third
three_of bytes offset first second third word first_is second_is third_is are spells is =
    let zeroth : slice_index (drop offset bytes) 0 ≡ get_or bytes offset 0 =
    get_or-drop offset bytes 0 0 ∙ ap (λ (index : ℕ). get_or bytes index 0) (omega arith) in
    let next = get_or-drop offset bytes 1 0 in
    let last = get_or-drop offset bytes 2 0 in
    let more = get_or-drop offset bytes 3 0 in
    let number = rw (zeroth, next, last, more) at spells in
    let byte0 = are offset in
    let byte1 = are (offset + 1) in
    let byte2 = are (offset + 2) in
    let byte3 = are (offset + 3) in
    record { one = omega arith; two = omega arith; three = omega arith }

pub eid_at-ipn : (bytes : List ℕ) (offset word node service after next : ℕ)
    → offset + 4 ≤ length bytes → ((index : ℕ) → slice_index bytes index < 256)
    → word ≡ big_from 0 4 (drop offset bytes) → word / 2 ^ 8 ≡ 0x820282
    → row_at unsigned bytes (offset + 3) ≡ Ok (node, after)
    → row_at unsigned bytes after ≡ Ok (service, next)
    → eid_at bytes offset ≡ Ok (IpnNumbers node service, next)
unfolding eid_at specific_at ipn_at scheme unsigned ipn_part array
eid_at-ipn bytes offset word node service after next within are spells is first second =
    let begins =
    three_of bytes offset 0x82 2 0x82 word (omega arith) (omega arith) (omega arith) are spells is in
    let is_pair = pair_at-byte bytes offset (omega arith) begins.one in
    let is_ipn : row_at scheme bytes (offset + 1) ≡ Ok (Ipn, offset + 2) =
    small_row scheme 0 2 Ipn bytes (offset + 1) (offset + 2) (omega arith) (omega arith) begins.two
    (omega arith) refl in
    let is_two : row_at ipn_part bytes (offset + 2) ≡ Ok (2, offset + 3) =
    small_row ipn_part 4 2 2 bytes (offset + 2) (offset + 3) (omega arith) (omega arith) begins.three
    (omega arith) refl in
    rw (is_pair, is_ipn, is_two, first, second) refl

pub eid_at-none : (bytes : List ℕ) (offset word : ℕ)
    → offset + 4 ≤ length bytes → ((index : ℕ) → slice_index bytes index < 256)
    → word ≡ big_from 0 4 (drop offset bytes) → word / 2 ^ 8 ≡ 0x820100
    → eid_at bytes offset ≡ Ok (DtnNone, offset + 3)
unfolding eid_at specific_at dtn_at scheme unsigned dtn_part
eid_at-none bytes offset word within are spells is =
    let begins =
    three_of bytes offset 0x82 1 0 word (omega arith) (omega arith) (omega arith) are spells is in
    let is_pair = pair_at-byte bytes offset (omega arith) begins.one in
    let is_dtn : row_at scheme bytes (offset + 1) ≡ Ok (Dtn, offset + 2) =
    small_row scheme 0 1 Dtn bytes (offset + 1) (offset + 2) (omega arith) (omega arith) begins.two
    (omega arith) refl in
    let is_none : row_at dtn_part bytes (offset + 2) ≡ Ok (None, offset + 3) =
    small_row dtn_part 0 0 None bytes (offset + 2) (offset + 3) (omega arith) (omega arith)
    begins.three (omega arith) refl in
    rw (is_pair, is_dtn, is_none) refl
