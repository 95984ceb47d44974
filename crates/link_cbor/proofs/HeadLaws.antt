-- Consequences of the definition of a head, for scans of more than one head.

use Rattle.std.proofs.Common.{◌≡◌, ℕ, zero, suc, ◌+◌, ◌-◌, ◌/◌, ◌%◌, ◌^◌, ◌<◌, ◌≤◌, false, nat_lt, List, [], ◌∷◌, ◌++◌, length, take, drop, Some, refl, ap, ◌∙◌, ⊎_elim, arith}
use Rattle.std.specs.Prelude.{if◌then◌else◌}
use Rattle.std.proofs.lemmas.List.{length-append, length-take, length-take-le, take-append-drop, take-append-le}
use Rattle.std.proofs.lemmas.Bool.{cases_lt, lt-ltb, le-ltb, Decides.nat_tests}
use Rattle.byteorder.specs.{Endian.big_from, Numbers.big_from-cons}
use Rattle.link_cbor.specs.declared.head.Head.{Head}
use Rattle.link_cbor.specs.Head.{HeadFront, Cut, IllFormed, Whole, big_endian, with_argument, argument_front, no_argument, front_by, head_front, whole_of, is_cut}

-- ---- the parts of a head, one by one

-- the number that the first bytes encode
pub big_endian-big_from : (size : ℕ) (bytes : List ℕ) → size ≤ length bytes
    → big_endian (take size bytes) ≡ big_from 0 size bytes
unfolding big_endian
big_endian-big_from zero bytes within = refl
big_endian-big_from (suc size) [] within = absurd (omega arith)
big_endian-big_from (suc size) (first ∷ bytes) within =
    let less : size ≤ length bytes = omega arith in
    let size_is : length (take size bytes) ≡ size = omega (arith, length-take size bytes) in
    rw (size_is, big_endian-big_from size bytes less, big_from-cons 0 size first bytes) refl

pub ruleset argument = (big_endian-big_from)

pub argument_front-cut : (major size : ℕ) (rest : List ℕ) → length rest < size
    → argument_front major size rest ≡ Cut
unfolding argument_front
argument_front-cut major size rest short = rw (lt-ltb (length rest) size short) refl

pub argument_front-there : (major size : ℕ) (rest : List ℕ) → size ≤ length rest
    → argument_front major size rest ≡ with_argument major size (big_endian (take size rest))
unfolding argument_front
argument_front-there major size rest there = rw (le-ltb (length rest) size there) refl

pub front_by-small : (major information : ℕ) (rest : List ℕ) → information < 24
    → front_by major information rest ≡ Whole (record { major = major; value = Some information }) 1
unfolding front_by
front_by-small major information rest small = rw (lt-ltb information 24 small) refl

pub front_by-argument : (major information : ℕ) (rest : List ℕ)
    → 24 ≤ information → information < 28
    → front_by major information rest ≡ argument_front major (2 ^ (information - 24)) rest
unfolding front_by
front_by-argument major information rest least below = grind (arith, nat_tests)

pub front_by-reserved : (major information : ℕ) (rest : List ℕ)
    → 28 ≤ information → information < 31
    → front_by major information rest ≡ IllFormed
unfolding front_by
front_by-reserved major information rest least below = grind (arith, nat_tests)

pub front_by-none : (major information : ℕ) (rest : List ℕ) → 31 ≤ information
    → front_by major information rest ≡ no_argument major
unfolding front_by
front_by-none major information rest least = grind (arith, nat_tests)

-- ---- how many bytes a head has

-- the number of bytes after the first one, by the additional information
abbrev pub left_by : ℕ → ℕ
left_by information =
    if nat_lt information 24 then 0
    else (if nat_lt information 28 then 2 ^ (information - 24) else 0)

-- a whole head has at least this many bytes
abbrev pub EndsFrom : ℕ → HeadFront → Type 0
EndsFrom count Cut = Unit {0}
EndsFrom count IllFormed = Unit {0}
EndsFrom count (Whole head size) = count ≤ size

-- the head is ill-formed, or whole with no more bytes than there are
abbrev pub LiesWithin : List ℕ → HeadFront → Type 0
LiesWithin bytes Cut = ⊥
LiesWithin bytes IllFormed = Unit {0}
LiesWithin bytes (Whole head size) = size ≤ length bytes

left-ends : (count major information : ℕ) (rest : List ℕ) → count ≤ 1 + left_by information
    → EndsFrom count (front_by major information rest)
unfolding front_by argument_front with_argument no_argument
left-ends count major information rest below = grind (arith, nat_tests)

-- a head is cut where bytes of it are missing
left-missing : (major information : ℕ) (rest : List ℕ) → length rest < left_by information
    → front_by major information rest ≡ Cut
unfolding front_by argument_front
left-missing major information rest missing = grind (arith, nat_tests)

pub cut_by-left : (major information : ℕ) (rest : List ℕ)
    → is_cut (front_by major information rest) ≡ nat_lt (length rest) (left_by information)
unfolding front_by argument_front with_argument no_argument
cut_by-left major information rest = grind (arith, nat_tests)

-- if all its bytes are there, it lies within them, and no byte after them changes it
left-within : (major information first : ℕ) (rest : List ℕ) → left_by information ≤ length rest
    → LiesWithin (first ∷ rest) (front_by major information rest)
unfolding front_by argument_front with_argument no_argument
left-within major information first rest there = grind (arith, nat_tests)

left-stays : (major information : ℕ) (rest more : List ℕ) → left_by information ≤ length rest
    → front_by major information (rest ++ more) ≡ front_by major information rest
unfolding front_by argument_front
left-stays major information rest more there =
    grind (arith, nat_tests, length-append {A = ℕ}, take-append-le {A = ℕ})

-- ---- a head with more bytes after it

-- The head of some bytes, and of those bytes with more after them. Either the first bytes end
-- inside it, and then it has more bytes than these, or it is the same and lies within them.
pub data HeadStays : List ℕ → HeadFront → HeadFront → Type 0 where
  ends_inside : {bytes : List ℕ} {now later : HeadFront}
      → now ≡ Cut → EndsFrom (suc (length bytes)) later → HeadStays bytes now later
  ends_after : {bytes : List ℕ} {now later : HeadFront}
      → later ≡ now → LiesWithin bytes now → HeadStays bytes now later

-- no head is empty
front-some : (bytes : List ℕ) → EndsFrom 1 (head_front bytes)
unfolding head_front
front-some [] = tt
front-some (first ∷ rest) = left-ends 1 (first / 32) (first % 32) rest (omega arith)

pub head_stays : (bytes more : List ℕ)
    → HeadStays bytes (head_front bytes) (head_front (bytes ++ more))
unfolding head_front
head_stays [] more = ends_inside refl (front-some more)
head_stays (first ∷ rest) more =
    let major = first / 32 in
    let information : ℕ = first % 32 in
    ⊎_elim
    (λ missing. ends_inside (left-missing major information rest missing)
    (left-ends (suc (suc (length rest))) major information (rest ++ more) (omega arith)))
    (λ there. ends_after (left-stays major information rest more there)
    (left-within major information first rest there))
    (cases_lt (length rest) (left_by information))

-- a head that is known to be whole or ill-formed stays so whatever bytes follow
pub uncut_stays : (seen more : List ℕ) → is_cut (head_front seen) ≡ false
    → head_front (seen ++ more) ≡ head_front seen
uncut_stays seen more outcome = grind (arith, head_stays seen more)

pub whole_stays : (seen more : List ℕ) (head : Head) (size : ℕ)
    → head_front seen ≡ Whole head size → head_front (seen ++ more) ≡ Whole head size
whole_stays seen more head size outcome = uncut_stays seen more (ap is_cut outcome) ∙ outcome

pub ill_formed_stays : (seen more : List ℕ) → head_front seen ≡ IllFormed
    → head_front (seen ++ more) ≡ IllFormed
ill_formed_stays seen more outcome = uncut_stays seen more (ap is_cut outcome) ∙ outcome

-- ---- a whole head and its own bytes

-- a whole head has no more bytes than there are
pub whole-within : (bytes : List ℕ) (head : Head) (size : ℕ) → head_front bytes ≡ Whole head size
    → size ≤ length bytes
whole-within bytes head size outcome = grind (arith, head_stays bytes [])

-- a head is read from its own bytes alone
pub head_alone : (bytes : List ℕ) (head : Head) (size : ℕ)
    → whole_of (head_front bytes) ≡ Some (head, size) → size ≤ length bytes
    → head_front (take size bytes) ≡ Whole head (length (take size bytes))
head_alone bytes head size outcome within =
    let run = take size bytes in
    let here : length run ≡ size = length-take-le size bytes within in
    let stays : HeadStays run (head_front run) (head_front bytes) =
    rw take-append-drop at (head_stays run (drop size bytes)) in
    grind arith
