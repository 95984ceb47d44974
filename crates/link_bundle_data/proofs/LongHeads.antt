-- The first long head, at each stage of a scan.

use Rattle.std.proofs.Common.{◌≡◌, ℕ, ◌+◌, ◌-◌, ◌≤◌, Bool, true, false, List, [], ◌++◌, length, take, drop, Option, Some, None, Result, Ok, Err, refl, sym, ap, ◌∙◌, append_assoc, append-nil, length-append, length-drop, arith}
use Rattle.std.specs.{Prelude.{IsTrue, ◌==◌, ◌&&◌, ◌||◌, nat_le, unwrap_or, if◌then◌else◌}, Bool.then_some, Option.option_or}
use Rattle.std.proofs.lemmas.{Bool.eqb-true, List.{drop-append-le, take-append-le}}
use Rattle.std.proofs.Math.Seq.{drop-append_seam, take-length}
use Rattle.link_cbor.specs.declared.head.Head.{Head as HeadItem}
use Rattle.link_cbor.specs.Head.{Whole, head_front}
use Rattle.link_rules_shared.specs.Heads.{content_size, is_long, first_from}
use Rattle.link_rules_shared.proofs.Walks.{first_from-append, at_head, first_or, or_none}
use Rattle.link_bundle_types.specs.declared.fault.BundleFault.{BundleFault}
use Rattle.link_bundle_types.specs.declared.fault.BundleFault.TheVariants.{WrongKind, BadSpecificPart, EidTooLong}
use Rattle.link_bundle_heads.specs.Rows.{◌>>=◌, wanted, valued, unsigned, array, pair, scheme, dtn_by, dtn_part, ipn_count, ipn_part}
use Rattle.link_bundle_data.specs.declared.{kind.DataKind.DataKind, values.DataFault.DataFault}
use Rattle.link_bundle_data.specs.declared.due.Owner.{Owner}
use Rattle.link_bundle_data.specs.declared.due.Owner.TheVariants as owner
use Rattle.link_bundle_data.specs.declared.due.Status.{Status}
use Rattle.link_bundle_data.specs.declared.due.Status.TheVariants as status
use Rattle.link_bundle_data.specs.declared.due.Number.{Number}
use Rattle.link_bundle_data.specs.declared.due.Number.TheVariants as number
use Rattle.link_bundle_data.specs.declared.due.Due.{Due}
use Rattle.link_bundle_data.specs.declared.due.Due.TheVariants as due
use Rattle.link_bundle_data.specs.declared.due.Found.{Found}
use Rattle.link_bundle_data.specs.declared.due.Found.TheVariants as found
use Rattle.link_bundle_data.specs.declared.due.DataStage.{DataStage}
use Rattle.link_bundle_data.specs.declared.due.DataStage.TheVariants.{Head, Name, Read, Failed}
use Rattle.link_bundle_data.specs.{declared.draft.Draft.Draft, declared.scan.DataScan.DataScan}
use Rattle.link_bundle_data.specs.{BlockData.{data_of}, LongHeads.{judged_part, long_head}}
use Rattle.link_bundle_data.specs.DataRows.{integer, boolean, assertion, four_or_six, four_or_more, one_or_two}
use Rattle.link_bundle_data.specs.Turns.{after_eid, name_due, first_of, specific, first_number, targets_due, with_others, with_targets, with_context, took, took_dtn, took_asserted, judged}
use Rattle.link_bundle_data.specs.Left.{data_from, may_follow, if_judged}
use Rattle.link_bundle_data.specs.Scan.{HasScanned, IsFirstLongHead}

-- ---- the bytes of a name after a head

-- how many bytes of a name come next
abbrev pub inside_of : DataStage → ℕ
inside_of (Name owner left) = left
inside_of _ = 0

-- a part that was read, and the rest with it
was_passed : {A B : Type 0} {fact : Type 0} (first : Result A BundleFault)
    (next : A → Result B BundleFault) (result : B) → Ok result ≡ (first >>= next)
    → ((value : A) → first ≡ Ok value → Ok result ≡ next value → fact) → fact
was_passed (Ok value) next result is each = each value refl is
was_passed (Err fault) next result is each = absurd (cc)

was_valued : (fault : BundleFault) (passes : Bool) (value : Option ℕ) (result : ℕ)
    → valued fault passes value ≡ Ok result → passes ≡ true
was_valued fault true value result is = refl
was_valued fault false value result is = cc

-- items of these major types are no strings

of_major_plain : (head : HeadItem) (major : ℕ) → (head.major == major) ≡ true
    → ((major == 2) || (major == 3)) ≡ false → content_size head ≡ 0
of_major_plain head major is no_string = rw (eqb-true head.major major is, no_string) refl

unsigned_plain : (head : HeadItem) (value : ℕ) → unsigned head ≡ Ok value → content_size head ≡ 0
unfolding unsigned
unsigned_plain head value is =
    of_major_plain head 0 (was_valued _ (head.major == 0) head.value value is) refl

array_plain : (head : HeadItem) (value : ℕ) → array head ≡ Ok value → content_size head ≡ 0
unfolding array
array_plain head value is =
    of_major_plain head 4 (was_valued _ (head.major == 4) head.value value is) refl

-- an array whose number of elements is judged
count_plain : {A : Type 0} (head : HeadItem) (next : ℕ → Result A BundleFault) (result : A)
    → Ok result ≡ (array head >>= next) → content_size head ≡ 0
count_plain head next result is =
    was_passed (array head) next result is (λ count array _. array_plain head count array)

scheme_plain : {A : Type 0} (head : HeadItem) (next : ℕ → Result A BundleFault) (result : A)
    → Ok result ≡ (unsigned head >>= next) → content_size head ≡ 0
scheme_plain head next result is =
    was_passed (unsigned head) next result is (λ value read _. unsigned_plain head value read)

ipn_plain : (head : HeadItem) (outcome : Result ℕ BundleFault) (count : ℕ)
    → array head ≡ outcome → ipn_count outcome ≡ Ok count → content_size head ≡ 0
ipn_plain head (Ok value) count is counted = array_plain head value is
ipn_plain head (Err fault) count is counted = cc

integer_plain : (head : HeadItem) (zero one : Bool) → (head.major == 0) ≡ zero
    → (head.major == 1) ≡ one → (zero || one) ≡ true → content_size head ≡ 0
integer_plain head true one is _ either = of_major_plain head 0 is refl
integer_plain head false true _ is either = of_major_plain head 1 is refl
integer_plain head false false _ _ either = cc

boolean_plain : (head : HeadItem) (is_simple single : Bool) → (head.major == 7) ≡ is_simple
    → (is_simple && single) ≡ true → content_size head ≡ 0
boolean_plain head true single is both = of_major_plain head 7 is refl
boolean_plain head false single is both = cc

-- the specific part of scheme dtn: a name has the bytes of its text

text_content : (head : HeadItem) (size : ℕ) (fits : Bool) (part : Option ℕ)
    → (head.major == 3) ≡ true → head.value ≡ Some size
    → Ok part ≡ (if fits then Ok (Some size) else Err EidTooLong)
    → content_size head ≡ unwrap_or part 0
text_content head size true part text value is =
    let named : part ≡ Some size = cc in
    rw (named, eqb-true head.major 3 text, value) refl
text_content head size false part text value is = cc

dtn_content : (head : HeadItem) (size : ℕ) (none text : Bool) (part : Option ℕ)
    → (head.major == 3) ≡ text → head.value ≡ Some size
    → (none ≡ true → content_size head ≡ 0)
    → Ok part ≡ (if none then Ok None else
    (if text then wanted (nat_le size 1024) (Some size) EidTooLong else Err BadSpecificPart))
    → content_size head ≡ unwrap_or part 0
dtn_content head size true text part major value plain is =
    let unnamed : part ≡ None = cc in
    rw unnamed (plain refl)
dtn_content head size false true part major value plain is =
    text_content head size (nat_le size 1024) part major value is
dtn_content head size false false part major value plain is = cc

none_plain : (head : HeadItem) (is_number zero : Bool) → (head.major == 0) ≡ is_number
    → (is_number && zero) ≡ true → content_size head ≡ 0
none_plain head true zero is both = of_major_plain head 0 is refl
none_plain head false zero is both = cc

dtn_by_content : (head : HeadItem) (value : Option ℕ) (part : Option ℕ) → head.value ≡ value
    → Ok part ≡ dtn_by head.major value → content_size head ≡ unwrap_or part 0
dtn_by_content head None part here is = cc
dtn_by_content head (Some size) part here is =
    dtn_content head size ((head.major == 0) && (size == 0)) (head.major == 3) part refl here
    (λ none. none_plain head (head.major == 0) (size == 0) refl none) is

-- ---- the stage after a head

inside_of-if : (first : Bool) (one other : DataStage × Draft) → inside_of one.0 ≡ 0
    → inside_of other.0 ≡ 0 → inside_of ((if first then one else other).0) ≡ 0
inside_of-if true one other none none_either = none
inside_of-if false one other none none_either = none_either

eid_inside : (owner : Owner) → inside_of (after_eid owner) ≡ 0
eid_inside owner.PreviousNode = refl
eid_inside owner.Security = refl
eid_inside owner.Report = refl

name_begins : (whole : Bool) (owner : Owner) (left : ℕ) → (left == 0) ≡ whole
    → inside_of (if whole then after_eid owner else Name owner left) ≡ left
name_begins true owner left is = eid_inside owner ∙ sym (eqb-true left 0 is)
name_begins false owner left is = refl

pub name_inside : (owner : Owner) (left : ℕ) → inside_of (name_due owner left) ≡ left
name_inside owner left = name_begins (left == 0) owner left refl

type_inside : (is_report : Bool) (type : ℕ)
    → inside_of (if is_report then Head due.Report else Read (found.OtherRecord type)) ≡ 0
type_inside true type = refl
type_inside false type = refl

number_inside : (which : Number) (value : ℕ) (draft : Draft)
    → inside_of ((took which value draft).0) ≡ 0
number_inside number.RecordType value draft = type_inside (value == 1) value
number_inside number.Sequence value draft = inside_of-if draft.is_fragment _ _ refl refl
number_inside (number.Service owner allocator node) value draft = eid_inside owner
number_inside _ value draft = refl

dtn_inside : (owner : Owner) (part : Option ℕ) (draft : Draft)
    → inside_of ((took_dtn owner part draft).0) ≡ unwrap_or part 0
dtn_inside owner None draft = eid_inside owner
dtn_inside owner (Some size) draft = name_inside owner size

asserted_inside : (status : Status) (has_time asserted : Bool) (draft : Draft)
    → inside_of ((took_asserted status has_time asserted draft).0) ≡ 0
asserted_inside status true asserted draft = refl
asserted_inside status false asserted draft = refl

plain_turn : {A : Type 0} (head : HeadItem) (first : Result A BundleFault)
    (after : A → DataStage × Draft) (stage : DataStage) (new : Draft)
    → ((value : A) → first ≡ Ok value → content_size head ≡ inside_of ((after value).0))
    → Ok (stage, new) ≡ (first >>= λ value. Ok (after value)) → inside_of stage ≡ content_size head
plain_turn head first after stage new plain is =
    was_passed first _ (stage, new) is (λ value read here.
    let same : (stage, new) ≡ after value = cc in
    ap (λ (turn : DataStage × Draft). inside_of turn.0) same ∙ sym (plain value read))

-- the bytes of a name come next that the head has after it
pub stage_content : (which : Due) (size : ℕ) (head : HeadItem) (draft new : Draft)
    (stage : DataStage) → Ok (stage, new) ≡ judged which size head draft
    → inside_of stage ≡ content_size head
unfolding pair scheme dtn_part ipn_part integer boolean assertion four_or_six four_or_more
    one_or_two
stage_content (due.Number which) size head draft new stage is =
    plain_turn head (unsigned head) (λ value. took which value draft) stage new
    (λ value read. unsigned_plain head value read ∙ sym (number_inside which value draft)) is
stage_content (due.Pair which) size head draft new stage is =
    plain_turn head (pair head) (λ count. (Head (first_of which), draft)) stage new
    (λ count read. count_plain head _ count (sym read)) is
stage_content (due.Scheme owner) size head draft new stage is =
    plain_turn head (scheme head) (λ scheme. (Head (specific owner scheme), draft)) stage new
    (λ value read. scheme_plain head _ value (sym read)) is
stage_content (due.DtnPart owner) size head draft new stage is =
    plain_turn head (dtn_part head) (λ part. took_dtn owner part draft) stage new
    (λ part read. dtn_by_content head head.value part refl (sym read)
    ∙ sym (dtn_inside owner part draft)) is
stage_content (due.IpnPart owner) size head draft new stage is =
    plain_turn head (ipn_part head) (λ count. (Head (first_number owner count), draft)) stage new
    (λ count read. ipn_plain head (array head) count refl read) is
stage_content due.Targets size head draft new stage is =
    plain_turn head (array head) (λ count. (Head (targets_due count), with_targets count draft))
    stage new (λ count read. array_plain head count read) is
stage_content due.ContextId size head draft new stage is =
    plain_turn head (integer head)
    (λ id. (Head (due.Number number.ContextFlags), with_context id draft)) stage new
    (λ id read. was_passed (valued WrongKind ((head.major == 0) || (head.major == 1)) head.value) _
    id (sym read) (λ value here _. integer_plain head (head.major == 0) (head.major == 1) refl refl
    (was_valued _ _ head.value value here))) is
stage_content due.Report size head draft new stage is =
    plain_turn head (four_or_six head)
    (λ count. (Head due.Assertions, record draft { is_fragment = count == 6 })) stage new
    (λ count read. count_plain head _ count (sym read)) is
stage_content due.Assertions size head draft new stage is =
    plain_turn head (four_or_more head)
    (λ count. (Head (due.Assertion status.Received), with_others (count - 4) draft)) stage new
    (λ count read. count_plain head _ count (sym read)) is
stage_content (due.Assertion status) size head draft new stage is =
    plain_turn head (one_or_two head)
    (λ count. (Head (due.Asserted status (count == 2)), draft)) stage new
    (λ count read. count_plain head _ count (sym read)) is
stage_content (due.Asserted status has_time) size head draft new stage is =
    plain_turn head (assertion has_time size head)
    (λ asserted. took_asserted status has_time asserted draft) stage new
    (λ asserted read. was_passed (boolean size head) _ asserted (sym read) (λ value here _.
    was_passed (valued WrongKind ((head.major == 7) && (size == 1)) head.value) _ value (sym here)
    (λ simple is _. boolean_plain head (head.major == 7) (size == 1) refl
    (was_valued _ _ head.value simple is)))
    ∙ sym (asserted_inside status has_time asserted draft)) is

-- ---- a scan whose stage is known

pub long_at : {kind : DataKind} (scan : DataScan) {stage : DataStage} {seen : List ℕ}
    → scan.stage ≡ stage → HasScanned kind scan seen → IsFirstLongHead stage scan.long scan.offset seen
long_at scan is come = rw is at come.long

-- ---- more bytes

-- a stage that is entered at the end of the bytes seen
entered_long : (stage : DataStage) (long : Option ℕ) (offset : ℕ) (seen : List ℕ)
    → offset ≡ length seen
    → ((more : List ℕ) → first_from is_long 0 0 (seen ++ more)
    ≡ option_or long (first_from is_long (inside_of stage) (length seen) more))
    → IsFirstLongHead stage long offset seen
unfolding first_from
entered_long (Head which) long offset seen here reads = λ more.
    rw (here, drop-append_seam seen more) (reads more)
entered_long (Name owner left) long offset seen here reads = reads
entered_long (Read found) long offset seen here reads =
    let now : first_from is_long 0 0 seen ≡ option_or long None =
    rw append-nil at (reads []) in
    rw (here, take-length seen) (sym (now ∙ or_none long))
entered_long (Failed fault) long offset seen here reads = tt

-- more bytes of a head
pub long_more : (which : Due) (long : Option ℕ) (offset : ℕ) (seen run : List ℕ)
    → IsFirstLongHead (Head which) long offset seen → IsFirstLongHead (Head which) long offset (seen ++ run)
long_more which long offset seen run come = λ more.
    rw (append_assoc seen run more) (come (run ++ more))

-- a whole head
pub long_turned : (which : Due) (old : Option ℕ) (stage : DataStage) (offset count size : ℕ)
    (seen : List ℕ) (head : HeadItem)
    → IsFirstLongHead (Head which) old offset seen → offset ≤ length seen → count ≡ length seen
    → head_front (drop offset seen) ≡ Whole head (length (drop offset seen))
    → size ≡ length (drop offset seen) → inside_of stage ≡ content_size head
    → IsFirstLongHead stage (option_or old (then_some (is_long head size) offset)) count seen
long_turned which old stage offset count size seen head come within counted whole sized content =
    let run = drop offset seen in
    let next : offset + length (drop offset seen) ≡ length seen =
    omega (arith, length-drop offset seen) in
    entered_long stage _ count seen counted (λ more.
    come more
    ∙ ap (λ (rest : List ℕ). option_or old (first_from is_long 0 offset rest))
    (drop-append-le offset seen more within)
    ∙ ap (λ (rest : Option ℕ). option_or old rest) (at_head is_long offset run more head whole)
    ∙ first_or old (is_long head (length run)) offset
    (first_from is_long (content_size head) (offset + length run) more)
    ∙ rw (sized, content, next) refl)

-- more bytes of a name
pub long_named : (owner : Owner) (left : ℕ) (long : Option ℕ) (stage : DataStage)
    (offset count : ℕ) (seen run : List ℕ) → IsFirstLongHead (Name owner left) long offset seen
    → length run ≤ left → stage ≡ name_due owner (left - length run)
    → count ≡ length (seen ++ run) → IsFirstLongHead stage long count (seen ++ run)
long_named owner left long stage offset count seen run come within is counted =
    let inside_it : inside_of stage ≡ left - length run =
    ap inside_of is ∙ name_inside owner (left - length run) in
    entered_long stage long count (seen ++ run) counted (λ more.
    rw (append_assoc seen run more, length-append seen run, inside_it) (come (run ++ more)
    ∙ ap (λ (rest : Option ℕ). option_or long rest)
    (first_from-append is_long left (length seen) run more within)))

-- bytes after the item
pub long_read : (found : Found) (long : Option ℕ) (offset : ℕ) (seen run : List ℕ)
    → offset ≤ length seen → IsFirstLongHead (Read found) long offset seen
    → IsFirstLongHead (Read found) long offset (seen ++ run)
long_read found long offset seen run within come = rw (take-append-le offset seen run within) come

-- ---- the first long head of the bytes seen

whole_long : (offset : ℕ) (seen : List ℕ) (long : Option ℕ) → IsTrue (offset == length seen)
    → long ≡ first_from is_long 0 0 (take offset seen) → long ≡ first_from is_long 0 0 seen
whole_long offset seen long ends is =
    let here : offset ≡ length seen = eqb-true offset (length seen) ends in
    is ∙ ap (λ (bytes : List ℕ). first_from is_long 0 0 bytes)
    (ap (λ (offset : ℕ). take offset seen) here ∙ take-length seen)

judged_long : (found : Found) (draft : Draft) (long : Option ℕ) (offset : ℕ) (seen : List ℕ)
    → IsTrue (may_follow found || (offset == length seen))
    → long ≡ first_from is_long 0 0 (take offset seen)
    → if_judged found long ≡ first_from is_long 0 0 (judged_part (data_from found draft offset) seen)
unfolding first_from
judged_long found.PreviousNode draft long offset seen ends is =
    whole_long offset seen long ends is
judged_long (found.BundleAge age) draft long offset seen ends is =
    whole_long offset seen long ends is
judged_long (found.HopCount limit count) draft long offset seen ends is =
    whole_long offset seen long ends is
judged_long found.Security draft long offset seen ends is = is
judged_long found.StatusReport draft long offset seen ends is = refl
judged_long (found.OtherRecord type) draft long offset seen ends is = refl

pub result_long : (kind : DataKind) (found : Found) (draft : Draft) (long : Option ℕ) (offset : ℕ)
    (seen : List ℕ) → data_of kind seen ≡ Ok (data_from found draft offset)
    → IsTrue (may_follow found || (offset == length seen)) → IsFirstLongHead (Read found) long offset seen
    → if_judged found long ≡ long_head kind seen
unfolding long_head
result_long kind found draft long offset seen reads ends is =
    rw reads (judged_long found draft long offset seen ends is)

pub result_none : (kind : DataKind) (fault : DataFault) (seen : List ℕ)
    → data_of kind seen ≡ Err fault → None ≡ long_head kind seen
unfolding long_head
result_none kind fault seen reads = rw reads refl
