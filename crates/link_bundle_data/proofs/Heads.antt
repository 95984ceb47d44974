-- The rest after a complete head, by what is due.

use Rattle.std.proofs.Common.{◌≡◌, ℕ, zero, suc, ◌-◌, ◌≤◌, Bool, true, false, List, [], ◌∷◌, length, Option, Some, None, Result, Ok, Err, refl, sym, ap, ◌∙◌, arith}
use Rattle.std.specs.Prelude.{◌==◌, if◌then◌else◌}
use Rattle.std.proofs.lemmas.Bool.{ne_eqb}
use Rattle.link_cbor.specs.declared.head.Head.{Head}
use Rattle.link_bundle_types.specs.declared.eid.Eid.TheVariants.{DtnNone}
use Rattle.link_bundle_types.specs.declared.fault.BundleFault.{BundleFault}
use Rattle.link_bundle_heads.specs.declared.endpoint.Scheme.{Scheme}
use Rattle.link_bundle_heads.specs.declared.endpoint.Scheme.TheVariants as scheme_
use Rattle.link_bundle_heads.specs.Rows.{◌>>=◌, unsigned, array, pair, scheme, dtn_part, ipn_part}
use Rattle.link_bundle_blocks.specs.Reading.{ReadAt, Stop, stopped, head_at, outcome_at, row_at}
use Rattle.link_bundle_blocks.specs.EndpointId.{dtn_at, ipn_at, specific_at, eid_at}
use Rattle.link_bundle_blocks.specs.Primary.{fragment_at, fragment_elements}
use Rattle.link_bundle_blocks.proofs.Elements.{fragment_at-true}
use Rattle.link_bundle_data.specs.declared.values.Assertion.{Assertion}
use Rattle.link_bundle_data.specs.declared.values.Assertion.TheVariants.{No, Yes, YesAt}
use Rattle.link_bundle_data.specs.declared.{values.{DataFault.DataFault, Integer.Integer}, due.Owner.Owner}
use Rattle.link_bundle_data.specs.declared.due.Owner.TheVariants as owner
use Rattle.link_bundle_data.specs.declared.due.Status.{Status}
use Rattle.link_bundle_data.specs.declared.due.Status.TheVariants as status
use Rattle.link_bundle_data.specs.declared.due.Number.{Number}
use Rattle.link_bundle_data.specs.declared.due.Number.TheVariants as number
use Rattle.link_bundle_data.specs.declared.due.Pair.{Pair}
use Rattle.link_bundle_data.specs.declared.due.Pair.TheVariants as pair_
use Rattle.link_bundle_data.specs.declared.due.Due.{Due}
use Rattle.link_bundle_data.specs.declared.due.Due.TheVariants as due
use Rattle.link_bundle_data.specs.declared.due.Found.TheVariants as found
use Rattle.link_bundle_data.specs.declared.due.DataStage.{DataStage}
use Rattle.link_bundle_data.specs.declared.due.DataStage.TheVariants.{Head as AtHead, Read}
use Rattle.link_bundle_data.specs.declared.draft.Draft.{Draft}
use Rattle.link_bundle_data.specs.BlockData.{BlockData, items_at, assertion_at, located}
use Rattle.link_bundle_data.specs.DataRows.{integer, assertion, four_or_six, four_or_more, one_or_two}
use Rattle.link_bundle_data.specs.EidLeft.{numbered, scheme_left, node_left, service_left, name_left}
use Rattle.link_bundle_data.specs.Turns.{others_due, targets_due, first_of, first_number, specific, with_others, with_times, with_assertion, with_targets, with_target, with_context, with_flags, with_eid, took_assertion, took, took_dtn, took_asserted, judged}
use Rattle.link_bundle_data.specs.Left.{item_ended, after_fragment, sequence_left, time_left, by_eid, reason_left, others_left, received_left, by_assertion, boolean_left, boolean_at, assertions_left, report_left, flags_left, context_left, targets_left, limit_left, type_left, number_left, pair_left, due_left, stage_left, goes_on}
use Rattle.link_bundle_data.proofs.Names.{then_then, same_then, owner_ends, by_eid-then, name_begins}

-- ---- a row

-- the rest at a stage, with the values there
abbrev pub rest_at : DataStage × Draft → List ℕ → ℕ → Result BlockData DataFault
rest_at turn bytes next = stage_left turn.0 turn.1 bytes next next

-- the rest after the outcome of a row
by_outcome : {A : Type 0} (rest : ReadAt A → Result BlockData Stop) (after : A → DataStage × Draft)
    (outcome : Result A BundleFault) (bytes : List ℕ) (offset next : ℕ)
    → ((value : A) → located bytes (rest (Ok (value, next))) ≡ rest_at (after value) bytes next)
    → ((stop : Stop) → rest (Err stop) ≡ Err stop)
    → located bytes (rest (outcome_at offset next outcome))
    ≡ goes_on (outcome >>= λ value. Ok (after value)) bytes offset next
by_outcome rest after (Ok value) bytes offset next accepts refuses = accepts value
by_outcome rest after (Err fault) bytes offset next accepts refuses =
    ap (located bytes) (refuses (stopped fault offset))

by_row : {A : Type 0} (rest : ReadAt A → Result BlockData Stop) (after : A → DataStage × Draft)
    (row : Head → Result A BundleFault) (bytes : List ℕ) (offset next : ℕ) (head : Head)
    → head_at bytes offset ≡ Ok (head, next)
    → ((value : A) → located bytes (rest (Ok (value, next))) ≡ rest_at (after value) bytes next)
    → ((stop : Stop) → rest (Err stop) ≡ Err stop)
    → located bytes (rest (row_at row bytes offset))
    ≡ goes_on (row head >>= λ value. Ok (after value)) bytes offset next
unfolding row_at
by_row rest after row bytes offset next head whole accepts refuses =
    rw whole (by_outcome rest after (row head) bytes offset next accepts refuses)

-- ---- endpoint IDs

scheme_turn : (owner : Owner) (scheme : Scheme) (draft : Draft) (bytes : List ℕ) (next : ℕ)
    → located bytes (by_eid owner draft bytes (specific_at scheme bytes next))
    ≡ rest_at (AtHead (specific owner scheme), draft) bytes next
unfolding stage_left due_left
scheme_turn owner scheme_.Dtn draft bytes next = refl
scheme_turn owner scheme_.Ipn draft bytes next = refl

dtn_turn : (owner : Owner) (part : Option ℕ) (draft : Draft) (bytes : List ℕ) (next : ℕ)
    → next ≤ length bytes
    → located bytes (by_eid owner draft bytes (dtn_at part bytes next))
    ≡ rest_at (took_dtn owner part draft) bytes next
unfolding dtn_at name_left
dtn_turn owner None draft bytes next within = owner_ends owner (with_eid DtnNone draft) bytes next
dtn_turn owner (Some size) draft bytes next within =
    name_begins owner draft [] size bytes next within

ipn_turn : (three : Bool) (owner : Owner) (draft : Draft) (bytes : List ℕ) (next : ℕ)
    → located bytes (by_eid owner draft bytes (ipn_at three bytes next))
    ≡ rest_at (
      AtHead (if three then due.Number (number.Allocator owner)
          else due.Number (number.Node owner None)),
      draft,
    ) bytes next
unfolding stage_left due_left ipn_at node_left service_left
ipn_turn true owner draft bytes next =
    ap (located bytes) (by_eid-then owner draft bytes (row_at unsigned bytes next) _)
ipn_turn false owner draft bytes next =
    ap (located bytes) (by_eid-then owner draft bytes (row_at unsigned bytes next) _)

-- ---- status assertions and targets

-- several items after the first, and then the rest
pub items_then : {A : Type 0} (item : ReadAt A) (items : ℕ → ReadAt (List A))
    (rest : List A × ℕ → Result BlockData Stop)
    → ((item >>= λ (first, offset). items offset >>= λ (more, offset). Ok (first ∷ more, offset))
    >>= rest)
    ≡ (item >>= λ (first, offset). items offset >>= λ (more, offset). rest (first ∷ more, offset))
items_then (Err stop) items rest = refl
items_then (Ok (first, offset)) items rest = then_then (items offset) _ rest

-- what is due while some are left
some_due : (left : ℕ) (none : Due) (next : ℕ → Due)
    → (if suc left == 0 then none else next (suc left - 1)) ≡ next left
some_due left none next =
    let some : (suc left == 0) ≡ false = ne_eqb (suc left) 0 (λ zero. omega arith) in
    let less : suc left - 1 ≡ left = omega arith in
    rw (some, less) refl

others_turn : (left : ℕ) (draft : Draft) (bytes : List ℕ) (next : ℕ)
    → located bytes (others_left left draft bytes next)
    ≡ rest_at (AtHead (others_due left), draft) bytes next
unfolding stage_left due_left others_left items_at reason_left
others_turn zero draft bytes next = refl
others_turn (suc left) draft bytes next =
    ap (located bytes) (items_then (assertion_at bytes next) (items_at assertion_at left bytes) _)
    ∙ ap (λ (which : Due). rest_at (AtHead which, draft) bytes next)
    (sym (some_due left (due.Number number.Reason) (λ left. due.Assertion (status.Other left))))

targets_turn : (left : ℕ) (draft : Draft) (bytes : List ℕ) (next : ℕ)
    → located bytes (targets_left left draft bytes next)
    ≡ rest_at (AtHead (targets_due left), draft) bytes next
unfolding stage_left due_left targets_left items_at
targets_turn zero draft bytes next = refl
targets_turn (suc left) draft bytes next =
    ap (located bytes)
    (items_then (row_at unsigned bytes next) (items_at (row_at unsigned) left bytes) _)
    ∙ ap (λ (which : Due). rest_at (AtHead which, draft) bytes next)
    (sym (some_due left due.ContextId (λ left. due.Number (number.Target left))))

-- ---- status assertions

pub by_assertion-stopped : (status : Status) (draft : Draft) (bytes : List ℕ) (stop : Stop)
    → by_assertion status draft bytes (Err stop) ≡ Err stop
by_assertion-stopped status.Received draft bytes stop = refl
by_assertion-stopped status.Forwarded draft bytes stop = refl
by_assertion-stopped status.Delivered draft bytes stop = refl
by_assertion-stopped status.Deleted draft bytes stop = refl
by_assertion-stopped (status.Other left) draft bytes stop = refl

by_assertion-then : {A : Type 0} (status : Status) (draft : Draft) (bytes : List ℕ)
    (part : ReadAt A) (next : A × ℕ → ReadAt Assertion)
    → by_assertion status draft bytes (part >>= next)
    ≡ (part >>= λ x. by_assertion status draft bytes (next x))
by_assertion-then status draft bytes (Ok x) next = refl
by_assertion-then status draft bytes (Err stop) next = by_assertion-stopped status draft bytes stop

status_turn : (status : Status) (assertion : Assertion) (draft : Draft) (bytes : List ℕ) (next : ℕ)
    → located bytes (by_assertion status draft bytes (Ok (assertion, next)))
    ≡ rest_at (took_assertion status assertion draft) bytes next
unfolding stage_left due_left
status_turn status.Received assertion draft bytes next = refl
status_turn status.Forwarded assertion draft bytes next = refl
status_turn status.Delivered assertion draft bytes next = refl
status_turn status.Deleted assertion draft bytes next =
    others_turn draft.others (with_assertion status.Deleted assertion draft) bytes next
status_turn (status.Other left) assertion draft bytes next =
    others_turn left (with_times draft assertion) bytes next

asserted_turn : (status : Status) (has_time asserted : Bool) (draft : Draft) (bytes : List ℕ)
    (next : ℕ)
    → located bytes
    (by_assertion status draft bytes (boolean_left has_time bytes (Ok (asserted, next))))
    ≡ rest_at (took_asserted status has_time asserted draft) bytes next
unfolding stage_left due_left
asserted_turn status true asserted draft bytes next =
    ap (located bytes) (by_assertion-then status draft bytes (row_at unsigned bytes next) _)
asserted_turn status false asserted draft bytes next =
    status_turn status (if asserted then Yes else No) draft bytes next

-- a status assertion after its array
after_array : Bool → List ℕ → ℕ → ReadAt Assertion
after_array has_time bytes start = boolean_left has_time bytes (boolean_at has_time bytes start)

assertion_parts : (bytes : List ℕ) (offset : ℕ)
    → assertion_at bytes offset
    ≡ (row_at one_or_two bytes offset >>= λ (count, start). after_array (count == 2) bytes start)
unfolding assertion_at after_array boolean_at
assertion_parts bytes offset =
    same_then (row_at one_or_two bytes offset) _ _
    (λ x. sym (then_then (head_at bytes x.1) _ _))

-- ---- unsigned integers

eid_turn : (owner : Owner) (draft : Draft) (bytes : List ℕ) (next : ℕ)
    → located bytes (by_eid owner draft bytes (eid_at bytes next))
    ≡ rest_at (AtHead (due.Pair (pair_.Eid owner)), draft) bytes next
unfolding stage_left due_left eid_at scheme_left
eid_turn owner draft bytes next =
    ap (located bytes) (by_eid-then owner draft bytes (row_at pair bytes next) _)

type_turn : (is_report : Bool) (type : ℕ) (draft : Draft) (bytes : List ℕ) (next : ℕ)
    → located bytes (if is_report then report_left draft bytes next
    else item_ended (found.OtherRecord type) draft bytes next)
    ≡ rest_at ((if is_report then AtHead due.Report else Read (found.OtherRecord type)), draft)
    bytes next
unfolding stage_left due_left
type_turn true type draft bytes next = refl
type_turn false type draft bytes next = refl

after_fragment-then : {A : Type 0} (draft : Draft) (bytes : List ℕ) (part : ReadAt A)
    (next : A × ℕ → ReadAt (Option (ℕ × ℕ)))
    → after_fragment draft bytes (part >>= next)
    ≡ (part >>= λ x. after_fragment draft bytes (next x))
after_fragment-then draft bytes (Ok x) next = refl
after_fragment-then draft bytes (Err stop) next = refl

fragment_turn : (is_fragment : Bool) (draft : Draft) (bytes : List ℕ) (next : ℕ)
    → located bytes (after_fragment draft bytes (fragment_at is_fragment bytes next))
    ≡ rest_at (if is_fragment then (AtHead (due.Number number.FragmentOffset), draft)
    else (
      Read found.StatusReport,
      record draft { report = record draft.report { fragment = None } },
    )) bytes next
unfolding stage_left due_left fragment_at fragment_elements
fragment_turn false draft bytes next = refl
fragment_turn true draft bytes next =
    ap (located bytes) (ap (after_fragment draft bytes) (fragment_at-true bytes next)
    ∙ after_fragment-then draft bytes (row_at unsigned bytes next) _
    ∙ same_then (row_at unsigned bytes next) _ _
    (λ x. after_fragment-then draft bytes (row_at unsigned bytes x.1) _))

number_turn : (which : Number) (value : ℕ) (draft : Draft) (bytes : List ℕ) (next : ℕ)
    → located bytes (number_left which draft value bytes next)
    ≡ rest_at (took which value draft) bytes next
unfolding stage_left due_left sequence_left node_left service_left
number_turn number.Age value draft bytes next = refl
number_turn number.HopLimit value draft bytes next = refl
number_turn (number.HopCount limit) value draft bytes next = refl
number_turn (number.Target left) value draft bytes next =
    targets_turn left (with_target draft value) bytes next
number_turn number.ContextFlags value draft bytes next =
    eid_turn owner.Security (with_flags value draft) bytes next
number_turn number.RecordType value draft bytes next = type_turn (value == 1) value draft bytes next
number_turn (number.AssertedTime status) value draft bytes next =
    status_turn status (YesAt value) draft bytes next
number_turn number.Reason value draft bytes next =
    eid_turn owner.Report (record draft { report = record draft.report { reason = value } }) bytes
    next
number_turn number.CreationTime value draft bytes next = refl
number_turn number.Sequence value draft bytes next =
    fragment_turn draft.is_fragment
    (record draft { report = record draft.report { sequence = value } }) bytes next
number_turn number.FragmentOffset value draft bytes next = refl
number_turn (number.FragmentLength start) value draft bytes next = refl
number_turn (number.Allocator owner) value draft bytes next =
    ap (located bytes) (by_eid-then owner draft bytes (row_at unsigned bytes next) _)
number_turn (number.Node owner allocator) value draft bytes next =
    ap (located bytes) (by_eid-then owner draft bytes (row_at unsigned bytes next) _)
number_turn (number.Service owner allocator node) value draft bytes next =
    owner_ends owner (with_eid (numbered allocator node value) draft) bytes next

pair_turn : (which : Pair) (draft : Draft) (bytes : List ℕ) (next : ℕ)
    → located bytes (pair_left which draft bytes next)
    ≡ rest_at (AtHead (first_of which), draft) bytes next
unfolding stage_left due_left limit_left type_left time_left
pair_turn (pair_.Eid owner) draft bytes next = refl
pair_turn pair_.HopCount draft bytes next = refl
pair_turn pair_.Record draft bytes next = refl
pair_turn pair_.Timestamp draft bytes next = refl

-- ---- each head

pub head_turn : (which : Due) (draft : Draft) (head : Head) (bytes : List ℕ) (offset next : ℕ)
    → head_at bytes offset ≡ Ok (head, next) → next ≤ length bytes
    → located bytes (due_left which draft bytes offset)
    ≡ goes_on (judged which (next - offset) head draft) bytes offset next
unfolding due_left specific_at scheme_left context_left report_left assertions_left stage_left
    flags_left boolean_at after_array
head_turn (due.Number which) draft head bytes offset next whole within =
    by_row (λ (reading : ReadAt ℕ).
    reading >>= λ (value, end). number_left which draft value bytes end)
    (λ (value : ℕ). took which value draft) unsigned bytes offset next head whole
    (λ value. number_turn which value draft bytes next) (λ stop. refl)
head_turn (due.Pair which) draft head bytes offset next whole within =
    by_row (λ (reading : ReadAt ℕ). reading >>= λ (_, end). pair_left which draft bytes end)
    (λ (_ : ℕ). (AtHead (first_of which), draft)) pair bytes offset next head whole
    (λ _. pair_turn which draft bytes next) (λ stop. refl)
head_turn (due.Scheme owner) draft head bytes offset next whole within =
    by_row (λ (reading : ReadAt Scheme). by_eid owner draft bytes (reading >>= λ (scheme, end).
    specific_at scheme bytes end))
    (λ (scheme : Scheme). (AtHead (specific owner scheme), draft)) scheme bytes offset next head
    whole (λ scheme. scheme_turn owner scheme draft bytes next) (λ stop. refl)
head_turn (due.DtnPart owner) draft head bytes offset next whole within =
    by_row (λ (reading : ReadAt (Option ℕ)). by_eid owner draft bytes
    (reading >>= λ (part, end). dtn_at part bytes end))
    (λ (part : Option ℕ). took_dtn owner part draft) dtn_part bytes offset next head whole
    (λ part. dtn_turn owner part draft bytes next within) (λ stop. refl)
head_turn (due.IpnPart owner) draft head bytes offset next whole within =
    by_row (λ (reading : ReadAt ℕ). by_eid owner draft bytes
    (reading >>= λ (count, end). ipn_at (count == 3) bytes end))
    (λ (count : ℕ). (AtHead (first_number owner count), draft)) ipn_part bytes offset next head
    whole (λ count. ipn_turn (count == 3) owner draft bytes next) (λ stop. refl)
head_turn due.Targets draft head bytes offset next whole within =
    by_row (λ (reading : ReadAt ℕ). reading >>= λ (count, end).
    targets_left count (with_targets count draft) bytes end)
    (λ (count : ℕ). (AtHead (targets_due count), with_targets count draft)) array bytes offset next
    head whole (λ count. targets_turn count (with_targets count draft) bytes next) (λ stop. refl)
head_turn due.ContextId draft head bytes offset next whole within =
    by_row (λ (reading : ReadAt Integer). reading >>= λ (context, end).
    flags_left (with_context context draft) bytes end)
    (λ (context : Integer).
    (AtHead (due.Number number.ContextFlags), with_context context draft)) integer bytes offset next
    head whole (λ context. refl) (λ stop. refl)
head_turn due.Report draft head bytes offset next whole within =
    by_row (λ (reading : ReadAt ℕ). reading >>= λ (count, end).
    assertions_left (record draft { is_fragment = count == 6 }) bytes end)
    (λ (count : ℕ). (AtHead due.Assertions, record draft { is_fragment = count == 6 }))
    four_or_six bytes offset next head whole
    (λ count. refl) (λ stop. refl)
head_turn due.Assertions draft head bytes offset next whole within =
    by_row (λ (reading : ReadAt ℕ). reading >>= λ (count, end).
    received_left (with_others (count - 4) draft) bytes (assertion_at bytes end))
    (λ (count : ℕ). (AtHead (due.Assertion status.Received), with_others (count - 4) draft))
    four_or_more bytes offset next head whole
    (λ count. refl) (λ stop. refl)
head_turn (due.Assertion status) draft head bytes offset next whole within =
    ap (λ (reading : ReadAt Assertion). located bytes (by_assertion status draft bytes reading))
    (assertion_parts bytes offset)
    ∙ by_row (λ (reading : ReadAt ℕ). by_assertion status draft bytes
    (reading >>= λ (count, start). after_array (count == 2) bytes start))
    (λ (count : ℕ). (AtHead (due.Asserted status (count == 2)), draft)) one_or_two bytes offset next
    head whole (λ count. refl)
    (λ stop. by_assertion-stopped status draft bytes stop)
head_turn (due.Asserted status has_time) draft head bytes offset next whole within =
    rw whole (by_outcome (λ (reading : ReadAt Bool).
    by_assertion status draft bytes (boolean_left has_time bytes reading))
    (λ (asserted : Bool). took_asserted status has_time asserted draft) _ bytes offset next
    (λ asserted. asserted_turn status _ _ draft bytes next)
    (λ stop. by_assertion-stopped status draft bytes stop))
