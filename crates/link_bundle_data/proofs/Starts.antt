-- The data of each kind is the rest from its first head on, whatever the values are before it.

use Rattle.std.proofs.Common.{◌≡◌, ℕ, ◌-◌, ◌≤◌, Bool, List, [], ◌∷◌, ◌++◌, length, take, refl, sym, ap, ◌∙◌, ⊎_elim, append_assoc, append-nil, length-append, arith}
use Rattle.std.specs.{Prelude.{◌==◌, ◌||◌, Result, Ok, fold, if◌then◌else◌}, List.list_any}
use Rattle.std.proofs.lemmas.{Bool.{cases_lt, lt-ltb, le-ltb}, List.{take_all, take-append-le}}
use Rattle.std.proofs.Math.Bool.{or-false, or_assoc}
use Rattle.link_bundle_data.specs.declared.kind.DataKind.{DataKind}
use Rattle.link_bundle_data.specs.declared.kind.DataKind.TheVariants as kind
use Rattle.link_bundle_data.specs.declared.values.Assertion.{Assertion}
use Rattle.link_bundle_data.specs.declared.due.Owner.TheVariants as owner
use Rattle.link_bundle_data.specs.declared.due.Status.TheVariants as status
use Rattle.link_bundle_data.specs.declared.draft.Draft.{Draft}
use Rattle.link_bundle_heads.specs.Rows.{unsigned, array, pair}
use Rattle.link_bundle_blocks.specs.{Reading.{Stop, row_at}, EndpointId.eid_at}
use Rattle.link_bundle_data.specs.BlockData.{BlockData, OtherRecord, items_at, is_timed, is_untimed, assertion_at, previous_node, bundle_age, hop_count, security, report_at, administrative_record, reading_of}
use Rattle.link_bundle_data.specs.{DataRows.{four_or_six, four_or_more}, EidLeft.scheme_left}
use Rattle.link_bundle_data.specs.Turns.{first_due, with_others, with_times, with_assertion, with_targets, kept_targets, with_target}
use Rattle.link_bundle_data.specs.Left.{sequence_left, time_left, timestamp_left, reason_left, others_left, assertions_left, report_left, flags_left, context_left, targets_left, limit_left, type_left, due_left}
use Rattle.link_bundle_data.proofs.Names.{same_then, by_eid-then}

-- ---- targets

-- the first targets, with one more and those that follow it
kept_then : (kept : List ℕ) (target : ℕ) (more : List ℕ) → length kept ≤ 64
    → (length (kept_targets kept target) ≤ 64)
    × (take 64 (kept_targets kept target ++ more) ≡ take 64 (kept ++ target ∷ more))
kept_then kept target more few = ⊎_elim
    (λ room. rw (lt-ltb (length kept) 64 room) (
      omega (arith, length-append kept (target ∷ [])),
      rw append_assoc refl,
    ))
    (λ full. rw (le-ltb (length kept) 64 full) (
      few,
      take-append-le 64 kept more full ∙ sym (take-append-le 64 kept (target ∷ more) full),
    ))
    (cases_lt (length kept) 64)

-- whether 0 is among these targets, and the first of them
with_all : (targets : List ℕ) (draft : Draft) → length draft.targets.items ≤ 64
    → fold with_target draft targets
    ≡ record draft {
      security = record draft.security {
        targets_primary = draft.security.targets_primary
            || list_any (λ target. target == 0) targets;
      };
      targets = record { items = take 64 (draft.targets.items ++ targets) };
    }
with_all [] draft few =
    rw (or-false, append-nil, take_all 64 draft.targets.items few) refl
with_all (target ∷ targets) draft few =
    let kept = kept_then draft.targets.items target targets few in
    with_all targets (with_target draft target) kept.0
    ∙ rw (or_assoc, kept.1) refl

-- ---- status assertions

or-assoc_five : (a b c d e : Bool) → ((((a || b) || c) || d) || e) ≡ (a || (b || (c || (d || e))))
or-assoc_five a b c d e = simp or_assoc

-- whether some asserted status has a time, and whether some has none, after these assertions
with_all_times : (assertions : List Assertion) (draft : Draft)
    → fold with_times draft assertions
    ≡ record draft {
      report = record draft.report {
        timed = draft.report.timed || list_any is_timed assertions;
        untimed = draft.report.untimed || list_any is_untimed assertions;
      };
    }
with_all_times [] draft = rw (or-false draft.report.timed, or-false draft.report.untimed) refl
with_all_times (assertion ∷ assertions) draft =
    with_all_times assertions (with_times draft assertion)
    ∙ rw (
      or_assoc draft.report.timed (is_timed assertion) (list_any is_timed assertions),
      or_assoc draft.report.untimed (is_untimed assertion) (list_any is_untimed assertions),
    ) refl

-- the values after all assertions of a status report
all_assertions : (count : ℕ) (received forwarded delivered deleted : Assertion)
    (others : List Assertion) (draft : Draft)
    → record draft {
      others = count;
      report = record draft.report {
        received = received;
        forwarded = forwarded;
        delivered = delivered;
        deleted = deleted;
        timed = list_any is_timed (received ∷ forwarded ∷ delivered ∷ deleted ∷ others);
        untimed = list_any is_untimed (received ∷ forwarded ∷ delivered ∷ deleted ∷ others);
      };
    }
    ≡ fold with_times
    (with_assertion status.Deleted deleted
    (with_assertion status.Delivered delivered
    (with_assertion status.Forwarded forwarded
    (with_assertion status.Received received (with_others count draft))))) others
all_assertions count received forwarded delivered deleted others draft =
    sym (with_all_times others _
    ∙ rw (
      or-assoc_five (is_timed received) (is_timed forwarded) (is_timed delivered) (is_timed deleted)
          (list_any is_timed others),
      or-assoc_five (is_untimed received) (is_untimed forwarded) (is_untimed delivered)
          (is_untimed deleted) (list_any is_untimed others),
    ) refl)

report_starts : (draft : Draft) (bytes : List ℕ) (offset : ℕ)
    → report_at bytes offset ≡ report_left draft bytes offset
unfolding report_at sequence_left time_left timestamp_left reason_left others_left assertions_left
    report_left
report_starts draft bytes offset =
    same_then (row_at four_or_six bytes offset) _ _ (λ elements.
    same_then (row_at four_or_more bytes elements.1) _ _ (λ count.
    same_then (assertion_at bytes count.1) _ _ (λ received.
    same_then (assertion_at bytes received.1) _ _ (λ forwarded.
    same_then (assertion_at bytes forwarded.1) _ _ (λ delivered.
    same_then (assertion_at bytes delivered.1) _ _ (λ deleted.
    same_then (items_at assertion_at (count.0 - 4) bytes deleted.1) _ _ (λ others.
    ap (λ (draft : Draft). reason_left draft bytes others.1)
    (all_assertions (count.0 - 4) received.0 forwarded.0 delivered.0 deleted.0 others.0
    (record draft { is_fragment = elements.0 == 6 })))))))))

-- ---- the first head

pub starts : (kind : DataKind) (draft : Draft) (bytes : List ℕ)
    → reading_of kind bytes ≡ due_left (first_due kind) draft bytes 0
unfolding previous_node bundle_age hop_count security administrative_record eid_at scheme_left
    flags_left context_left targets_left limit_left type_left due_left
starts kind.PreviousNode draft bytes =
    by_eid-then owner.PreviousNode draft bytes (row_at pair bytes 0) _
starts kind.BundleAge draft bytes = refl
starts kind.HopCount draft bytes = refl
starts kind.Security draft bytes =
    same_then (row_at array bytes 0) _ _ (λ count.
    same_then (items_at (row_at unsigned) count.0 bytes count.1) _ _ (λ targets.
    ap (λ (draft : Draft). context_left draft bytes targets.1)
    (sym (with_all targets.0 (with_targets count.0 draft) (omega arith)))))
starts kind.Record draft bytes =
    same_then (row_at pair bytes 0) _ _ (λ pair.
    same_then (row_at unsigned bytes pair.1) _ _ (λ type.
    ap (λ (report : Result BlockData Stop).
    if type.0 == 1 then report else Ok (OtherRecord type.0)) (report_starts draft bytes type.1)))
