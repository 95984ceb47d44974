-- What `unpack` reports of a recording in which `check --must` finds no rule broken.
use Rattle.std.specs.List.{All, flat_map}
use Rattle.std.proofs.Common.{◌≡◌, ℕ, true, List, [], ◌∷◌, ◌++◌, length, map, filter_map, Option, Result, Ok, Err, Bool, arith, false, drop, option_map, Some, None, if◌then◌else◌, refl, ap, sym, ◌∙◌, subst}
use Rattle.std.proofs.lemmas.{Bool.and_parts, Grind.{flat_map-append, fold-append}}
use Rattle.std.proofs.lemmas.List.Elements.{All-nil, All-cons, All-append, All-head, All-tail}
use Rattle.link_tool_option_types.specs.{declared.check.CheckOptions.CheckOptions, declared.wanted.Wanted.Wanted}
use Rattle.link_wire.specs.{Message.data_length, Stream.{Entry, End, Reading, reading_of, heads_of}}
use Rattle.link_wire.specs.{declared.message.Contact.Contact, declared.message.Message.Message}
use Rattle.link_bundle_types.specs.declared.fault.BundleFault.{BundleFault}
use Rattle.link_bundle_types.specs.declared.info.BundleInfo.{BundleInfo}
use Rattle.link_bundle_blocks.specs.Bundle.{verdict}
use Rattle.link_transfer.specs.{Announced.announced_of, Event.event_of, Order.{refusal, with_taken}}
use Rattle.link_transfer.specs.declared.announcement.Announced.{Announced}
use Rattle.link_transfer.specs.declared.fault.OrderFault.{OrderFault}
use Rattle.link_rules_shared.specs.declared.{doubt.Doubt.Doubt, doubt.Doubt.TheVariants.{Nothing, WholeBundle}}
use Rattle.link_session_rules.specs.{TransferData.data_rule, Flags.item_flags, NodeIds.node_id}
use Rattle.link_session_rules.specs.TransferRules.{broken_transfer_rules, if_malformed, if_different, length_item, length_differs, length_of_one_segment, transfer_level_of, has_other_item}
use Rattle.link_session_rules.specs.declared.rule.TransferRule.{TransferRule}
use Rattle.link_session_rules.specs.{Heads.{HeadWithOrder, messages_of}, Session.{order, order_level}}
use Rattle.link_session_rules.specs.MessageRules.{broken_rules, judged_rules, level_of}
use Rattle.link_session_rules.specs.declared.rule.MessageRule.{MessageRule}
use Rattle.link_report.specs.Judgement.{judged_length, judged_data}
use Rattle.link_report.specs.declared.fault.Fault.TheVariants.{Order}
use Rattle.link_report_broken_rules.specs.{Names.rule_level, declared.line.RuleText.RuleText}
use Rattle.link_run.specs.Made.{StreamStop, stop_of}
use Rattle.link_run_over_transfers.specs.Walk.{head_at, WalkEvent, MessageHead, content_events, Walked, none_walked, with_next, walked_of, end_events, stop_by, told_of}
use Rattle.link_run_judge.specs.{Transfers.Transfer, Unpacking.Told}
use Rattle.link_tool_check.specs.Checking.{closed_texts, data_texts, optional, BegunTransfer, heads_with, judged, latest_with, check_tool}
use Rattle.link_tool_check.specs.Lines.{none_counts, at_offset}
use Rattle.link_tools_laws.specs.Checked.{IsGoodOrUnsupported, HasGoodOrUnsupportedBundle, IsSecondInitFault, IsSecondInitOrNoStop, HasOnlyAllowedFaults}
use Rattle.link_tools_laws.specs.{Cuts.{fault_at, faults_after, lined}, RoundTrip.all}
use Rattle.link_tools_laws.specs.Transfers.{ordered_by, ordered_after, ordered, transfers_of, unpacked_of}
use Rattle.link_tools_laws.proofs.Placed.{counts_append, options, broken_with, broken_from, good_kept, none_before, Placed, is_closed, passing, transfers_in, begun_of, due_of, rules_of, told_transfers, AfterAll, from_start}
use Rattle.link_tools_laws.proofs.Same.{accepted_in_order, all_kept, not_stray, taken_more, unpacked_in_order, heads_said}
use Rattle.link_tools_laws.proofs.Walks.{walk_told, heads_grow, going, content_none, walk_events, walk_is}
use Rattle.link_tools_laws.proofs.{Prefixes.prefix_first, SameRules.status_clean}
use Rattle.link_tools_laws.proofs.Whole.{AreRead, reading_read}
use Rattle.link_report_broken_rules.specs.declared.rule.BrokenRule.TheVariants as rule
use Rattle.link_session_rules.specs.declared.rule.MessageRule.TheVariants as message_rule

-- ---- closed transfers that break no rule of level `must`

-- no rule of this list is of level `must`
abbrev NoMust : List RuleText → Type 0
NoMust lines = none_counts true lines ≡ true

pub closed_no_must : (lines : List RuleText) → NoMust lines → NoMust (passing is_closed lines)
unfolding none_counts
closed_no_must [] none = none
closed_no_must (line ∷ more) none = grind (arith, closed_no_must more)

no_must_both : (first second : List RuleText) → NoMust (first ++ second)
    → (NoMust first) × (NoMust second)
no_must_both first second none = and_parts _ _ (rw counts_append at none)

-- ---- one transfer

module _ (offset id : ℕ) (content : List ℕ) (has_other : Bool) where
  -- what an extension item of an unknown type may have changed
  abbrev doubt : Doubt
  doubt = if has_other then WholeBundle else Nothing

  data_allowed : (fault : BundleFault × ℕ)
      → NoMust (at_offset offset doubt
      (map (λ one. rule.Transfer id one) (optional (data_rule content (Err fault)))))
      → IsGoodOrUnsupported has_other content (judged_data (Err fault))
  unfolding data_rule none_counts rule_level transfer_level_of
  data_allowed fault none = grind arith

  length_allowed : (announced : Announced) (size : ℕ) (single : Option TransferRule)
      (said : Result BundleInfo (BundleFault × ℕ))
      → NoMust (at_offset offset doubt (map (λ one. rule.Transfer id one)
      (filter_map (λ judged. judged)
      (if_malformed announced ∷ if_different announced size ∷ single ∷ []))))
      → IsGoodOrUnsupported has_other content (judged_data said)
      → IsGoodOrUnsupported has_other content (judged_length announced size said)
  unfolding none_counts rule_level transfer_level_of
  length_allowed announced size single said none may = grind arith

module _ (own : List ℕ) where
  said_allowed : (sender : List ℕ) (begun : BegunTransfer)
      (said : Result BundleInfo (BundleFault × ℕ)) → NoMust (data_texts own sender begun said)
      → IsGoodOrUnsupported (has_other_item begun.first.items.items) begun.content
      (judged_data said)
  said_allowed sender begun (Ok info) none = tt
  said_allowed sender begun (Err fault) none =
      data_allowed begun.offset begun.first.id begun.content
      (has_other_item begun.first.items.items) fault none

  closed_allowed : (placed : Placed) → NoMust (closed_texts own placed.sender (begun_of placed))
      → IsGoodOrUnsupported (has_other_item placed.transfer.first.items.items)
      placed.transfer.content
      (judged_length (announced_of placed.transfer.first.items.items)
      (length placed.transfer.content) (verdict placed.transfer.content))
  unfolding broken_transfer_rules length_item length_differs
  closed_allowed placed none =
      let transfer = placed.transfer in
      let items = transfer.first.items.items in
      let said = verdict transfer.content in
      let both = no_must_both _ (data_texts own placed.sender (begun_of placed) said) none in
      length_allowed placed.offset transfer.first.id transfer.content (has_other_item items)
      (announced_of items) (length transfer.content) (length_of_one_segment transfer.first) said
      both.0 (said_allowed placed.sender (begun_of placed) said both.1)

  -- transfers that break no rule of level `must` once they are closed
  pub all_allowed : (placed : List Placed) → NoMust (rules_of own placed)
      → All HasGoodOrUnsupportedBundle (transfers_in placed)
  all_allowed [] none = All-nil HasGoodOrUnsupportedBundle
  all_allowed (latest ∷ earlier) none =
      let both = no_must_both (rules_of own earlier) (due_of own latest) none in
      All-cons HasGoodOrUnsupportedBundle latest.transfer (transfers_in earlier)
      (grind (arith, closed_allowed, both.1)) (all_allowed earlier both.0)

-- ---- the transfers of heads

module _ (asked : CheckOptions) (contact : Option Contact) where
  abbrev every : List Entry → Walked
  every heads = walked_of (going true) contact heads

  -- none of the rules counts that these heads break
  abbrev KeepsMusts : List Entry → Type 0
  KeepsMusts heads = none_counts true (broken_from asked [] None (every heads).events) ≡ true

  module _ (heads : List Entry) (read : AreRead heads) where
    placed : AfterAll asked [] [] None (every heads).events
    placed = grind (arith, from_start, walk_told)

    same_transfers : (wanted : Wanted)
        → transfers_in placed.after ≡ (unpacked_of wanted heads).transfers
    same_transfers wanted =
        placed.are
        ∙ sym (told_transfers wanted (every heads).events)
        ∙ ap (λ (told : Told). told.transfers) (heads_said wanted true contact heads read)

    transfers_allowed : KeepsMusts heads → (wanted : Wanted)
        → All HasGoodOrUnsupportedBundle (unpacked_of wanted heads).transfers
    transfers_allowed keeps wanted =
        subst (All HasGoodOrUnsupportedBundle) (same_transfers wanted)
        (all_allowed asked.own.items placed.after
        (rw placed.rules (closed_no_must (broken_from asked [] None (every heads).events) keeps)))

  -- the first heads keep what all keep
  first_keep : (first rest : List Entry) → KeepsMusts (first ++ rest) → KeepsMusts first
  unfolding walked_of
  first_keep first rest keeps =
      none_before asked true [] None (every first).events (every (first ++ rest)).events
      (rw (fold-append (with_next (going true)) (none_walked contact) first rest)
      (heads_grow (going true) rest (every first)))
      keeps

-- ---- the faults of heads

abbrev faults_of : WalkEvent → List (ℕ × OrderFault)
faults_of (MessageHead head) = fault_at head.offset head.fault
faults_of event = []

abbrev all_faults : List WalkEvent → List (ℕ × OrderFault)
all_faults events = flat_map faults_of events

walk_faults : (heads : List Entry) (taken : List Message)
    → all_faults (walk_events true taken heads) ≡ faults_after taken heads
unfolding faults_after
walk_faults [] taken = refl
walk_faults (head ∷ more) taken =
    let at = head_at taken head.offset head.message in
    let content = content_events at.turn (data_length head.message) head.content in
    rw (
      flat_map-append faults_of content (walk_events true (with_taken taken head.message) more),
      content_none faults_of (λ byte. refl) refl at.turn (data_length head.message) head.content,
      walk_faults more (with_taken taken head.message),
    )

-- ---- rules of messages of level `must`

module _ (offset : ℕ) where
  abbrev lines_for : List MessageRule → List RuleText
  lines_for broken = at_offset offset Nothing (map (λ one. rule.Message one) broken)

  -- rules after others
  later_rules : (first : Option MessageRule) (others : List (Option MessageRule))
      → none_counts true (lines_for (filter_map (λ judged. judged) (first ∷ others))) ≡ true
      → none_counts true (lines_for (filter_map (λ judged. judged) others)) ≡ true
  unfolding none_counts
  later_rules None others none = none
  later_rules (Some first) others none = (and_parts _ _ none).1

  -- the fault of a head, whose rule comes before others
  order_rule : (earlier : List Message) (message : Message) (fault : Option OrderFault)
      (others : List (Option MessageRule))
      → none_counts true (lines_for (filter_map (λ judged. judged)
      (option_map (λ fault. message_rule.Order fault (order_level earlier message fault)) fault
      ∷ others))) ≡ true
      → All IsSecondInitFault (fault_at offset fault)
  unfolding none_counts rule_level level_of
  order_rule earlier message fault others none = grind arith

module _ (asked : CheckOptions) where
  head_allowed : (heads : List HeadWithOrder) (offset : ℕ) (head : HeadWithOrder)
      → none_counts true (lines_for offset (broken_rules asked.peer heads head)) ≡ true
      → All IsSecondInitFault (fault_at offset head.fault)
  unfolding broken_rules order
  head_allowed heads offset head none =
      let judged = judged_rules asked.peer heads head in
      order_rule offset (messages_of heads) head.message head.fault (drop 3 judged)
      (later_rules offset (item_flags head.message) (drop 2 judged)
      (later_rules offset (node_id head.message) (drop 1 judged) none))

  event_allowed : (heads : List HeadWithOrder) (latest : Option BegunTransfer) (event : WalkEvent)
      → none_counts true (broken_with asked heads latest event) ≡ true
      → All IsSecondInitFault (faults_of event)
  event_allowed heads latest (MessageHead head) none =
      head_allowed heads head.offset (judged head) (grind (arith, counts_append))
  event_allowed heads latest event none = All-nil IsSecondInitFault

  events_allowed : (events : List WalkEvent) (heads : List HeadWithOrder) (latest : Option BegunTransfer)
      → none_counts true (broken_from asked heads latest events) ≡ true
      → All IsSecondInitFault (all_faults events)
  events_allowed [] heads latest none = All-nil IsSecondInitFault
  events_allowed (event ∷ more) heads latest none =
      All-append IsSecondInitFault (faults_of event) (all_faults more)
      (event_allowed heads latest event (grind (arith, counts_append)))
      (events_allowed more (heads_with heads event) (latest_with latest event)
      (grind (arith, counts_append)))

-- ---- a run that ends at a fault of the order

-- the fault at which the walk ends, if there is one
abbrev MayRefuse : Option (ℕ × OrderFault) → Type 0
MayRefuse None = Unit {0}
MayRefuse (Some fault) = IsSecondInitFault fault

may_refuse : (heads : List Entry) (before : List Message)
    → All IsSecondInitFault (faults_after before heads) → MayRefuse (ordered_after before heads).refused
unfolding ordered_after faults_after
may_refuse [] before faults = tt
may_refuse (head ∷ more) before faults =
    let seen = before ++ head.message ∷ [] in
    let later = faults_after (with_taken before head.message) more in
    (elim (refusal before (event_of head.message)) as (λ refused.
    refusal before (event_of head.message) ≡ refused
    → All IsSecondInitFault (fault_at head.offset refused ++ later)
    → MayRefuse (ordered_by refused head (ordered_after seen more)).refused) [
      | None ↦ λ is all.
          let belongs = not_stray before (event_of head.message) is in
          may_refuse more seen (rw (taken_more before head.message belongs) at all)
      | Some fault ↦ λ is all. All-head IsSecondInitFault (head.offset, fault) later all
    ]) refl faults

may_stop : (refused : Option (ℕ × OrderFault)) (end : End) → stop_of end ≡ None
    → MayRefuse refused → IsSecondInitOrNoStop (stop_by refused end)
may_stop None end none may = rw none tt
may_stop (Some (offset, fault)) end none may = (offset, ap (λ f. Order offset f) may)

lined_allowed : (stop : Option StreamStop) (transfers : List Transfer) → All HasGoodOrUnsupportedBundle transfers
    → All HasGoodOrUnsupportedBundle (lined stop transfers)
lined_allowed None transfers allowed = allowed
lined_allowed (Some stop) [] allowed = allowed
lined_allowed (Some stop) (latest ∷ earlier) allowed =
    elim latest.closed as (λ closed. All HasGoodOrUnsupportedBundle (if closed then latest ∷ earlier else earlier))
    [ true ↦ allowed | false ↦ All-tail HasGoodOrUnsupportedBundle latest earlier allowed ]

-- ---- a recording

module _ (asked : CheckOptions) (bytes : List ℕ)
    (is : ((check_tool (options asked true)).whole bytes).status ≡ 0) where
  abbrev reading : Reading
  reading = reading_of bytes

  abbrev heads : List Entry
  heads = heads_of reading

  abbrev walk : Walked
  walk = every asked reading.contact heads

  -- there is no fault of the wire, and no rule that counts is broken
  record IsKept : Type 0 where
    pub unstopped : stop_of reading.end ≡ None
    pub none : none_counts true
        (broken_from asked [] None (walk.events ++ end_events walk.taken)) ≡ true

  kept : IsKept
  unfolding told_of
  kept =
      let unrefused = ap (λ (w : Walked). w.refused) (walk_is true reading.contact heads) in
      grind (arith, good_kept, status_clean)

  keeps : KeepsMusts asked reading.contact heads
  keeps = grind (arith, prefix_first, kept, none_before)

  faults : All IsSecondInitFault (faults_after [] heads)
  faults =
      let same : all_faults walk.events ≡ faults_after [] heads =
      grind (arith, walk_faults, walk_is) in
      rw (← same) (events_allowed asked walk.events [] None keeps)

  -- the heads before the first that is refused
  abbrev accepted : List Entry
  accepted = (ordered heads).heads

  accepted_allowed : All HasGoodOrUnsupportedBundle (transfers_of accepted)
  accepted_allowed =
      let first = all_kept heads in
      let read = first.read (reading_read bytes).heads in
      rw (unpacked_in_order all accepted read (accepted_in_order heads)).made at (
      transfers_allowed asked reading.contact accepted read
      (first_keep asked reading.contact accepted first.rest
      (subst (KeepsMusts asked reading.contact) first.parts keeps)) all
      )

  pub only_allowed : HasOnlyAllowedFaults bytes
  unfolding ordered
  only_allowed = record {
    stop = may_stop (ordered heads).refused reading.end kept.unstopped (may_refuse heads [] faults);
    transfers = lined_allowed (stop_by (ordered heads).refused reading.end) (transfers_of accepted)
        accepted_allowed;
    unstopped = kept.unstopped;
    faults = faults;
    transfers_on = λ wanted.
        rw kept.unstopped
        (transfers_allowed asked reading.contact heads (reading_read bytes).heads keeps wanted);
  }
