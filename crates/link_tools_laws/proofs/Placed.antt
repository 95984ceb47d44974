-- The rules that `check` finds broken in events, and the transfers of a stream with their offsets
-- and the rules that they break once they are closed.
use Rattle.std.specs.List.{All, filter, fold}
use Rattle.std.proofs.Common.{◌≡◌, Bool, true, false, not, ◌&&◌, List, [], ◌∷◌, ◌++◌, Option, refl, sym, arith, ℕ, ◌==◌, length, map, Some, None, option_map, Result, Ok, Err, if◌then◌else◌, ap, ◌∙◌, append-nil, append_assoc}
use Rattle.std.proofs.Math.Bool.{and-true, and_assoc}
use Rattle.std.proofs.lemmas.{Grind.flat_map-append, List.Folds.list_all-append}
use Rattle.std.proofs.lemmas.List.Elements.{All-cons, All-tail, filter-append}
use Rattle.link_tool_option_types.specs.{declared.wanted.Wanted.Wanted}
use Rattle.link_tool_option_types.specs.declared.check.CheckOptions.{CheckOptions}
use Rattle.link_wire.specs.{Codes.{is_start, is_end}, declared.message.Message.Message}
use Rattle.link_wire.specs.declared.message.SegmentHead.{SegmentHead}
use Rattle.link_bundle_types.specs.declared.fault.BundleFault.{BundleFault}
use Rattle.link_bundle_types.specs.declared.info.BundleInfo.{BundleInfo}
use Rattle.link_bundle_blocks.specs.Bundle.{verdict}
use Rattle.link_transfer.specs.{declared.fault.OrderFault.OrderFault, declared.joiner.Turn.Turn}
use Rattle.link_rules_shared.specs.declared.{doubt.Doubt.Doubt, doubt.Doubt.TheVariants.Nothing}
use Rattle.link_bundle_rules.specs.Sources.{known_source_of}
use Rattle.link_session_rules.specs.{Heads.HeadWithOrder, Flags.contact_flags, TransferData.data_rule}
use Rattle.link_session_rules.specs.TransferRules.{broken_transfer_rules, length_item, length_differs, length_of_one_segment}
use Rattle.link_session_rules.specs.declared.rule.MessageRule.{MessageRule}
use Rattle.link_session_rules.specs.declared.rule.TransferRule.TheVariants.{Unfinished}
use Rattle.link_report_broken_rules.specs.declared.line.RuleText.{RuleText}
use Rattle.link_report_broken_rules.specs.declared.rule.BrokenRule.{BrokenRule}
use Rattle.link_run.specs.Writers.{on_output}
use Rattle.link_run.proofs.Runs.{texts_as}
use Rattle.link_run_over_transfers.specs.Saying.{kept_after, said_from}
use Rattle.link_run_over_transfers.specs.Walk.{WalkEvent, Head, open_after_event, has_open, ContactHeader, MessageHead, Data, Whole, LeftOpen}
use Rattle.link_run_over_transfers.proofs.Heads.{has_open-append}
use Rattle.link_run_judge.specs.Transfers.{Transfer, continued}
use Rattle.link_run_judge.specs.Unpacking.{Told, transfers_at, told_event, told_after, none_told}
use Rattle.link_run_judge.proofs.Effects.{zero_eq, Does, Strays, Passes, Begins, Continues, comes_does}
use Rattle.link_run_judge.proofs.Heads.{transfers_same, transfer_begins, transfer_continues}
use Rattle.link_tool_check.specs.Checking.{BegunTransfer, Kept, broken_by, heads_with, judged, latest_with, checking, optional, origin_of, sender_of, item_doubt, data_texts, closed_texts, texts_at, with_bytes}
use Rattle.link_tool_check.specs.Lines.{counts, line_of, lines_of, none_counts, at_offset}
use Rattle.link_tool_check.specs.BundleRules.{bundle_doubt, bundle_rules}
use Rattle.link_tools_laws.proofs.Prefixes.{prefix_first, prefix_after, prefix_none}
use Rattle.link_tools_laws.specs.Prefix.{IsPrefixOf}
use Rattle.link_tools_laws.proofs.Walks.{Follows, AllFollow}
use Rattle.link_wire.specs.declared.message.Message.TheVariants as message
use Rattle.link_transfer.specs.declared.joiner.Turn.TheVariants as turn
use Rattle.link_report_broken_rules.specs.declared.rule.BrokenRule.TheVariants as rule

-- ---- the rules that are broken in events, whether or not they have a line

pub counts_append : (must : Bool) (first second : List RuleText)
    → none_counts must (first ++ second) ≡ (none_counts must first && none_counts must second)
unfolding none_counts
counts_append must first second = list_all-append (λ line. not (counts must line)) first second

lines_append : (must : Bool) (first second : List RuleText)
    → lines_of must (first ++ second) ≡ lines_of must first ++ lines_of must second
unfolding lines_of
lines_append must first second = flat_map-append (line_of must) first second

pub rules_prefix : (must : Bool) (rules all : List RuleText) → IsPrefixOf rules all
    → IsPrefixOf (lines_of must rules) (lines_of must all)
rules_prefix must rules all front = rw (front.1, lines_append must rules front.0) (prefix_first _ _)

module _ (asked : CheckOptions) where
  abbrev pub options : (must : Bool) → CheckOptions
  options must = record asked { must = must }

  -- the rules that are broken with this event, after these heads
  abbrev pub broken_with : List HeadWithOrder → (latest : Option BegunTransfer) → WalkEvent → List RuleText
  broken_with heads latest event =
      broken_by (options false) (record { heads = heads; latest = latest; good = true }) event

  abbrev pub broken_from : List HeadWithOrder → (latest : Option BegunTransfer) → List WalkEvent
      → List RuleText
  broken_from heads latest [] = []
  broken_from heads latest (event ∷ more) =
      broken_with heads latest event
      ++ broken_from (heads_with heads event) (latest_with latest event) more

  -- the rules that events break come before those that are broken with more
  pub broken_first : (heads : List HeadWithOrder) (latest : Option BegunTransfer) (events more : List WalkEvent)
      → IsPrefixOf (broken_from heads latest events) (broken_from heads latest (events ++ more))
  broken_first heads latest [] more = prefix_none _
  broken_first heads latest (event ∷ events) more =
      prefix_after (broken_with heads latest event) _ _
      (broken_first (heads_with heads event) (latest_with latest event) events more)

  module _ (must : Bool) where
    -- if none of the rules counts that more events break, none does that these break
    pub none_before : (heads : List HeadWithOrder) (latest : Option BegunTransfer)
        (events more : List WalkEvent) → IsPrefixOf events more
        → none_counts must (broken_from heads latest more) ≡ true
        → none_counts must (broken_from heads latest events) ≡ true
    none_before heads latest events more front none =
        let first = broken_first heads latest events front.0 in grind (arith, counts_append)

    pub lines_said : (events : List WalkEvent) (kept : Kept)
        → said_from (checking (options must)) kept events
        ≡ on_output (lines_of must (broken_from kept.heads kept.latest events))
    unfolding lines_of
    lines_said [] kept = refl
    lines_said (event ∷ more) kept =
        grind (arith, lines_append, texts_as, lines_said more)

    pub good_kept : (events : List WalkEvent) (kept : Kept)
        → (kept_after (checking (options must)) kept events).good
        ≡ (kept.good && none_counts must (broken_from kept.heads kept.latest events))
    unfolding none_counts
    good_kept [] kept = sym (and-true kept.good)
    good_kept (event ∷ more) kept =
        grind (arith, and_assoc, counts_append, good_kept more)

-- ---- the transfers after an event

abbrev pub after_event : List Transfer → WalkEvent → List Transfer
after_event transfers (ContactHeader contact) = transfers
after_event transfers (MessageHead head) = transfers_at head.turn transfers head.message
after_event transfers (Data byte) = continued transfers (byte ∷ []) false
after_event transfers Whole = continued transfers [] true
after_event transfers LeftOpen = transfers

abbrev pub after_events : List Transfer → List WalkEvent → List Transfer
after_events transfers events = fold after_event transfers events

module _ (wanted : Wanted) where
  told_all : (events : List WalkEvent) (told : Told)
      → (fold (told_event wanted) told events).transfers ≡ after_events told.transfers events
  told_all [] told = refl
  told_all (event ∷ more) told = grind (arith, told_all more (told_event wanted told event))

  -- the transfers that `unpack` has told
  pub told_transfers : (events : List WalkEvent)
      → (told_after wanted events).transfers ≡ after_events [] events
  unfolding told_after
  told_transfers events = told_all events none_told

-- ---- transfers with their offsets

-- a transfer, the offset of its first segment, and the node ID of its sender at its latest event
pub record Placed : Type 0 where
  pub offset : ℕ
  pub transfer : Transfer
  pub sender : List ℕ

-- the transfer was sent by this node
abbrev pub IsFrom : (node : List ℕ) → Placed → Type 0
IsFrom node placed = placed.sender ≡ node

abbrev pub transfers_in : List Placed → List Transfer
transfers_in placed = map (λ (one : Placed). one.transfer) placed

abbrev pub begun_of : Placed → BegunTransfer
begun_of placed = record {
  offset = placed.offset;
  first = placed.transfer.first;
  content = placed.transfer.content;
}

-- the latest transfer is not closed, and is the one that began last
abbrev pub IsOpenAt : (latest : Option BegunTransfer) → List Placed → Type 0
IsOpenAt latest [] = ⊥
IsOpenAt latest (placed ∷ earlier) =
    (placed.transfer.closed ≡ false) × (latest ≡ Some (begun_of placed))

-- ---- the rules of closed transfers

-- whether it is a rule of a transfer that is closed, or of its bundle
abbrev pub is_closed : BrokenRule → Bool
is_closed (rule.Message broken) = false
is_closed (rule.Transfer id (Unfinished size)) = false
is_closed (rule.Transfer id broken) = true
is_closed (rule.Bundle where_it_is broken) = true

abbrev pub passing : (BrokenRule → Bool) → List RuleText → List RuleText
passing test lines = filter (λ (line : RuleText). test line.rule) lines

-- rules of one kind that all pass a test, or that all fail
module _ {A : Type 0} (test : BrokenRule → Bool) (made : A → BrokenRule) (offset : ℕ)
    (doubt : Doubt) where
  pub all_pass : ((one : A) → test (made one) ≡ true) → (rules : List A)
      → passing test (at_offset offset doubt (map made rules))
      ≡ at_offset offset doubt (map made rules)
  all_pass pass [] = refl
  all_pass pass (one ∷ more) = rw (pass one, all_pass pass more) refl

  pub none_pass : ((one : A) → test (made one) ≡ false) → (rules : List A)
      → passing test (at_offset offset doubt (map made rules)) ≡ []
  none_pass fail [] = refl
  none_pass fail (one ∷ more) = rw (fail one) (none_pass fail more)

length_closed : (offset id : ℕ) (doubt : Doubt) (first : SegmentHead) (size : ℕ)
    → (let broken = map (λ one. rule.Transfer id one) (broken_transfer_rules first size) in
    passing is_closed (at_offset offset doubt broken) ≡ at_offset offset doubt broken)
unfolding broken_transfer_rules length_item length_differs length_of_one_segment
length_closed offset id doubt first size = grind arith

module _ (own sender : List ℕ) where
  data_closed : (begun : BegunTransfer) (said : Result BundleInfo (BundleFault × ℕ))
      → passing is_closed (data_texts own sender begun said) ≡ data_texts own sender begun said
  unfolding data_rule
  data_closed begun (Ok info) =
      let origin = origin_of sender begun in
      all_pass is_closed (λ one. rule.Bundle origin.place one) origin.offset
      (bundle_doubt own origin.has_other_item begun.content) (λ one. refl)
      (bundle_rules own (known_source_of own sender info.source) begun.content info)
  data_closed begun (Err (fault, byte)) = grind arith

  pub all_closed : (latest : Option BegunTransfer)
      → passing is_closed (texts_at (closed_texts own sender) latest)
      ≡ texts_at (closed_texts own sender) latest
  all_closed None = refl
  all_closed (Some begun) =
      rw (
        filter-append,
        length_closed begun.offset begun.first.id (item_doubt begun) begun.first
            (length begun.content),
        data_closed begun (verdict begun.content),
      ) refl

module _ (own : List ℕ) where
  -- the rules that a transfer breaks, if it is closed
  abbrev pub due_of : Placed → List RuleText
  due_of placed =
      if placed.transfer.closed then closed_texts own placed.sender (begun_of placed) else []

  -- those of some transfers; the latest transfer comes first
  abbrev pub rules_of : List Placed → List RuleText
  rules_of [] = []
  rules_of (latest ∷ earlier) = rules_of earlier ++ due_of latest

  -- a transfer that is not closed adds nothing
  open_rules : (placed : Placed) (earlier : List Placed) → placed.transfer.closed ≡ false
      → rules_of (placed ∷ earlier) ≡ rules_of earlier
  open_rules placed earlier is = rw (is, append-nil (rules_of earlier))

-- ---- the sender of a transfer

-- whether a head with this effect begins or continues a transfer
abbrev pub is_of_transfer : Option Turn → Bool
is_of_transfer None = false
is_of_transfer (Some turn.Other) = false
is_of_transfer (Some _) = true

-- whether an event changes a transfer
abbrev pub changes : WalkEvent → Bool
changes (ContactHeader contact) = false
changes (MessageHead head) = is_of_transfer head.turn
changes (Data byte) = true
changes Whole = true
changes LeftOpen = false

-- if an event changes a transfer, the first SESS_INIT up to the event has this node ID
abbrev pub ComesFrom : (node : List ℕ) → List HeadWithOrder → WalkEvent → Type 0
ComesFrom node heads event = changes event ≡ true → sender_of (heads_with heads event) ≡ node

-- the same for each of these events
abbrev pub AllComeFrom : (node : List ℕ) → List HeadWithOrder → List WalkEvent → Type 0
AllComeFrom node heads [] = Unit {0}
AllComeFrom node heads (event ∷ more) =
    ComesFrom node heads event × AllComeFrom node (heads_with heads event) more

module _ (asked : CheckOptions) where
  abbrev closed_in : List RuleText → List RuleText
  closed_in lines = passing is_closed lines

  abbrev rules_in : List Placed → List RuleText
  rules_in placed = rules_of asked.own.items placed

  abbrev closed_after : (sender : List ℕ) → Option BegunTransfer → List RuleText
  closed_after sender latest = texts_at (closed_texts asked.own.items sender) latest

  -- ---- one event

  -- what one more event does
  record AfterOne (opened : Bool) (placed : List Placed) (heads : List HeadWithOrder)
      (latest : Option BegunTransfer) (event : WalkEvent) : Type 0 where
    pub after : List Placed
    pub are : transfers_in after ≡ after_event (transfers_in placed) event
    pub rules : rules_in after ≡ rules_in placed ++ closed_in (broken_with asked heads latest event)
    pub opens : open_after_event opened event ≡ true → IsOpenAt (latest_with latest event) after
    pub from : (node : List ℕ) → ComesFrom node heads event → All (IsFrom node) placed
        → All (IsFrom node) after

  -- the rules of a head, and of the transfer that it closes
  head_closed : (offset : ℕ) (broken : List MessageRule) (closing : Bool) (sender : List ℕ)
      (closed : Option BegunTransfer)
      → (let due : List RuleText = if closing then closed_after sender closed else [] in
      closed_in (at_offset offset Nothing (map (λ one. rule.Message one) broken) ++ due) ≡ due)
  head_closed offset broken closing sender closed =
      let none = none_pass is_closed (λ one. rule.Message one) offset Nothing (λ one. refl) broken in
      grind (arith, all_closed, filter-append)

  module _ (heads : List HeadWithOrder) (latest : Option BegunTransfer) where
    -- an event that changes nothing
    passes : (opened : Bool) (placed : List Placed) (event : WalkEvent)
        → after_event (transfers_in placed) event ≡ transfers_in placed
        → closed_in (broken_with asked heads latest event) ≡ []
        → (open_after_event opened event ≡ true → IsOpenAt (latest_with latest event) placed)
        → AfterOne opened placed heads latest event
    passes opened placed event same none opens = record {
      after = placed;
      are = sym same;
      rules = rw none (sym (append-nil (rules_in placed)));
      opens = opens;
      from = λ node sent all. all;
    }

    -- ---- heads

    module _ (opened : Bool) (offset : ℕ) (fault : Option OrderFault) where
      abbrev head_as : Message → Option Turn → Head
      head_as sent effect =
          record { offset = offset; message = sent; fault = fault; turn = effect }

      -- the node ID of the sender with this head
      abbrev sender_with : Message → Option Turn → List ℕ
      sender_with sent effect = sender_of (heads ++ judged (head_as sent effect) ∷ [])

      begins_after : (placed : List Placed) (first : SegmentHead) (abandoned : Option ℕ)
          → is_start first.flags ≡ true
          → AfterOne opened placed heads latest (MessageHead (head_as (message.Segment first)
          (Some (turn.Begin abandoned (is_end first.flags)))))
      begins_after placed first abandoned starts =
          let closing = is_end first.flags && (first.length == 0) in
          let sender = sender_with (message.Segment first) (Some (turn.Begin abandoned (is_end first.flags))) in
          let new : Placed = record {
            offset = offset;
            transfer = record { first = first; content = []; closed = closing };
            sender = sender;
          } in
          record {
            after = new ∷ placed;
            are = rw (transfer_begins (transfers_in placed) first [] starts, zero_eq first.length);
            rules = rw (head_closed offset _ closing sender (Some (begun_of new)));
            opens = λ open_now. (grind arith, refl);
            from = λ node sent all. All-cons (IsFrom node) new placed (sent refl) all;
          }

      continues_after : (one : Placed) (earlier : List Placed) (first : SegmentHead)
          → is_start first.flags ≡ false → IsOpenAt latest (one ∷ earlier)
          → AfterOne opened (one ∷ earlier) heads latest
          (MessageHead (head_as (message.Segment first)
          (Some (turn.Continue (is_end first.flags)))))
      continues_after one earlier first starts at =
          let closing = is_end first.flags && (first.length == 0) in
          let sender = sender_with (message.Segment first) (Some (turn.Continue (is_end first.flags))) in
          let now = record one { transfer = record one.transfer { closed = closing }; sender = sender } in
          record {
            after = now ∷ earlier;
            are = rw (
              transfer_continues (transfers_in (one ∷ earlier)) first [] starts,
              append-nil one.transfer.content,
              zero_eq first.length,
            );
            rules = rw (
              open_rules asked.own.items one earlier at.0,
              head_closed offset _ closing sender latest,
              at.1,
            );
            opens = λ open_now. (grind arith, at.1);
            from = λ node sent all.
                All-cons (IsFrom node) now earlier (sent refl) (All-tail (IsFrom node) one earlier all);
          }

      head_after : (placed : List Placed) (sent : Message) (effect : Option Turn)
          → (opened ≡ true → IsOpenAt latest placed) → Does effect sent opened
          → AfterOne opened placed heads latest (MessageHead (head_as sent effect))
      head_after placed sent effect at (Strays is) = grind (arith, head_closed, passes)
      head_after placed sent effect at (Passes is other) =
          grind (arith, head_closed, passes, transfers_same)
      head_after placed sent effect at (Begins first abandoned is starts does same) =
          rw (does, is) (begins_after placed first abandoned starts)
      head_after [] sent effect at (Continues first is starts does also) = absurd (at also)
      head_after (one ∷ earlier) sent effect at (Continues first is starts does also) =
          rw (does, is) (continues_after one earlier first starts (at also))

    -- ---- the end of the stream

    left_after : (one : Placed) (earlier : List Placed) → IsOpenAt latest (one ∷ earlier)
        → AfterOne true (one ∷ earlier) heads latest LeftOpen
    left_after one earlier at = grind (arith, passes)

  -- ---- events

  event_after : (before : List WalkEvent) (event : WalkEvent) (placed : List Placed)
      (heads : List HeadWithOrder) (latest : Option BegunTransfer) → Follows before event
      → (has_open before ≡ true → IsOpenAt latest placed)
      → AfterOne (has_open before) placed heads latest event
  event_after before (ContactHeader contact) placed heads latest follows at =
      let none = none_pass is_closed (λ one. rule.Message one) 0 Nothing (λ one. refl)
      (optional (contact_flags contact)) in
      grind (arith, passes)
  event_after before (MessageHead head) placed heads latest follows at =
      head_after heads latest (has_open before) head.offset head.fault placed head.message head.turn
      at (comes_does before head follows)
  event_after before (Data byte) (one ∷ earlier) heads latest opened at =
      let content = one.transfer.content ++ byte ∷ [] in
      let grown = record one.transfer { content = content; closed = false } in
      let now = record one { transfer = grown; sender = sender_of heads } in
      record {
        after = now ∷ earlier;
        are = refl;
        rules = rw (open_rules asked.own.items one earlier (at opened).0, append-nil);
        opens = λ open_now. (refl, ap (option_map (with_bytes (byte ∷ []))) (at opened).1);
        from = λ node sent all.
            All-cons (IsFrom node) now earlier (sent refl) (All-tail (IsFrom node) one earlier all);
      }
  event_after before Whole (one ∷ earlier) heads latest opened at =
      let sender = sender_of heads in
      let now = record one { transfer = record one.transfer { closed = true }; sender = sender } in
      record {
        after = now ∷ earlier;
        are = rw (append-nil one.transfer.content);
        rules = rw (
          open_rules asked.own.items one earlier (at opened).0,
          (at opened).1,
          all_closed asked.own.items sender (Some (begun_of one)),
        );
        opens = λ open_now. absurd (cc);
        from = λ node sent all.
            All-cons (IsFrom node) now earlier (sent refl) (All-tail (IsFrom node) one earlier all);
      }
  event_after before LeftOpen (one ∷ earlier) heads latest opened at =
      rw opened (left_after heads latest one earlier (at opened))
  event_after before event [] heads latest opened at = absurd (at opened)

  -- what more events do, which follow the first ones
  pub record AfterAll (placed : List Placed) (heads : List HeadWithOrder) (latest : Option BegunTransfer)
      (more : List WalkEvent) : Type 0 where
    pub after : List Placed
    pub are : transfers_in after ≡ after_events (transfers_in placed) more
    pub rules : rules_in after ≡ rules_in placed ++ closed_in (broken_from asked heads latest more)
    pub from : (node : List ℕ) → AllComeFrom node heads more → All (IsFrom node) placed
        → All (IsFrom node) after

  pub all_after : (more before : List WalkEvent) (placed : List Placed) (heads : List HeadWithOrder)
      (latest : Option BegunTransfer) → AllFollow before more
      → (has_open before ≡ true → IsOpenAt latest placed) → AfterAll placed heads latest more
  all_after [] before placed heads latest follow at = record {
    after = placed;
    are = refl;
    rules = sym (append-nil (rules_in placed));
    from = λ node sent all. all;
  }
  all_after (event ∷ more) before placed heads latest follow at =
      let now = event_after before event placed heads latest follow.0 at in
      let broken = broken_with asked heads latest event in
      let rest = all_after more (before ++ event ∷ []) now.after (heads_with heads event)
      (latest_with latest event) follow.1
      (λ opened. now.opens (sym (has_open-append before (event ∷ [])) ∙ opened)) in
      record {
        after = rest.after;
        are = rest.are ∙ ap (λ (ts : List Transfer). after_events ts more) now.are;
        rules = rw (rest.rules, now.rules, filter-append)
            (append_assoc (rules_in placed) (closed_in broken) _);
        from = λ node sent all. rest.from node sent.1 (now.from node sent.0 all);
      }

  -- all events of a stream
  pub from_start : (events : List WalkEvent) → AllFollow [] events → AfterAll [] [] None events
  unfolding has_open
  from_start events follow = all_after events [] [] [] None follow (λ opened. absurd (cc))
