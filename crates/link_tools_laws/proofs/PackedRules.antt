-- `check` finds only rules of bundles broken in a packed stream.
use Rattle.std.specs.{Prelude.IfSome, List.{All, flat_map}}
use Rattle.std.proofs.Common.{◌≡◌, ℕ, ◌*◌, ◌<◌, ◌≤◌, Bool, false, ◌==◌, is_some, List, [], ◌∷◌, ◌++◌, length, drop, map, reverse, Option, Some, None, if◌then◌else◌, refl, ap, sym, subst, append-nil, length-take, length-drop, arith, true, Ok, ◌∙◌}
use Rattle.std.proofs.lemmas.{List.reverse-append, Bool.eq-eqb, Bool.Decides.nat_tests}
use Rattle.std.proofs.lemmas.List.Elements.{All-nil, All-cons, All-head, All-tail, All-push, filter-append}
use Rattle.link_tool_option_types.specs.declared.check.CheckOptions.{CheckOptions}
use Rattle.link_tool_option_types.specs.declared.limits.PeerLimits.{PeerLimits}
use Rattle.link_tool_option_types.specs.declared.pack.PackOptions.{PackOptions}
use Rattle.link_wire.specs.{Stream.{Entry, reading_of, heads_of}}
use Rattle.link_wire.specs.{Spelling.announced, declared.message.Message.Message}
use Rattle.link_wire.specs.{Message.data_length, declared.message.SegmentHead.SegmentHead}
use Rattle.link_bundle_rules.specs.Sources.{known_source_of}
use Rattle.link_bundle_types.specs.declared.info.BundleInfo.{BundleInfo}
use Rattle.link_bundle_blocks.specs.Bundle.{verdict}
use Rattle.link_transfer.specs.{Announced.announced_of, Chunks.chunk_count, Cutting.announcement}
use Rattle.link_transfer.specs.{Order.{open_of, with_taken}, Event.event_of}
use Rattle.link_transfer.specs.declared.joiner.Turn.{Turn}
use Rattle.link_transfer.proofs.{Joining.IsJoinerAt-none, Due.chunk_left}
use Rattle.link_session_rules.specs.{Heads.HeadWithOrder, MessageRules.broken_rules}
use Rattle.link_session_rules.specs.{Lengths.{segments_of, peer_transfer}, Flags.contact_flags}
use Rattle.link_session_rules.specs.TransferRules.{broken_transfer_rules, length_item, length_differs, length_of_one_segment, has_other_item}
use Rattle.link_report_broken_rules.specs.declared.line.RuleText.{RuleText}
use Rattle.link_run_over_transfers.specs.Walk.{head_at, WalkEvent, Data, Whole, data_events, content_events, walked_of, end_events}
use Rattle.link_run_judge.specs.Transfers.{Transfer}
use Rattle.link_run_over_bundle_files.specs.Bundles.{BundleWithInfo, Divided, divided}
use Rattle.link_tool_check.specs.Checking.{judged, BegunTransfer, begun_by, closed_texts, latest_with, origin_of}
use Rattle.link_tool_check.specs.BundleRules.{bundle_doubt, bundle_rules}
use Rattle.link_tool_pack.specs.{Packing.{segment_size, sending}, Segments.{BundleToCut, cut_at}}
use Rattle.link_tools_laws.specs.{PackedRules.{IsWithinPeerLimits, OptionsKeepInitRules, BreaksNoMoreThanItsBundles}, RoundTrip.all, Ranges.InputFits}
use Rattle.link_tools_laws.specs.SameRules.{TransferWithBundle, transfer_with, sender_in, broken_in_transfer, is_of_bundle, reports}
use Rattle.link_tools_laws.proofs.Carried.{ToKeep, Come, onto, packed_come, term_come, onto_all, packed_transfers}
use Rattle.link_tools_laws.proofs.ClearHeads.{segment_clear, init_clear, term_clear, new_id, next_id, IsAtMost, exceeds_none, short_none, fresh, carrying, may_come, turn_at, turn_for, none_abandoned, earlier_is, head_of, last_at, segment_at, heads_back, first_back, size_back, At, now_is, ends_as}
use Rattle.link_tools_laws.proofs.Entries.{AreBundles, chunk_of, message_of, packed_entries, init_entry, packed_reading, some_size}
use Rattle.link_tools_laws.proofs.Packed.{announces, none_announced, total_announced, gives_back, input, packed, nothing_left, IsPacked}
use Rattle.link_tools_laws.proofs.Placed.{broken_from, Placed, is_closed, passing, all_pass, all_closed, transfers_in, begun_of, due_of, rules_of}
use Rattle.link_tools_laws.proofs.{Same.{not_stray, taken_more, unpacked_in_order}, Whole.reading_read}
use Rattle.link_tools_laws.proofs.Walks.{going, walk_events, taken_by, walk_is}
use Rattle.link_wire.specs.declared.message.Message.TheVariants as message
use Rattle.link_report_broken_rules.specs.declared.rule.BrokenRule.TheVariants as rule
use Rattle.link_tools_laws.proofs.SameRules as same

-- ---- the messages break no rule of messages

module _ (options : PackOptions) (peer : PeerLimits) (allows : IsWithinPeerLimits options peer) where
  -- a message breaks no rule of messages, and no transfer is open at the end
  abbrev pub Clear : ToKeep
  Clear taken before head =
      broken_rules peer before (judged (head_at taken head.offset head.message)) ≡ []

  abbrev pub Closed : List Message → List Transfer → Type 0
  Closed taken transfers = is_some (open_of taken) ≡ false

  module _ (id k offset : ℕ) (whole : Bool) (bytes : List ℕ)
      (within : length bytes ≤ options.peer_transfer)
      (few : k < chunk_count (segment_size options) (length bytes))
      (taken : List Message) (before : List HeadWithOrder)
      (at : At id (sending options whole bytes) k taken before) where
    abbrev part : BundleToCut
    part = sending options whole bytes

    abbrev last : Bool
    last = last_at id part k

    abbrev seen : HeadWithOrder
    seen = record {
      message = message_of id part k;
      fault = None;
      turn = Some (turn_for (k == 0) last);
    }

    announced_most : (limit : ℕ) → length bytes ≤ limit
        → IsAtMost limit (announced_of (head_of id part 0).items.items)
    announced_most limit fits = grind (arith, announces)

    transfer_within : (limit : Option ℕ) → IfSome limit (λ limit. options.peer_transfer ≤ limit)
        → peer_transfer limit before seen ≡ None
    unfolding peer_transfer
    transfer_within None allowed = refl
    transfer_within (Some limit) allowed =
        let size = size_back id part k in
        let had = length-take (k * part.segment) bytes in
        let chunk = length-take part.segment (drop (k * part.segment) bytes) in
        let left = length-drop (k * part.segment) bytes in
        rw (earlier_is (k == 0) last (segments_of before), at.segments, first_back id part k)
        (exceeds_none limit _ (head_of id part k) (heads_back id part k)
        (announced_most limit (omega arith)) (omega arith))

    segment_within : (limit : Option ℕ) → IfSome limit (λ limit. options.peer_segment ≤ limit)
        → IfSome limit (λ most. length (chunk_of part k) ≤ most)
    segment_within limit allowed = grind (arith, length-take)

    chunk_clear : Clear taken before (segment_at id part k offset)
    chunk_clear =
        let size = length (chunk_of part k) in
        let announce = (cut_at part k).announce in
        rw (now_is id part k offset taken before at)
        (segment_clear peer before (k == 0) last id size announce (turn_for (k == 0) last)
        (none_abandoned (k == 0) last) at.is_open
        (new_id before last id size announce (k == 0) at.ids)
        (next_id before last id size announce (k == 0) at.ids)
        (short_none peer.segment (head_of id part k) (segment_within peer.segment allows.segment))
        (transfer_within peer.transfer allows.transfer))

  -- the messages of a packed stream whose input has no fault
  pub packed_clear : OptionsKeepInitRules options → (bundles : List BundleWithInfo)
      → AreBundles options.peer_transfer bundles
      → Come Clear Closed [] [] []
      (packed_entries options (record { bundles = bundles; rest = None }))
  packed_clear keeps bundles are =
      let init = (init_entry options).message in
      let bye = message.SessTerm 0 0 in
      packed_come Clear Closed options chunk_clear bundles _ are
      (rw (may_come fresh [] init IsJoinerAt-none refl, turn_at fresh [] init IsJoinerAt-none refl)
      (init_clear peer [] options.keepalive options.segment_mru options.transfer_mru
      options.node.items (record { unrejected = refl; unended = refl }) keeps))
      (term_come Clear Closed options chunk_clear options.send_term _ (length bundles)
      (onto options 0 bundles [])
      (λ taken before at.
      rw (
        may_come (carrying None) taken bye at.joins refl,
        turn_at (carrying None) taken bye at.joins refl,
      )
      (term_clear peer before at.is_open))
      (λ terminated taken joins. sym (ap is_some joins.transfer)))
      _

-- ---- the walk over heads

module _ (asked : CheckOptions) where
  -- these events break only rules of closed transfers, whichever transfer began last
  abbrev OnlyClosed : (before : List HeadWithOrder) → List WalkEvent → Type 0
  OnlyClosed before events =
      (latest : Option BegunTransfer)
      → passing is_closed (broken_from asked before latest events)
      ≡ broken_from asked before latest events

  bytes_closed : (bytes : List ℕ) (whole : Bool) (before : List HeadWithOrder)
      (rest : List WalkEvent) → OnlyClosed before rest
      → OnlyClosed before ((data_events bytes ++ (if whole then Whole ∷ [] else [])) ++ rest)
  bytes_closed [] true before rest only latest =
      grind (arith, all_closed, broken_from, filter-append)
  bytes_closed [] false before rest only latest = only latest
  bytes_closed (byte ∷ bytes) whole before rest only latest =
      bytes_closed bytes whole before rest only (latest_with latest (Data byte))

  content_closed : (effect : Option Turn) (size : ℕ) (content : List ℕ) (before : List HeadWithOrder)
      (rest : List WalkEvent) → OnlyClosed before rest
      → OnlyClosed before (content_events effect size content ++ rest)
  content_closed effect size content before rest only = grind (arith, bytes_closed)

  module _ (options : PackOptions) (allows : IsWithinPeerLimits options asked.peer) where
    abbrev IsClear : List Message → (before : List HeadWithOrder) → List Transfer → List Entry → Type 0
    IsClear taken before transfers heads =
        Come (Clear options asked.peer allows) (Closed options asked.peer allows) taken before
        transfers heads

    -- and they leave no transfer open
    heads_closed : (heads : List Entry) (taken : List Message) (before : List HeadWithOrder)
        (transfers : List Transfer) → IsClear taken before transfers heads
        → OnlyClosed before (walk_events true taken heads)
        × (is_some (open_of (taken_by true taken heads)) ≡ false)
    heads_closed [] taken before transfers clear = (λ latest. refl, clear)
    heads_closed (head ∷ more) taken before transfers clear =
        let at = head_at taken head.offset head.message in
        let next = with_taken taken head.message in
        let belongs = not_stray taken (event_of head.message) clear.0 in
        let same = taken_more taken head.message belongs in
        let later : OnlyClosed (before ++ judged at ∷ []) (walk_events true next more)
        × (is_some (open_of (taken_by true next more)) ≡ false) =
        rw same (heads_closed more _ _ _ clear.2) in
        let rest = content_closed at.turn (data_length head.message) head.content
        (before ++ judged at ∷ []) (walk_events true next more) later.0 in (
          λ latest. let now = rest (begun_by at latest) in grind (arith, all_closed, filter-append),
          later.1,
        )

    -- the contact header of a packed stream has no flags
    stream_closed : (heads : List Entry) → IsClear [] [] [] heads
        → (let was = walked_of (going true) (Some (record { flags = 0 })) heads in
        let broken = broken_from asked [] None (was.events ++ end_events was.taken) in
        passing is_closed broken ≡ broken)
    unfolding contact_flags
    stream_closed heads clear =
        let so = heads_closed heads [] [] [] clear in
        let closed = so.0 None in
        grind (arith, append-nil, walk_events, walk_is)

-- ---- rules of closed transfers

-- the length of the transfer breaks no rule, and its data is a good bundle
record BreaksNone (transfer : Transfer) : Type 0 where
  pub lengths : broken_transfer_rules transfer.first (length transfer.content) ≡ []
  pub info : BundleInfo
  pub is : verdict transfer.content ≡ Ok info

module _ (own : List ℕ) where
  due_bundles : (placed : Placed) → BreaksNone placed.transfer
      → same.of_bundles (due_of own placed) ≡ due_of own placed
  due_bundles placed none =
      let begun = begun_of placed in
      let content = placed.transfer.content in
      let origin = origin_of placed.sender begun in
      elim placed.transfer.closed as (λ closed.
      (let due = if closed then closed_texts own placed.sender begun else [] in
      same.of_bundles due ≡ due)) [
        | true ↦ rw (none.lengths, none.is) (all_pass is_of_bundle
            (λ one. rule.Bundle origin.place one) origin.offset
            (bundle_doubt own origin.has_other_item content) (λ one. refl)
            (bundle_rules own (known_source_of own placed.sender none.info.source) content none.info))
        | false ↦ refl
      ]

  -- they break only rules of bundles
  only_bundles : (placed : List Placed) → All BreaksNone (transfers_in placed)
      → same.of_bundles (rules_of own placed) ≡ rules_of own placed
  only_bundles [] none = refl
  only_bundles (latest ∷ earlier) none =
      rw (
        filter-append,
        only_bundles earlier (All-tail BreaksNone latest.transfer (transfers_in earlier) none),
        due_bundles latest (All-head BreaksNone latest.transfer (transfers_in earlier) none),
      ) refl

-- ---- extension items

-- a transfer has no extension item of an unknown type
abbrev HasKnownItems : Transfer → Type 0
HasKnownItems transfer = has_other_item transfer.first.items.items ≡ false

items_known : (announce : Option ℕ) → has_other_item (announced announce) ≡ false
items_known None = refl
items_known (Some total) = refl

reversed_known : (transfers : List Transfer) → All HasKnownItems transfers
    → All HasKnownItems (reverse transfers)
reversed_known [] known = known
reversed_known (latest ∷ earlier) known =
    rw (reverse-append (latest ∷ []) earlier)
    (All-push HasKnownItems (reverse earlier) latest
    (reversed_known earlier (All-tail HasKnownItems latest earlier known))
    (All-head HasKnownItems latest earlier known))

abbrev CarriesKnownItems : TransferWithBundle → Type 0
CarriesKnownItems carried = HasKnownItems (transfer_with carried)

carried_known : (carried : List TransferWithBundle)
    → All HasKnownItems (map transfer_with carried) → All CarriesKnownItems carried
carried_known [] known = All-nil CarriesKnownItems
carried_known (first ∷ more) known =
    let others = map transfer_with more in
    All-cons CarriesKnownItems first more
    (All-head HasKnownItems (transfer_with first) others known)
    (carried_known more (All-tail HasKnownItems (transfer_with first) others known))

-- ---- the transfers of a packed stream

module _ (options : PackOptions) (id : ℕ) (bundle : List ℕ) where
  abbrev whole : BundleToCut
  whole = sending options true bundle

  abbrev first : SegmentHead
  first = head_of id whole 0

  -- if its length is announced, it has more than one segment
  transfer_none : (info : BundleInfo) → verdict bundle ≡ Ok info
      → BreaksNone (record { first = first; content = bundle; closed = true })
  unfolding announcement broken_transfer_rules length_item length_differs length_of_one_segment
  transfer_none info is =
      let second : whole.segment < length bundle → 1 < chunk_count whole.segment (length bundle) =
      λ more. chunk_left whole.segment 1 (length bundle) (some_size options) (omega arith) in
      grind (arith, ends_as, eq-eqb, nat_tests, none_announced, total_announced)

-- ---- a packed stream

module _ (options : PackOptions) (bytes : List ℕ) (is_packed : IsPacked options bytes)
    (status : (packed options bytes).status ≡ 0) (asked : CheckOptions)
    (allows : IsWithinPeerLimits options asked.peer) (keeps : OptionsKeepInitRules options) where
  abbrev stream : List ℕ
  stream = (packed options bytes).texts.output

  abbrev bundles : List BundleWithInfo
  bundles = (divided options.peer_transfer bytes).bundles

  abbrev all_bundles : Divided
  all_bundles = record { bundles = bundles; rest = None }

  whole_input : input options bytes ≡ all_bundles
  whole_input =
      ap (λ rest. record { bundles = bundles; rest = rest }) (nothing_left options bytes status)

  reading_of-packed : reading_of stream ≡ packed_reading options all_bundles
  reading_of-packed = is_packed.reads ∙ ap (packed_reading options) whole_input

  clean : same.IsClean stream
  clean = same.clean stream (gives_back options bytes is_packed status).status

  abbrev broken : List RuleText
  broken = same.broken asked stream clean

  closed : passing is_closed broken ≡ broken
  closed =
      rw (reading_of-packed, append-nil (packed_entries options all_bundles))
      (stream_closed asked options allows _
      (packed_clear options asked.peer allows keeps bundles is_packed.divides.bundles))

  transfers : transfers_in (same.placed asked stream clean).after ≡ onto options 0 bundles []
  transfers =
      same.same_transfers asked stream clean
      ∙ (unpacked_in_order all (heads_of (reading_of stream)) (reading_read stream).heads
      is_packed.carries.in_order).made
      ∙ is_packed.carries.makes
      ∙ ap (packed_transfers options) whole_input

  none_broken : All BreaksNone (transfers_in (same.placed asked stream clean).after)
  none_broken =
      subst (All BreaksNone) (sym transfers)
      (onto_all options BreaksNone
      (λ number bundle is. transfer_none options number bundle.bytes bundle.info is.is) 0 bundles []
      is_packed.divides.bundles (All-nil BreaksNone))

  known_items : All HasKnownItems (transfers_in (same.placed asked stream clean).after)
  known_items =
      subst (All HasKnownItems) (sym transfers)
      (onto_all options HasKnownItems
      (λ number bundle is. items_known (cut_at (sending options true bundle.bytes) 0).announce)
      0 bundles [] is_packed.divides.bundles (All-nil HasKnownItems))

  sender : sender_in stream ≡ options.node.items
  sender = rw reading_of-packed refl

  pub breaks_no_more : InputFits bytes
      → BreaksNoMoreThanItsBundles asked options.node.items bytes stream
  breaks_no_more fits =
      let carries = same.carries asked stream clean in
      let carried : flat_map same.bytes_in carries.transfers ≡ bytes =
      sym (same.carried_bytes asked stream clean)
      ∙ (gives_back options bytes is_packed status).output in
      let rules = (same.placed asked stream clean).rules ∙ closed in
      record {
        transfers = carries.transfers;
        good = carries.good;
        carries = carried;
        items =
            carried_known carries.transfers (rw carries.are (reversed_known _ known_items));
        checked = λ must.
            same.recorded asked stream clean must
            ∙ ap (reports must)
            (sym rules
            ∙ sym (only_bundles asked.own.items _ none_broken)
            ∙ carries.broken
            ∙ ap (λ (node : List ℕ).
            flat_map (broken_in_transfer asked.own.items node) carries.transfers) sender);
        joined = λ must.
            same.joined_rules (record { must = must; own = asked.own }) bytes carries.transfers
            carries.good (sym carried) (let few = fits.few in omega arith);
        same = same.all_same asked.own.items options.node.items carries.transfers;
      }
