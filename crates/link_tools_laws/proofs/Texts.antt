-- The texts of each tool that some bytes determine are prefixes of its texts for longer inputs.
use Rattle.std.proofs.Common.{◌≡◌, ℕ, List, ◌++◌, refl, ap, ◌∙◌, ⊎_elim, [], take, drop, Option, Some, None, sym, subst, Bool, true, false, ◌∷◌, if◌then◌else◌, arith, suc, ◌+◌, length, append-nil, append_assoc}
use Rattle.std.proofs.lemmas.{Grind.flat_map-append, Bool.cases_Bool}
use Rattle.link_tool_option_types.specs.{declared.wanted.Wanted.Wanted, declared.pack.PackOptions.PackOptions}
use Rattle.link_tool_option_types.specs.declared.blocks.BlockOptions.{BlockOptions}
use Rattle.link_tool_option_types.specs.declared.check.{BundleCheckOptions.BundleCheckOptions, CheckOptions.CheckOptions}
use Rattle.link_wire.specs.{Stream.{Entry, Stream, Reading, reading_of}, Codes.is_start}
use Rattle.link_wire.specs.declared.message.Message.{Message}
use Rattle.link_bundle_blocks.specs.Bundle.{judged_bundle, payload_of, bytes_of, payload_in}
use Rattle.link_bundle_blocks.proofs.Payloads.{PayloadLasts-holds, SpanDeterminesPayload-holds}
use Rattle.link_bundle.proofs.Parts.{part_more}
use Rattle.link_transfer.specs.declared.joiner.Turn.{Turn}
use Rattle.link_report.specs.Message.{message_text}
use Rattle.link_run.specs.{Run.Texts, Writers.on_output}
use Rattle.link_run.proofs.Continued.{StreamGoesOn, stream_of, ReadingGoesOn, reading_on}
use Rattle.link_run_over_transfers.specs.Walk.{WalkEvent, ContactHeader, MessageHead, Data, Whole, LeftOpen, open_after_event, has_open}
use Rattle.link_run_over_transfers.specs.Saying.{StatefulTool, said_from}
use Rattle.link_run_over_transfers.proofs.Heads.{has_open-append}
use Rattle.link_run_judge.specs.{TransferJudge.grown, Transfers.{Transfer, continued, after_message}}
use Rattle.link_run_judge.specs.Unpacking.{is_selected, parts_of, Told, transfers_at, told_event, told_after, unpack_telling, unpack_tool}
use Rattle.link_run_judge.proofs.{Events.told_push, Texts.parts_more, Effects.comes_does}
use Rattle.link_run_judge.proofs.Heads.{kind_of, transfers_same, transfer_begins, transfer_continues}
use Rattle.link_tool_list.specs.Listing.{contact_lines, message_lines, listed_lines, listing_of, listing_by, list_tool}
use Rattle.link_run_over_bundle_files.specs.Bundles.{BundleWithInfo}
use Rattle.link_tool_blocks.specs.{BlockLines.block_lines, Lister.end_due, LineLaws.lines_grow}
use Rattle.link_tool_blocks.specs.Bundles.{whole_lines, bundle_lines, bundle_blocks_telling, bundle_blocks_tool}
use Rattle.link_tool_blocks.specs.Showing.{transfer_lines, lines_of, order_line_of, unpacking_by, blocks_telling, blocks_tool}
use Rattle.link_tool_blocks.proofs.BundleTexts.{between_lines}
use Rattle.link_tool_blocks.proofs.Ended.{lines_of-more, ended_lines, continued_lines, head_lines}
use Rattle.link_tool_check.specs.Bundles.{broken_in, broken_bundles, bundle_check_telling, bundle_check_tool}
use Rattle.link_tool_check.specs.Checking.{check_tool}
use Rattle.link_tool_pack.specs.{Packing.pack_tool, PackRun.pack_telling}
use Rattle.link_tool_pack.proofs.Outcomes.{texts_grown, texts_whole, same_tool}
use Rattle.link_tools_laws.specs.Prefix.{IsPrefixOf, HasPrefixTexts}
use Rattle.link_tools_laws.proofs.Prefixes.{prefix_same, prefix_after, prefix_none, prefixes_same, prefix_first, prefix_then, ArePrefixes, prefixes_then, prefixes_after, prefixed}
use Rattle.link_tools_laws.proofs.{Walks.{EventAdds, told_prefix, Follows}, Placed.rules_prefix}
use Rattle.link_tools_laws.proofs.BundleWalks.{Grows, bundles_prefix}

-- ---- `list`

pub message_lines-append : (entries more : List Entry)
    → message_lines (entries ++ more) ≡ message_lines entries ++ message_lines more
unfolding message_lines
message_lines-append entries more =
    flat_map-append (λ (entry : Entry). message_text entry.offset entry.message) entries more

entries_on : (before after : Stream) → StreamGoesOn before after
    → IsPrefixOf (message_lines before.entries) (message_lines after.entries)
entries_on before after on =
    let same = ap (λ (s : Stream). message_lines s.entries) on.are in
    (_, same ∙ message_lines-append before.entries on.rest.entries)

module _ (before after : Reading) (on : ReadingGoesOn before after) where
  lines_on : IsPrefixOf (listed_lines before) (listed_lines after)
  unfolding message_lines
  lines_on =
      ⊎_elim
      (λ same. rw same (prefix_after (contact_lines before.contact) _ _
      (entries_on (stream_of before) (stream_of after) on.messages)))
      (λ none. rw (none.0, none.1) (prefix_none _)) on.contact

pub list_prefix : (bytes more : List ℕ) → HasPrefixTexts list_tool bytes more
unfolding listing_of
list_prefix bytes more =
    let on = reading_on bytes more in
    prefixed listing_of bytes more (record {
      texts = record {
        output = lines_on (reading_of bytes) (reading_of (bytes ++ more)) on;
        report = prefix_same _ _ refl;
      };
      ended = λ none. prefixes_same _ _ refl;
      stays = λ shown. ap listing_by (on.stays shown);
    })

-- ---- the payload of a bundle

module _ (bytes more : List ℕ) where
  -- if the position of the payload is not known yet, it was not known for fewer bytes
  not_known : (known : Option (ℕ × ℕ)) → payload_of (judged_bundle bytes) ≡ known
      → payload_of (judged_bundle (bytes ++ more)) ≡ None → known ≡ None
  not_known None is none = refl
  not_known (Some payload) is none = let known = sym none ∙ PayloadLasts-holds bytes more payload is in absurd (cc)

  payload_by : (known : Option (ℕ × ℕ)) → payload_of (judged_bundle (bytes ++ more)) ≡ known
      → IsPrefixOf (payload_in bytes) (bytes_of known (bytes ++ more))
  unfolding payload_in
  payload_by None is =
      let none = not_known (payload_of (judged_bundle bytes)) refl is in
      rw none (prefix_none [])
  payload_by (Some (place, size)) is =
      let P : List ℕ → Type 0 = λ part. IsPrefixOf part (take size (drop place (bytes ++ more))) in
      subst P (sym (SpanDeterminesPayload-holds bytes more place size is)) (_, part_more bytes more place size _ refl)

  pub payload_prefix : IsPrefixOf (payload_in bytes) (payload_in (bytes ++ more))
  unfolding payload_in
  payload_prefix = payload_by (payload_of (judged_bundle (bytes ++ more))) refl

-- ---- `unpack`

chosen_prefix : (selected payload : Bool) (content piece : List ℕ)
    → IsPrefixOf (if selected then (if payload then payload_in content else content) else [])
    (if selected then (if payload then payload_in (content ++ piece) else content ++ piece) else [])
chosen_prefix false payload content piece = prefix_none _
chosen_prefix true false content piece = prefix_first content piece
chosen_prefix true true content piece = payload_prefix content piece

module _ (wanted : Wanted) where
  -- ---- the output

  -- the output for the first transfers is a prefix of that for the second
  abbrev Extends : (first second : List Transfer) → Type 0
  Extends first second = IsPrefixOf (parts_of wanted first) (parts_of wanted second)

  continued_prefix : (transfers : List Transfer) (piece : List ℕ) (closed : Bool)
      → Extends transfers (continued transfers piece closed)
  continued_prefix [] piece closed = prefix_same _ _ refl
  continued_prefix (latest ∷ earlier) piece closed =
      rw (parts_more wanted latest earlier, parts_more wanted (grown latest piece closed) earlier)
      (prefix_after (parts_of wanted earlier) _ _
      (chosen_prefix (is_selected wanted.only latest.first.id) wanted.payload latest.content piece))

  message_prefix : (transfers : List Transfer) (sent : Message)
      → Extends transfers (after_message transfers sent [])
  message_prefix transfers sent =
      ⊎_elim
      (λ segment. rw segment.1
      (⊎_elim
      (λ starts. rw (transfer_begins transfers segment.0 [] starts, parts_more) (prefix_first _ _))
      (λ continues. rw (transfer_continues transfers segment.0 [] continues)
      (continued_prefix transfers [] _))
      (cases_Bool (is_start segment.0.flags))))
      (λ other. rw (transfers_same transfers sent [] other) (prefix_same _ _ refl))
      (kind_of sent)

  turn_prefix : (transfers : List Transfer) (effect : Option Turn) (sent : Message)
      → Extends transfers (transfers_at effect transfers sent)
  turn_prefix transfers None sent = prefix_same _ _ refl
  turn_prefix transfers (Some turn) sent = message_prefix transfers sent

  -- ---- output and report

  abbrev text_of : Told → Texts
  text_of told = record { output = parts_of wanted told.transfers; report = told.report }

  event_prefix : (told : Told) (event : WalkEvent)
      → ArePrefixes (text_of told) (text_of (told_event wanted told event))
  event_prefix told (ContactHeader contact) = prefixes_same _ _ refl
  event_prefix told (MessageHead head) =
      grind (arith, prefix_first, prefix_then, turn_prefix)
  event_prefix told (Data byte) = grind (arith, continued_prefix, prefix_same)
  event_prefix told Whole = grind (arith, continued_prefix, prefix_first)
  event_prefix told LeftOpen = record { output = prefix_same _ _ refl; report = prefix_first _ _ }

  events_add_texts : EventAdds (unpack_telling wanted)
  events_add_texts before event follows =
      rw (told_push wanted before (event ∷ [])) (event_prefix (told_after wanted before) event)

  pub unpack_prefix : (bytes more : List ℕ) → HasPrefixTexts (unpack_tool wanted) bytes more
  unpack_prefix bytes more = told_prefix (unpack_telling wanted) events_add_texts bytes more

-- ---- transfers

selected_prefix : (selected : Bool) (lines more : List ℕ)
    → IsPrefixOf (if selected then lines ++ [] else [])
    (if selected then (lines ++ more) ++ [] else [])
selected_prefix true lines more = simp append-nil (prefix_first lines more)
selected_prefix false lines more = prefix_same _ _ refl

module _ (options : BlockOptions) where
  -- the lines of an open transfer, and of the same transfer with more data
  grown_prefix : (transfer : Transfer) (piece : List ℕ)
      → IsPrefixOf (transfer_lines options.only true transfer)
      (transfer_lines options.only true (grown transfer piece false))
  grown_prefix transfer piece =
      let grows = lines_grow transfer.first.id transfer.content piece in
      rw grows.is
      (selected_prefix (is_selected options.only transfer.first.id)
      (block_lines transfer.first.id transfer.content) grows.text)

  data_prefix : (transfers : List Transfer) (piece : List ℕ)
      → IsPrefixOf (lines_of options.only true transfers)
      (lines_of options.only true (continued transfers piece false))
  data_prefix [] piece = prefix_same _ _ refl
  data_prefix (latest ∷ earlier) piece =
      rw (
        lines_of-more options.only true latest earlier,
        lines_of-more options.only true (grown latest piece false) earlier,
      )
      (prefix_after (lines_of options.only false earlier) _ _ (grown_prefix latest piece))

  abbrev next : Told → WalkEvent → Told
  next told event = told_event (unpacking_by options) told event

  lines_prefix : (before : List WalkEvent) (event : WalkEvent) (told : Told) → Follows before event
      → IsPrefixOf (lines_of options.only (has_open before) told.transfers)
      (lines_of options.only (open_after_event (has_open before) event) (next told event).transfers)
  lines_prefix before (ContactHeader contact) told follows = prefix_same _ _ refl
  lines_prefix before (MessageHead head) told follows =
      rw (head_lines options.only told.transfers head.turn head.message (has_open before)
      (comes_does before head follows))
      (prefix_then _ _ _ (prefix_first _ _))
  lines_prefix before (Data byte) told opened =
      rw opened (data_prefix told.transfers (byte ∷ []))
  lines_prefix before Whole told opened =
      let closed = continued told.transfers [] true in
      rw opened (
        _,
        ended_lines options.only true closed
            ∙ ap (λ (lines : List ℕ). lines ++ end_due options.only true closed)
            (continued_lines options.only told.transfers true),
      )
  lines_prefix before LeftOpen told opened =
      rw opened (_, ended_lines options.only true told.transfers)

  events_add : EventAdds (blocks_telling options)
  events_add before event follows = record {
    output =
        rw (
          told_push (unpacking_by options) before (event ∷ []),
          has_open-append before (event ∷ []),
        )
        (lines_prefix before event (told_after (unpacking_by options) before) follows);
    report = rw (flat_map-append order_line_of before (event ∷ [])) (prefix_first _ _);
  }

  pub blocks_prefix : (bytes more : List ℕ) → HasPrefixTexts (blocks_tool options) bytes more
  blocks_prefix bytes more = told_prefix (blocks_telling options) events_add bytes more

-- ---- bundles

-- the lines of bundles, when there is one more bundle, whose lines begin with these
pushed_prefix : (number n : ℕ) (bundles : List BundleWithInfo) (bundle : BundleWithInfo) (lines : List ℕ)
    → n ≡ number + length bundles → IsPrefixOf lines (whole_lines n bundle)
    → IsPrefixOf (bundle_lines number bundles ++ lines) (bundle_lines number (bundles ++ bundle ∷ []))
unfolding bundle_lines
pushed_prefix number n [] bundle lines is front =
    let same : n ≡ number = omega (arith, is) in
    rw same at (prefix_then lines (whole_lines n bundle) [] front)
pushed_prefix number n (first ∷ bundles) bundle lines is front =
    rw (append_assoc (whole_lines number first)) (prefix_after (whole_lines number first) _ _
    (pushed_prefix (suc number) n bundles bundle lines (omega (arith, is)) front))

-- the lines of the bytes of a bundle, when more bytes follow
more_prefix : (id : ℕ) (begun run : List ℕ)
    → IsPrefixOf (block_lines id begun) (block_lines id (begun ++ run))
more_prefix id begun run =
    let grows = lines_grow id begun run in
    rw grows.is (prefix_first (block_lines id begun) grows.text)

bundles_grow : Grows bundle_blocks_telling
bundles_grow = record {
  part = λ before run. record {
    output = prefix_after (bundle_lines 0 before.bundles) _ _
        (more_prefix (length before.bundles) before.begun run);
    report = prefix_same _ _ refl;
  };
  whole = λ before run info some.
      let bundle : BundleWithInfo = record { bytes = before.begun ++ run; info = info } in
      record {
        output = rw (between_lines (before.bundles ++ bundle ∷ []))
            (pushed_prefix 0 (length before.bundles) before.bundles bundle _ (omega arith)
            (prefix_then _ _ _ (more_prefix (length before.bundles) before.begun run)));
        report = prefix_same _ _ refl;
      };
  ended = λ bundles. prefixes_same _ _ (ap on_output (between_lines bundles));
}

pub bundle_blocks_prefix : (bytes more : List ℕ) → HasPrefixTexts bundle_blocks_tool bytes more
bundle_blocks_prefix bytes more = bundles_prefix bundle_blocks_telling bundles_grow bytes more

-- ---- transfers

module _ {S : Type 0} (keeping : StatefulTool S) where
  -- what is said of some events begins what is said of them and more
  keeps_prefix : (kept : S) (before more : List WalkEvent)
      → ArePrefixes (said_from keeping kept before) (said_from keeping kept (before ++ more))
  keeps_prefix kept [] more = record { output = prefix_none _; report = prefix_none _ }
  keeps_prefix kept (event ∷ before) more =
      prefixes_after (keeping.says kept event) _ _ (keeps_prefix (keeping.next kept event) before more)

pub check_prefix : (options : CheckOptions) (bytes more : List ℕ)
    → HasPrefixTexts (check_tool options) bytes more
check_prefix options bytes more = search (keeps_prefix, told_prefix)

-- ---- bundles

broken_prefix : (own : List ℕ) (number offset : ℕ) (bundles more : List BundleWithInfo)
    → IsPrefixOf (broken_bundles own number offset bundles)
    (broken_bundles own number offset (bundles ++ more))
unfolding broken_bundles
broken_prefix own number offset [] more = prefix_none _
broken_prefix own number offset (bundle ∷ bundles) more =
    prefix_after (broken_in own number offset bundle) _ _
    (broken_prefix own (suc number) (offset + length bundle.bytes) bundles more)

check_grows : (options : BundleCheckOptions) → Grows (bundle_check_telling options)
check_grows options = grind (arith, broken_prefix, prefix_same, prefixes_same, rules_prefix)

pub bundle_check_prefix : (options : BundleCheckOptions) (bytes more : List ℕ)
    → HasPrefixTexts (bundle_check_tool options) bytes more
bundle_check_prefix options bytes more =
    bundles_prefix (bundle_check_telling options) (check_grows options) bytes more

-- ---- `pack`

packing_grows : (options : PackOptions) → Grows (pack_telling options)
packing_grows options = record {
  part = λ before run. prefixes_then _ _ _ (texts_grown options _ before.bundles before.begun run refl);
  whole = λ before run info some.
      prefixes_then _ _ _
      (texts_whole options _ before.bundles before.begun run
      (record { bytes = before.begun ++ run; info = info }) refl refl some);
  ended = λ bundles. prefixes_then _ _ _ refl;
}

pub pack_prefix : (options : PackOptions) (bytes more : List ℕ)
    → HasPrefixTexts (pack_tool options) bytes more
pack_prefix options bytes more =
    subst (λ tool. HasPrefixTexts tool bytes more) (same_tool options)
    (bundles_prefix (pack_telling options) (packing_grows options) bytes more)
