-- If every transfer of a recording is over and good, `blocks` and `check` say of the bundles that
-- `unpack` joins what they say of the recording.
use Rattle.std.specs.List.{All, flat_map, fold}
use Rattle.std.proofs.Common.{◌≡◌, ℕ, ◌≤◌, true, false, List, [], ◌∷◌, ◌++◌, length, drop, map, reverse, None, Result, Ok, Err, refl, ap, sym, ◌∙◌, ⊎_elim, append-nil, length-append, arith, suc, Option, Bool}
use Rattle.std.proofs.lemmas.{Bool.{cases_Bool, and_parts}, Grind.flat_map-append}
use Rattle.std.proofs.lemmas.{List.{take-append-drop, map-append, reverse-append}, List.Folds.flat_map-map}
use Rattle.std.proofs.lemmas.List.Elements.{All-nil, All-cons, All-head, All-tail, All-push, filter-append, All-map}
use Rattle.link_cbor.specs.PieceLaws.{takes_shortest}
use Rattle.link_tool_option_types.specs.declared.check.{BundleCheckOptions.BundleCheckOptions, CheckOptions.CheckOptions}
use Rattle.link_wire.specs.{Bytes.AreBytes, SpelledStream.IsReadingOf}
use Rattle.link_wire.specs.Stream.{Entry, Reading, reading_of, heads_of}
use Rattle.link_bundle_types.specs.{Faults.lasts, declared.fault.BundleFault.BundleFault}
use Rattle.link_bundle_types.specs.declared.info.BundleInfo.{BundleInfo}
use Rattle.link_bundle_blocks.specs.Bundle.{verdict, state_of, is_going, bundle_goes}
use Rattle.link_bundle_blocks.proofs.Lengths.{FaultLasts-holds, ByteAfterBundleIsTrailing-holds}
use Rattle.link_bundle_rules.specs.Sources.{known_source_of}
use Rattle.link_session_rules.specs.TransferRules.{broken_transfer_rules}
use Rattle.link_report.specs.declared.judgement.Judgement.TheVariants.{Good}
use Rattle.link_report_broken_rules.specs.declared.line.RuleText.{RuleText}
use Rattle.link_run.specs.{Made.{StreamStop, Made, whole_by, stop_of}, Run.Outcome}
use Rattle.link_run.specs.Writers.{on_output}
use Rattle.link_run.proofs.Runs.{texts_as}
use Rattle.link_run_over_transfers.specs.Walk.{WalkEvent, Walked, with_next, none_walked, walked_of, walked, end_events, has_open, stop_by, told_of}
use Rattle.link_run_over_transfers.specs.declared.consumer.Manner.{Manner}
use Rattle.link_run_judge.specs.Transfers.{Transfer}
use Rattle.link_run_judge.specs.Unpacking.{parts_of, judgement_of, is_good, Told, told_after, unpack_tool}
use Rattle.link_run_over_bundle_files.specs.Bundles.{BundleWithInfo, bundle_limit, bundle_prefix, divided}
use Rattle.link_run_over_bundle_files.proofs.{Dividing.{divided_none, divided_whole}, Divisions.stopped_lasts}
use Rattle.link_run_over_bundle_files.proofs.Outcomes.{told_as}
use Rattle.link_tool_blocks.specs.Bundles.{whole_lines, bundle_lines, bundle_blocks_telling}
use Rattle.link_tool_blocks.specs.Showing.{lines_of, order_line_of, blocks_tool}
use Rattle.link_tool_check.specs.{BundleRules.{bundle_doubt, bundle_rules}, Bundles.{broken_bundles, bundle_check_telling, bundle_check_tool}}
use Rattle.link_tool_check.specs.Checking.{item_doubt, origin_of, check_tool}
use Rattle.link_tools_laws.specs.{RoundTrip.all, Transfers.{are_good, transfers_of, unpacked_of}, Ranges.InputFits}
use Rattle.link_tools_laws.specs.SameRules.{TransferWithBundle, transfer_with, sender_in, broken_in_transfer, is_of_bundle, reports, BreaksSameRules, HasSameBundleRules}
use Rattle.link_tools_laws.specs.SameLines.{shown, unpacked, lines_under, renumbered, HasSameBlockLinesUnpacked}
use Rattle.link_tools_laws.proofs.Placed.{Placed, IsFrom, AllComeFrom, passing, all_pass, none_pass, transfers_in, begun_of, due_of, rules_of, is_closed, told_transfers, AfterAll, from_start, options, broken_from, lines_said, good_kept}
use Rattle.link_tools_laws.proofs.Cuts.{reading_size, order_size, every_byte}
use Rattle.link_tools_laws.proofs.Walks.{closed_at_end, follow_both, reading_told, end_follows, content_none, going, taken_by, walk_is}
use Rattle.link_tools_laws.proofs.Same.{AreInOrder, clean_end, clean_told, every_told, none_refused, unpacked_in_order}
use Rattle.link_tools_laws.proofs.{OneBundle.breaks_same, Senders.all_from}
use Rattle.link_tools_laws.proofs.Whole.{AreWhole, reading_read}
use Rattle.link_report_broken_rules.specs.declared.rule.BrokenRule.TheVariants as rule

-- ---- a good bundle is its own shortest prefix

-- no byte comes after a prefix that needs no more bytes
no_more : (front rest : List ℕ) (info : BundleInfo) (said : Result BundleInfo (BundleFault × ℕ))
    → verdict front ≡ said → is_going (state_of said) ≡ false → verdict (front ++ rest) ≡ Ok info
    → rest ≡ []
no_more front [] info said is stops good = refl
no_more front (byte ∷ more) info (Ok other) is stops good =
    absurd (let fault = ByteAfterBundleIsTrailing-holds front more byte other is in cc)
no_more front (byte ∷ more) info (Err (fault, place)) is stops good =
    let stays = stopped_lasts (lasts fault) fault place stops in
    absurd (let lasting = FaultLasts-holds front (byte ∷ more) fault place stays is in cc)

good_prefix : (bytes : List ℕ) (info : BundleInfo) → verdict bytes ≡ Ok info
    → bundle_prefix bytes ≡ bytes
good_prefix bytes info good =
    let front = bundle_prefix bytes in
    let rest = drop (length front) bytes in
    let shortest = (takes_shortest bundle_goes [] bytes front).1 refl in
    let parts : bytes ≡ front ++ rest = sym (take-append-drop (length front) bytes)
    ∙ ap (λ (xs : List ℕ). xs ++ rest) (sym shortest.is_front) in
    ⊎_elim
    (λ stops.
    let none = no_more front rest info (verdict front) refl stops (ap verdict (sym parts) ∙ good) in
    sym (append-nil front) ∙ ap (λ (xs : List ℕ). front ++ xs) (sym none) ∙ sym parts)
    (λ same. same)
    shortest.stops

-- ---- good bundles, one after another

abbrev pub IsGood : TransferWithBundle → Type 0
IsGood carried = verdict carried.bundle.bytes ≡ Ok carried.bundle.info

abbrev pub bundle_in : TransferWithBundle → BundleWithInfo
bundle_in carried = carried.bundle

abbrev pub bytes_in : TransferWithBundle → List ℕ
bytes_in carried = carried.bundle.bytes

divided_all : (limit : ℕ) (transfers : List TransferWithBundle) → All IsGood transfers
    → length (flat_map bytes_in transfers) ≤ limit
    → divided limit (flat_map bytes_in transfers)
    ≡ record { bundles = map bundle_in transfers; rest = None }
divided_all limit [] good few = divided_none limit
divided_all limit (first ∷ more) good few =
    let bundle = first.bundle in
    let is = All-head IsGood first more good in
    let rest = flat_map bytes_in more in
    let size = length-append bundle.bytes rest in
    divided_whole limit bundle.bytes rest bundle.info (good_prefix bundle.bytes bundle.info is) is
    (omega arith)
    ∙ cc (divided_all limit more (All-tail IsGood first more good) (omega arith))

-- the bundles of these transfers, one after another, are divided into these bundles
pub divided_as : (bytes : List ℕ) (transfers : List TransferWithBundle) → All IsGood transfers
    → bytes ≡ flat_map bytes_in transfers → length bytes ≤ bundle_limit
    → divided bundle_limit bytes ≡ record { bundles = map bundle_in transfers; rest = None }
divided_as bytes transfers good is few =
    ap (divided bundle_limit) is ∙ divided_all bundle_limit transfers good (rw (← is) few)

-- ---- good transfers

-- a good transfer is closed, and its data is a good bundle
record IsGoodTransfer (transfer : Transfer) : Type 0 where
  pub info : BundleInfo
  pub is : verdict transfer.content ≡ Ok info
  pub judged : judgement_of transfer ≡ Good info
  pub closed : transfer.closed ≡ true

good_transfer : (transfer : Transfer) → is_good (judgement_of transfer) ≡ true
    → IsGoodTransfer transfer
good_transfer transfer good = grind (arith, cases_Bool)

module _ (placed : Placed) (good : IsGoodTransfer placed.transfer) where
  abbrev carried : TransferWithBundle
  carried = record {
    offset = placed.offset;
    first = placed.transfer.first;
    bundle = record { bytes = placed.transfer.content; info = good.info };
  }

  -- the rules of bundles among those that it breaks
  bundle_due : (own : List ℕ) → passing is_of_bundle (due_of own placed)
      ≡ broken_in_transfer own placed.sender carried
  bundle_due own =
      let begun = begun_of placed in
      let content = placed.transfer.content in
      let origin = origin_of placed.sender begun in
      let source = known_source_of own placed.sender good.info.source in
      rw (
        good.closed,
        good.is,
        filter-append,
        none_pass is_of_bundle (λ one. rule.Transfer begun.first.id one) begun.offset
            (item_doubt begun) (λ one. refl) (broken_transfer_rules begun.first (length content)),
        all_pass is_of_bundle (λ one. rule.Bundle origin.place one) origin.offset
            (bundle_doubt own origin.has_other_item content) (λ one. refl)
            (bundle_rules own source content good.info),
      ) refl

  bundle_broken : (own sender : List ℕ) → IsFrom sender placed
      → passing is_of_bundle (due_of own placed) ≡ broken_in_transfer own sender carried
  bundle_broken own sender is = bundle_due own ∙ ap (λ node. broken_in_transfer own node carried) is

  same_transfer : transfer_with carried ≡ placed.transfer
  same_transfer = rw good.closed refl

abbrev pub lines_in : TransferWithBundle → List ℕ
lines_in carried = whole_lines carried.first.id carried.bundle

-- these transfers of the node `sender` carry these bundles; the latest transfer comes first in its
-- list
pub record CarryAll (own sender : List ℕ) (placed : List Placed) : Type 0 where
  pub transfers : List TransferWithBundle
  pub are : map transfer_with transfers ≡ reverse (transfers_in placed)
  pub good : All IsGood transfers
  pub parts : parts_of all (transfers_in placed) ≡ flat_map bytes_in transfers
  pub lines : lines_of None false (transfers_in placed) ≡ flat_map lines_in transfers
  pub broken : passing is_of_bundle (rules_of own placed)
      ≡ flat_map (broken_in_transfer own sender) transfers

pub carry_all : (own sender : List ℕ) (placed : List Placed) → All (IsFrom sender) placed
    → are_good (transfers_in placed) ≡ true → CarryAll own sender placed
unfolding are_good lines_of parts_of
carry_all own sender [] from good = record {
  transfers = [];
  are = refl;
  good = All-nil IsGood;
  parts = refl;
  lines = refl;
  broken = refl;
}
carry_all own sender (latest ∷ earlier) from good =
    let both = and_parts _ (are_good (transfers_in earlier)) good in
    let first = good_transfer latest.transfer both.0 in
    let before = carry_all own sender earlier (All-tail (IsFrom sender) latest earlier from) both.1 in
    let is_from = All-head (IsFrom sender) latest earlier from in
    let one = carried latest first in
    record {
      transfers = before.transfers ++ one ∷ [];
      are = rw (
        map-append,
        before.are,
        same_transfer latest first,
        ← reverse-append (latest.transfer ∷ []) (transfers_in earlier),
      ) refl;
      good = All-push IsGood before.transfers one before.good first.is;
      parts = rw (before.parts, flat_map-append, append-nil) refl;
      lines =
          cc (
            before.lines,
            first.judged,
            append-nil (lines_in one),
            flat_map-append lines_in before.transfers (one ∷ []),
          );
      broken = rw (
        filter-append,
        before.broken,
        bundle_broken latest first own sender is_from,
        flat_map-append (broken_in_transfer own sender),
        append-nil,
      ) refl;
    }

-- ---- heads that are in order have no line

abbrev pub stopping : Manner
stopping = record { goes_on = false; all_heads = false }

abbrev NoLines : List WalkEvent → Type 0
NoLines events = flat_map order_line_of events ≡ []

next_none : (was : Walked) (head : Entry) → NoLines was.events
    → NoLines (with_next stopping was head).events
next_none was head none = grind (arith, content_none, flat_map-append)

heads_none : (heads : List Entry) (was : Walked) → NoLines was.events
    → NoLines (fold (with_next stopping) was heads).events
heads_none [] was none = none
heads_none (head ∷ more) was none =
    heads_none more (with_next stopping was head) (next_none was head none)

-- ---- bundles under their numbers

abbrev numbered : TransferWithBundle → ℕ × BundleWithInfo
numbered carried = (carried.first.id, carried.bundle)

lines_renumbered : (from : ℕ) (transfers : List TransferWithBundle)
    → bundle_lines from (map bundle_in transfers)
    ≡ lines_under (renumbered from (map numbered transfers))
unfolding bundle_lines renumbered
lines_renumbered from [] = refl
lines_renumbered from (carried ∷ more) =
    ap (λ (lines : List ℕ). whole_lines from carried.bundle ++ lines)
    (lines_renumbered (suc from) more)

abbrev only_output : List ℕ → Outcome
only_output lines = record { texts = on_output lines; status = 0 }

-- a transfer whose offset and sender do not matter
abbrev unplaced : Transfer → Placed
unplaced transfer = record { offset = 0; transfer = transfer; sender = [] }

all_placed : (transfers : List Transfer) → transfers_in (map unplaced transfers) ≡ transfers
all_placed [] = refl
all_placed (latest ∷ earlier) = ap (λ (ts : List Transfer). latest ∷ ts) (all_placed earlier)

all_unknown : (transfers : List Transfer) → All (IsFrom []) (map unplaced transfers)
all_unknown [] = All-nil (IsFrom [])
all_unknown (latest ∷ earlier) =
    All-cons (IsFrom []) (unplaced latest) (map unplaced earlier) refl (all_unknown earlier)

-- ---- an input without a fault

pub status_clean : (stop : Option StreamStop) (made : Made) → (whole_by stop made).status ≡ 0
    → (stop ≡ None) × (made.good ≡ true)
status_clean stop made is = grind arith

module _ (bytes : List ℕ) where
  abbrev pub reading : Reading
  reading = reading_of bytes

  abbrev pub was : Walked
  was = walked stopping reading

  abbrev pub events : List WalkEvent
  events = was.events ++ end_events was.taken

  abbrev pub told : Told
  told = told_after all events

  abbrev pub transfers : List Transfer
  transfers = (unpacked_of all (heads_of reading)).transfers

  -- there is no fault, and every transfer is over and good
  pub record IsClean : Type 0 where
    pub stop : stop_by was.refused reading.end ≡ None
    pub unrefused : was.refused ≡ None
    pub end : stop_of reading.end ≡ None
    pub told_good : told.good ≡ true
    pub are : told.transfers ≡ transfers
    pub good : are_good transfers ≡ true

  pub clean : ((unpack_tool all).whole bytes).status ≡ 0 → IsClean
  unfolding told_of
  clean is = grind (arith, and_parts, clean_told, reading_read, status_clean)

  module _ (is : IsClean) where
    pub unpacks : unpacked bytes ≡ parts_of all transfers
    unfolding told_of
    unpacks =
        cc (is.stop, is.are)

    pub heads_order : AreInOrder (heads_of reading)
    heads_order = none_refused all reading (reading_read bytes) is.unrefused

    pub in_order : transfers ≡ transfers_of (heads_of reading)
    in_order = (unpacked_in_order all (heads_of reading) (reading_read bytes).heads heads_order).made

    pub whole_heads : AreWhole (heads_of reading)
    whole_heads = rw (clean_end reading.end is.end, append-nil) (reading_read bytes).whole

    no_report : flat_map order_line_of events ≡ []
    unfolding walked_of
    no_report =
        let none = heads_none (heads_of reading) (none_walked reading.contact) (grind arith) in
        grind (arith, flat_map-append)

    said : lines_of None (has_open events) told.transfers ≡ lines_of None false transfers
    said =
        cc (closed_at_end stopping reading.contact (heads_of reading) whole_heads, is.are)

    shows : (blocks_tool shown).whole bytes
        ≡ record { texts = on_output (lines_of None false transfers); status = 0 }
    unfolding told_of
    shows =
        cc (is.stop, is.told_good, texts_as said no_report)

    pub fits : IsReadingOf bytes reading → InputFits bytes → length (unpacked bytes) ≤ bundle_limit
    fits spelled input = grind (arith, append-nil, clean_end, every_byte, order_size, reading_size)

  pub same_lines : ((bytes : List ℕ) → AreBytes bytes → IsReadingOf bytes (reading_of bytes))
      → InputFits bytes → ((unpack_tool all).whole bytes).status ≡ 0 → HasSameBlockLinesUnpacked bytes
  same_lines spelled input is =
      let so = clean is in
      let same = all_placed transfers in
      let carried = carry_all [] [] (map unplaced transfers) (all_unknown transfers)
      (ap are_good same ∙ so.good) in
      let joins = unpacks so ∙ ap (parts_of all) (sym same) ∙ carried.parts in
      record {
        bundles = map numbered carried.transfers;
        good =
            All-map (λ (n : ℕ × BundleWithInfo). verdict n.1.bytes ≡ Ok n.1.info) numbered carried.transfers
            carried.good;
        unpacks =
            joins ∙ sym (flat_map-map (λ (n : ℕ × BundleWithInfo). n.1.bytes) numbered carried.transfers);
        recorded =
            cc (
              shows so,
              carried.lines,
              same,
              flat_map-map (λ (n : ℕ × BundleWithInfo). whole_lines n.0 n.1) numbered carried.transfers,
            );
        joined =
            ap (λ (made : Made). whole_by made.stop made)
            (told_as bundle_blocks_telling (unpacked bytes) _
            (divided_as (unpacked bytes) carried.transfers carried.good joins
            (fits so (spelled bytes input.are) input)))
            ∙ ap only_output (lines_renumbered 0 carried.transfers);
      }

-- ---- the rules of bundles

-- `check --bundles` of the bundles of these transfers, one after another
pub joined_rules : (options : BundleCheckOptions) (bytes : List ℕ)
    (transfers : List TransferWithBundle) → All IsGood transfers
    → bytes ≡ flat_map bytes_in transfers → length bytes ≤ bundle_limit
    → (bundle_check_tool options).whole bytes
    ≡ reports options.must (broken_bundles options.own.items 0 0 (map bundle_in transfers))
joined_rules options bytes transfers good is few =
    ap (λ (made : Made). whole_by made.stop made)
    (told_as (bundle_check_telling options) bytes _ (divided_as bytes transfers good is few))

pub all_same : (own sender : List ℕ) (transfers : List TransferWithBundle)
    → All (BreaksSameRules own sender) transfers
all_same own sender [] = All-nil (BreaksSameRules own sender)
all_same own sender (first ∷ more) =
    All-cons (BreaksSameRules own sender) first more (breaks_same own sender first)
    (all_same own sender more)

-- ---- the rules of bundles among others

abbrev pub of_bundles : List RuleText → List RuleText
of_bundles lines = passing is_of_bundle lines

bundles_closed : (lines : List RuleText) → of_bundles (passing is_closed lines) ≡ of_bundles lines
bundles_closed [] = refl
bundles_closed (line ∷ more) = grind (arith, bundles_closed more)

module _ (asked : CheckOptions) where
  -- ---- a recording

  module _ (bytes : List ℕ) (clean : IsClean bytes) where
    abbrev pub every : Walked
    every = walked (going true) (reading bytes)

    abbrev pub all_events : List WalkEvent
    all_events = every.events ++ end_events every.taken

    abbrev pub broken : List RuleText
    broken = broken_from asked [] None all_events

    pub unrefused : every.refused ≡ None
    unrefused =
        ap (λ (w : Walked). w.refused)
        (walk_is true (reading bytes).contact (heads_of (reading bytes)))

    pub recorded : (must : Bool) → (check_tool (options asked must)).whole bytes ≡ reports must broken
    unfolding told_of
    recorded must = grind (arith, good_kept, lines_said, unrefused)

    -- the transfers of the recording, and the rules that they break
    pub placed : AfterAll asked [] [] None all_events
    placed =
        let told = reading_told (going true) (reading bytes) (reading_read bytes) in
        from_start asked all_events
        (follow_both [] every.events (end_events every.taken) told.follow (end_follows every told))

    pub same_transfers : transfers_in placed.after ≡ transfers bytes
    same_transfers =
        placed.are
        ∙ sym (told_transfers all all_events)
        ∙ ap (λ (told : Told). told.transfers)
        (every_told all (reading bytes) (reading_read bytes) true clean.end)

    -- all of them are of the node of the first SESS_INIT
    placed_from : All (IsFrom (sender_in bytes)) placed.after
    placed_from =
        let heads = heads_of (reading bytes) in
        let contact = (reading bytes).contact in
        let from : AllComeFrom (sender_in bytes) [] all_events =
        rw (walk_is true contact heads)
        (all_from contact heads (taken_by true [] heads) (heads_order bytes clean)) in
        placed.from (sender_in bytes) from (All-nil (IsFrom (sender_in bytes)))

    pub carries : CarryAll asked.own.items (sender_in bytes) placed.after
    carries =
        carry_all asked.own.items (sender_in bytes) placed.after placed_from
        (ap are_good same_transfers ∙ clean.good)

    pub carried_bytes : unpacked bytes ≡ flat_map bytes_in carries.transfers
    carried_bytes =
        unpacks bytes clean ∙ ap (parts_of all) (sym same_transfers) ∙ carries.parts

  pub same_rules : (bytes : List ℕ)
      → ((bytes : List ℕ) → AreBytes bytes → IsReadingOf bytes (reading_of bytes))
      → InputFits bytes → ((unpack_tool all).whole bytes).status ≡ 0 → HasSameBundleRules asked bytes
  same_rules bytes spelled input is =
      let so = clean bytes is in
      let carried = carries bytes so in
      let joins = carried_bytes bytes so in
      record {
        transfers = carried.transfers;
        are =
            carried.are
            ∙ ap (λ (ts : List Transfer). reverse ts) (same_transfers bytes so ∙ in_order bytes so);
        good = carried.good;
        unpacks = joins;
        broken = broken bytes so;
        recorded = recorded bytes so;
        of_bundles =
            sym (bundles_closed (broken bytes so))
            ∙ ap of_bundles (sym (placed bytes so).rules)
            ∙ carried.broken;
        joined = λ must.
            joined_rules (record { must = must; own = asked.own }) (unpacked bytes)
            carried.transfers carried.good joins
            (fits bytes so (spelled bytes input.are) input);
        same = all_same asked.own.items (sender_in bytes) carried.transfers;
      }
