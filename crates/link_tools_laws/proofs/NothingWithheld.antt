-- Nothing that bytes determine is missing in the texts that `list` and `unpack` determine by them.
use Rattle.std.specs.List.{fold}
use Rattle.std.proofs.Common.{◌≡◌, ℕ, ◌⊎◌, inl, inr, ⊎_elim, Bool, true, false, List, [], ◌∷◌, ◌++◌, length, is_some, Option, Some, None, if◌then◌else◌, refl, ap, sym, ◌∙◌, append-nil, append_assoc, arith, true≢false}
use Rattle.std.proofs.lemmas.Bool.{cases_Bool}
use Rattle.std.proofs.lemmas.List.Elements.{All-nil}
use Rattle.link_tool_option_types.specs.declared.wanted.Wanted.{Wanted}
use Rattle.link_wire.specs.Bytes.{IsByte, AreBytes}
use Rattle.link_wire.specs.Stream.{End, Clean, Cut, Fault, Reading, reading_of}
use Rattle.link_wire.specs.declared.fault.WireFault.{WireFault}
use Rattle.link_wire.specs.declared.fault.WireFault.TheVariants.{Truncated}
use Rattle.link_transfer.specs.declared.fault.OrderFault.{OrderFault}
use Rattle.link_transfer.specs.Order.{open_of}
use Rattle.link_report.specs.Fault.{fault_text}
use Rattle.link_report.specs.declared.fault.Fault.{Fault as ReportedFault}
use Rattle.link_report.specs.declared.fault.Fault.TheVariants.{Wire, Order}
use Rattle.link_run.specs.Made.{StreamStop, Made, whole_by, so_far_by, shows_fault, tool_of, is_lasting, stop_of}
use Rattle.link_run.specs.Run.{Texts}
use Rattle.link_run.proofs.Ends.{unshown_sofar, shown_sofar}
use Rattle.link_tool_list.specs.Listing.{listing_of, listing_by, list_tool}
use Rattle.link_run_over_transfers.specs.Walk.{Head, abandons, closes, WalkEvent, ContactHeader, MessageHead, Data, Whole, LeftOpen, Walked, walked, end_events, stop_by, Telling, told_by, told_of}
use Rattle.link_run_judge.specs.Transfers.{Transfer}
use Rattle.link_run_judge.specs.Unpacking.{parts_of, entry_of, line_due, order_line, Told, with_line, with_order, with_transfers, told_head, told_more, told_event, told_after, unpack_telling, unpack_tool}
use Rattle.link_run_judge.proofs.Events.{told_push}
use Rattle.link_tools_laws.specs.{Prefix.IsPrefixOf, Withheld.{AreLines, output_of, report_of, IsPrefixWhateverFollows, HasLongestSoFar}}
use Rattle.link_tools_laws.proofs.Endings.{ReadingHalts}
use Rattle.link_tools_laws.proofs.FaultLines.{cut_line, part_wire, part_order, part_transfer, transfer_part}
use Rattle.link_tools_laws.proofs.{Prefixes.whole_output, Walks.events_grow}
use Rattle.link_tools_laws.proofs.SharedLines.{Part, part_none, shared_before}

-- ---- any tool

so_far_output : (stop : Option StreamStop) (texts : Texts)
    → (so_far_by stop texts).output ≡ texts.output
so_far_output stop texts = grind arith

-- What the report has beside the texts, for the input `before` and for a longer one, `after`. The
-- two share no whole line.
pub record GoesApart (before after : Made) : Type 0 where
  pub now : List ℕ
  pub later : List ℕ
  pub ends : (whole_by before.stop before).texts.report ≡ before.texts.report ++ now
  pub goes_on : (whole_by after.stop after).texts.report ≡ before.texts.report ++ later
  pub part : Part now later

module _ (made : List ℕ → Made) (bytes more : List ℕ) (are : AreBytes more)
    (same : (made bytes).ended.output ≡ (made bytes).texts.output)
    (apart : shows_fault (made bytes).stop ≡ false
    → GoesApart (made bytes) (made (bytes ++ more))) where
  abbrev here : Made
  here = made bytes

  all_output : (common : List ℕ) → IsPrefixWhateverFollows output_of (tool_of made) bytes common
      → IsPrefixOf common (so_far_by here.stop here.texts).output
  all_output common shared =
      let is : (whole_by (made (bytes ++ [])).stop (made (bytes ++ []))).texts.output
      ≡ (so_far_by here.stop here.texts).output =
      ap (λ (all : List ℕ). (whole_by (made all).stop (made all)).texts.output) (append-nil bytes)
      ∙ whole_output here.stop here same ∙ sym (so_far_output here.stop here.texts) in
      rw is at (shared [] (All-nil IsByte))

  all_report : (common : List ℕ) → AreLines common
      → IsPrefixWhateverFollows report_of (tool_of made) bytes common
      → IsPrefixOf common (so_far_by here.stop here.texts).report
  all_report common lines shared =
      let whole : IsPrefixOf common (whole_by here.stop here).texts.report =
      rw (append-nil bytes) at (shared [] (All-nil IsByte)) in
      ⊎_elim
      (λ shown.
      rw (ap (λ (texts : Texts). texts.report) (shown_sofar here.stop here shown)) whole)
      (λ unshown.
      let far = apart unshown in
      rw (unshown_sofar here.stop here.texts unshown)
      (shared_before here.texts.report far.now far.later common far.part lines
      (rw far.ends at whole) (rw far.goes_on at (shared more are))))
      (cases_Bool (shows_fault here.stop))

  pub withholds_nothing : HasLongestSoFar (tool_of made) bytes
  withholds_nothing = record { output = all_output; report = all_report }

-- ---- where a stream stops

-- if no fault is shown, a stream ends between two messages, or is truncated
unshown_end : (end : End) → shows_fault (stop_of end) ≡ false
    → (end ≡ Clean) ⊎ ((offset : ℕ)
    × (stop_of end ≡ Some (record { fault = Wire offset Truncated; lasts = false })))
unshown_end Clean unshown = inl refl
unshown_end (Cut offset message content) unshown = inr (offset, refl)
unshown_end (Fault offset Truncated) unshown = inr (offset, refl)
unshown_end (Fault offset fault) unshown = absurd (true≢false unshown)

-- ---- `list`

module _ (before after : Reading) (place : ℕ) (fault : WireFault)
    (lasting : is_lasting fault ≡ true) (ends : after.end ≡ Fault place fault) where
  abbrev fault_line : List ℕ
  fault_line = fault_text (Wire place fault)

  later_report : (whole_by (stop_of after.end) (listing_by after)).texts.report ≡ fault_line
  later_report = rw ends refl

  listing_apart : shows_fault (stop_of before.end) ≡ false
      → GoesApart (listing_by before) (listing_by after)
  listing_apart unshown =
      ⊎_elim
      (λ clean. record {
        now = [];
        later = fault_line;
        ends = rw clean refl;
        goes_on = later_report;
        part = part_none fault_line;
      })
      (λ cut. record {
        now = cut_line cut.0;
        later = fault_line;
        ends = rw cut.1 refl;
        goes_on = later_report;
        part = rw append-nil at (part_wire cut.0 place fault [] lasting);
      })
      (unshown_end before.end unshown)

pub list_withholds_nothing : (bytes : List ℕ) → ReadingHalts bytes (reading_of bytes)
    → HasLongestSoFar list_tool bytes
unfolding listing_of
list_withholds_nothing bytes halts =
    withholds_nothing listing_of bytes halts.more halts.are refl
    (listing_apart (reading_of bytes) (reading_of (bytes ++ halts.more)) halts.place halts.fault
    halts.lasting halts.ends)

-- ---- `unpack`

-- whatever comes first in this text, it is no line of a truncated stream
abbrev Other : List ℕ → Type 0
Other text = (offset : ℕ) → Part (cut_line offset) text

-- nothing, or a text whose first line is no line of a truncated stream, whatever follows it
abbrev NoneOrOther : List ℕ → Type 0
NoneOrOther text = (text ≡ []) ⊎ ((more : List ℕ) → Other (text ++ more))

none_or_both : (one two : List ℕ) → NoneOrOther one → NoneOrOther two → NoneOrOther (one ++ two)
none_or_both one two (inl none) second = rw none second
none_or_both one two (inr other) second =
    inr (λ more. rw (append_assoc one two more) (other (two ++ more)))

then_other : (one two : List ℕ) → NoneOrOther one → Other two → Other (one ++ two)
then_other one two (inl none) second = rw none second
then_other one two (inr other) second = other two

module _ (wanted : Wanted) where
  due_other : (due : Bool) (transfers : List Transfer) → NoneOrOther (line_due wanted due transfers)
  due_other false transfers = inl refl
  due_other true [] = inl refl
  due_other true (latest ∷ earlier) = inr (λ more offset. part_transfer offset _ more)

  order_other : (offset : ℕ) (fault : Option OrderFault) → NoneOrOther (order_line offset fault)
  order_other offset None = inl refl
  order_other offset (Some fault) = inr (λ more place. part_order place offset fault more)

  -- what is said later begins with no line of a truncated stream
  record SaysMore (before after : Told) : Type 0 where
    text : List ℕ
    is : after.report ≡ before.report ++ text
    other : NoneOrOther text

  says_none : (before after : Told) → after.report ≡ before.report → SaysMore before after
  says_none before after same =
      record { text = []; is = same ∙ sym (append-nil before.report); other = inl refl }

  says_then : (one two three : Told) → SaysMore one two → SaysMore two three → SaysMore one three
  says_then one two three first second = record {
    text = first.text ++ second.text;
    is =
        second.is ∙ ap (λ (text : List ℕ). text ++ second.text) first.is
        ∙ append_assoc one.report first.text second.text;
    other = none_or_both first.text second.text first.other second.other;
  }

  line_says : (due : Bool) (told : Told) → SaysMore told (with_line wanted due told)
  line_says due told = record {
    text = line_due wanted due told.transfers;
    is = refl;
    other = due_other due told.transfers;
  }

  head_says : (told : Told) (head : Head) → SaysMore told (told_head wanted told head)
  head_says told head =
      let ordered = with_order head told in
      let lined = with_line wanted (abandons head.turn) ordered in
      let moved = with_transfers head lined in
      let first : SaysMore told ordered =
      record {
        text = order_line head.offset head.fault;
        is = refl;
        other = order_other head.offset head.fault;
      } in
      says_then told ordered (with_line wanted (closes head) moved) first
      (says_then ordered lined (with_line wanted (closes head) moved)
      (line_says (abandons head.turn) ordered)
      (says_then lined moved (with_line wanted (closes head) moved) (says_none lined moved refl)
      (line_says (closes head) moved)))

  event_says : (told : Told) (event : WalkEvent) → SaysMore told (told_event wanted told event)
  event_says told (ContactHeader contact) = says_none told told refl
  event_says told (MessageHead head) = head_says told head
  event_says told (Data byte) = says_none told _ refl
  event_says told Whole =
      let more = told_more told [] true in
      says_then told more (with_line wanted true more) (says_none told more refl)
      (line_says true more)
  event_says told LeftOpen = line_says true told

  events_say : (told : Told) (events : List WalkEvent)
      → SaysMore told (fold (told_event wanted) told events)
  events_say told [] = says_none told told refl
  events_say told (event ∷ more) =
      says_then told (told_event wanted told event) _ (event_says told event)
      (events_say (told_event wanted told event) more)

  -- ---- the end of the stream

  -- the line of a transfer that is open at the end
  record OpenLine (told : Told) (opened : Bool) : Type 0 where
    text : List ℕ
    is : (fold (told_event wanted) told (if opened then LeftOpen ∷ [] else [])).report
        ≡ told.report ++ text
    part : (fault : ReportedFault) → Part text (fault_text fault)

  due_part : (transfers : List Transfer) (fault : ReportedFault)
      → Part (line_due wanted true transfers) (fault_text fault)
  due_part [] fault = part_none (fault_text fault)
  due_part (latest ∷ earlier) fault =
      rw (append-nil (fault_text fault)) at
      (transfer_part (entry_of wanted latest (length (parts_of wanted earlier))) fault [])

  open_line : (told : Told) (opened : Bool) → OpenLine told opened
  open_line told true = record {
    text = line_due wanted true told.transfers;
    is = refl;
    part = due_part told.transfers;
  }
  open_line told false = record {
    text = [];
    is = sym (append-nil told.report);
    part = λ fault. part_none (fault_text fault);
  }

  -- the line of the fault at which a stream stops, if it does not go on
  record LastLine (stop : Option StreamStop) (made : Made) : Type 0 where
    line : List ℕ
    is : (whole_by stop made).texts.report ≡ made.texts.report ++ line
    other : Other line

  last_line : (refused : Option (ℕ × OrderFault)) (end : End) (place : ℕ) (fault : WireFault)
      (made : Made) → is_lasting fault ≡ true → end ≡ Fault place fault
      → LastLine (stop_by refused end) made
  last_line None end place fault made lasting ends = record {
    line = fault_text (Wire place fault);
    is = rw ends refl;
    other = λ offset. rw append-nil at (part_wire offset place fault [] lasting);
  }
  last_line (Some (at, why)) end place fault made lasting ends = record {
    line = fault_text (Order at why);
    is = refl;
    other = λ offset. rw append-nil at (part_order offset at why []);
  }

  -- a stream that no head has ended
  none_refused : (refused : Option (ℕ × OrderFault)) (end : End)
      → shows_fault (stop_by refused end) ≡ false → refused ≡ None
  none_refused None end unshown = refl
  none_refused (Some (at, why)) end unshown = absurd (true≢false unshown)

  module _ (bytes : List ℕ) (halts : ReadingHalts bytes (reading_of bytes)) where
    abbrev telling : Telling
    telling = unpack_telling wanted

    abbrev before : Reading
    before = reading_of bytes

    abbrev after : Reading
    after = reading_of (bytes ++ halts.more)

    abbrev was : Walked
    was = walked telling.manner before

    abbrev now : Walked
    now = walked telling.manner after

    abbrev Apart : Type 0
    Apart = GoesApart (told_by telling before.end was) (told_by telling after.end now)

    clean_apart : was.refused ≡ None → before.end ≡ Clean → Apart
    clean_apart unrefused clean =
        let kept = halts.same clean in
        let same : now ≡ was = rw (kept.0, kept.1, halts.ends, clean) refl in
        let told = told_after wanted was.events in
        let last = open_line told (is_some (open_of was.taken)) in
        let line = fault_text (Wire halts.place halts.fault) in
        let made = told_by telling before.end was in
        let longer = told_by telling after.end now in
        let stop : StreamStop = record { fault = Wire halts.place halts.fault; lasts = is_lasting halts.fault } in
        let stops : stop_by was.refused before.end ≡ None =
        ap (λ refused. stop_by refused before.end) unrefused ∙ ap stop_of clean in
        let later : stop_by now.refused after.end ≡ Some stop =
        ap (λ refused. stop_by refused after.end) (ap (λ (w : Walked). w.refused) same ∙ unrefused)
        ∙ ap stop_of halts.ends in
        record {
          now = last.text;
          later = line;
          ends =
              ap (λ (at : Option StreamStop). (whole_by at made).texts.report) stops
              ∙ ap (λ (t : Told). t.report) (told_push wanted was.events (end_events was.taken))
              ∙ last.is;
          goes_on =
              ap (λ (at : Option StreamStop). (whole_by at longer).texts.report) later
              ∙ ap (λ (w : Walked). (told_after wanted w.events).report ++ line) same;
          part = last.part (Wire halts.place halts.fault);
        }

    cut_apart : (offset : ℕ) → was.refused ≡ None
        → stop_of before.end ≡ Some (record { fault = Wire offset Truncated; lasts = false })
        → Apart
    cut_apart offset unrefused cut =
        let grown = events_grow telling.manner bytes halts.more in
        let told = told_after wanted was.events in
        let said = events_say told grown.0 in
        let last = last_line now.refused after.end halts.place halts.fault
        (told_by telling after.end now) halts.lasting halts.ends in
        let texts : (told_after wanted now.events).report ≡ told.report ++ said.text =
        ap (λ (events : List WalkEvent). (told_after wanted events).report) grown.1
        ∙ ap (λ (t : Told). t.report) (told_push wanted was.events grown.0) ∙ said.is in
        record {
          now = cut_line offset;
          later = said.text ++ last.line;
          ends = rw (unrefused, cut) refl;
          goes_on =
              last.is ∙ ap (λ (text : List ℕ). text ++ last.line) texts
              ∙ append_assoc told.report said.text last.line;
          part = then_other said.text last.line said.other last.other offset;
        }

    apart : shows_fault (stop_by was.refused before.end) ≡ false → Apart
    apart unshown =
        let unrefused = none_refused was.refused before.end unshown in
        ⊎_elim (clean_apart unrefused) (λ cut. cut_apart cut.0 unrefused cut.1)
        (unshown_end before.end
        (ap (λ refused. shows_fault (stop_by refused before.end)) (sym unrefused) ∙ unshown))

  -- what is said at the end of the stream adds nothing to the output
  left_output : (told : Told) (opened : Bool)
      → parts_of wanted
      (fold (told_event wanted) told (if opened then LeftOpen ∷ [] else [])).transfers
      ≡ parts_of wanted told.transfers
  left_output told true = refl
  left_output told false = refl

  same_output : (bytes : List ℕ)
      → (told_of (unpack_telling wanted) bytes).ended.output
      ≡ (told_of (unpack_telling wanted) bytes).texts.output
  unfolding told_of
  same_output bytes =
      let was = walked (unpack_telling wanted).manner (reading_of bytes) in
      ap (λ (t : Told). parts_of wanted t.transfers)
      (told_push wanted was.events (end_events was.taken))
      ∙ left_output (told_after wanted was.events) (is_some (open_of was.taken))

  pub unpack_withholds_nothing : (bytes : List ℕ) → ReadingHalts bytes (reading_of bytes)
      → HasLongestSoFar (unpack_tool wanted) bytes
  unfolding told_of
  unpack_withholds_nothing bytes halts =
      withholds_nothing (told_of (unpack_telling wanted)) bytes halts.more halts.are
      (same_output bytes) (apart bytes halts)
