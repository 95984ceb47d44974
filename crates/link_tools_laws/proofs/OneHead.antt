-- What one head does: to the transfers, to what is said of its events, and to the lines.
use Rattle.std.specs.List.{flat_map, list_all, fold}
use Rattle.std.proofs.Common.{◌≡◌, ℕ, Bool, true, false, not, List, [], ◌∷◌, ◌++◌, length, if◌then◌else◌, refl, ap, ◌∙◌, append-nil, arith, zero, suc, ◌&&◌, ◌==◌, Option, is_some, Some, None, sym, subst, ⊎_elim, append_assoc}
use Rattle.std.proofs.Math.Bool.{and-true, and_comm, and-false, and_assoc}
use Rattle.std.proofs.lemmas.{List.flat_map_more, List.Folds.list_all-append, Bool.{ne_eqb, eq-eqb}}
use Rattle.std.proofs.lemmas.List.Concat.{flat_map-append}
use Rattle.link_tool_option_types.specs.declared.wanted.Wanted.{Wanted}
use Rattle.link_wire.specs.{Message.data_length, Codes.{is_start, is_end}, Stream.Entry}
use Rattle.link_wire.specs.declared.message.Message.{Message}
use Rattle.link_wire.specs.declared.message.SegmentHead.{SegmentHead}
use Rattle.link_transfer.specs.{declared.fault.OrderFault.OrderFault, declared.joiner.Turn.Turn}
use Rattle.link_transfer.specs.{Event.event_of, declared.event.Event.Event}
use Rattle.link_transfer.specs.Order.{is_segment, is_stray, refusal, effect_of, open_of}
use Rattle.link_report.specs.{Transfer.transfer_text, declared.transfer.TransferEntry.TransferEntry}
use Rattle.link_run_over_transfers.specs.Walk.{Head, WalkEvent, Whole, is_plain, content_events, data_events, head_events, is_last, open_with}
use Rattle.link_run_over_transfers.proofs.Heads.{open_then}
use Rattle.link_run_judge.specs.{Transfers.{Transfer, closes}, TransferJudge.grown}
use Rattle.link_run_judge.specs.Unpacking.{parts_of, entry_of, line_of, is_good, line_due, good_due, Told, transfers_at, told_head, order_line}
use Rattle.link_run_judge.proofs.Events.{told_then, told_both, data_told, whole_if, whole_told}
use Rattle.link_run_judge.proofs.Effects.{zero_eq, Does, Strays, Passes, Begins, Continues, what_does}
use Rattle.link_run_judge.proofs.Heads.{transfers_same, transfer_begins, transfer_continues}
use Rattle.link_tools_laws.specs.Cuts.{entries_of}
use Rattle.link_tools_laws.specs.Transfers.{settled, lines_of, are_good, abandoned_line, UnpackedSoFar, none_unpacked, transfers_with, transfer_lines, with_head, unpacked_of}
use Rattle.link_tools_laws.proofs.Whole.{FitsData, AreWhole, AreRead}
use Rattle.link_wire.specs.declared.message.Message.TheVariants as message
use Rattle.link_transfer.specs.declared.joiner.Turn.TheVariants as turn

-- ---- the lines that become due: of the transfer that a head abandons, and of the one it closes

abbrev pub latest_open : List Transfer → Bool
latest_open [] = false
latest_open (latest ∷ earlier) = not latest.closed

-- whether the transfers of these entries are good
abbrev pub all_good : List TransferEntry → Bool
all_good entries = list_all (λ (entry : TransferEntry). is_good entry.judgement) entries

module _ (wanted : Wanted) where
  abbrev pub entry_for : Transfer → List Transfer → TransferEntry
  entry_for latest earlier = entry_of wanted latest (length (parts_of wanted earlier))

  -- the entry of the latest transfer, if its line is due
  abbrev pub entries_due : (due : Bool) → List Transfer → List TransferEntry
  entries_due false transfers = []
  entries_due true [] = []
  entries_due true (latest ∷ earlier) = entry_for latest earlier ∷ []

  pub lines_due : (due : Bool) (transfers : List Transfer)
      → line_due wanted due transfers ≡ flat_map transfer_text (entries_due due transfers)
  lines_due due transfers = grind (arith, append-nil)

  pub goods_due : (due : Bool) (transfers : List Transfer)
      → good_due due transfers ≡ all_good (entries_due due transfers)
  goods_due due transfers = grind (arith, and-true)

  pub abandoned_due : (transfers : List Transfer)
      → abandoned_line wanted transfers ≡ line_due wanted (latest_open transfers) transfers
  abandoned_due transfers = grind arith

  -- ---- the entries of all transfers

  -- those of the transfers that are over come first, and then that of the open one
  pub settled_all : (transfers : List Transfer)
      → entries_of wanted (settled transfers) ++ entries_due (latest_open transfers) transfers
      ≡ entries_of wanted transfers
  unfolding entries_of
  settled_all transfers = grind (arith, append-nil)

  pub closed_last : (closed : Bool) (latest : Transfer) (earlier : List Transfer)
      → entries_of wanted earlier ++ entries_due closed (latest ∷ earlier)
      ≡ entries_of wanted (if closed then latest ∷ earlier else earlier)
  unfolding entries_of
  closed_last closed latest earlier = grind (arith, append-nil)

  pub lines_are : (transfers : List Transfer)
      → lines_of wanted transfers ≡ flat_map transfer_text (entries_of wanted transfers)
  unfolding lines_of entries_of
  lines_are [] = refl
  lines_are (latest ∷ earlier) =
      ap (λ (lines : List ℕ). lines ++ line_of wanted latest earlier) (lines_are earlier)
      ∙ flat_map_more transfer_text [] (entries_of wanted earlier) (entry_for latest earlier)

  pub goods_are : (transfers : List Transfer)
      → are_good transfers ≡ all_good (entries_of wanted transfers)
  unfolding are_good entries_of
  goods_are [] = refl
  goods_are (latest ∷ earlier) =
      grind (arith, and-true, and_comm, list_all-append, goods_are earlier)

-- ---- what `unpack` says of the events of a head and of its data

module _ (wanted : Wanted) where
  -- ---- the data of a segment

  module _ (first : SegmentHead) (earlier : List Transfer) (lines : List ℕ) (good : Bool) where
    -- the segment's transfer has this content, and its line if it is closed
    abbrev pub segment_told : List ℕ → Bool → Told
    segment_told content closed = whole_if wanted first content earlier lines good closed

    no_line : (content : List ℕ) → segment_told content false ≡ record {
      transfers = record { first = first; content = content; closed = false } ∷ earlier;
      report = lines;
      good = good;
    }
    no_line content = rw (append-nil, and-true) refl

    -- once the head is told, its data comes
    pub content_told : (before : List ℕ) (last : Bool) (size : ℕ) (content : List ℕ)
        → (size ≡ 0 → content ≡ [])
        → told_then wanted (segment_told before (last && (size == 0))) (data_events content
        ++ (if last && (not (size == 0) && (length content == size)) then Whole ∷ [] else []))
        ≡ segment_told (before ++ content) (last && (length content == size))
    content_told before last zero content fits = rw (fits refl, append-nil) (grind arith)
    content_told before last (suc more) content fits =
        let some = ne_eqb (suc more) 0 (λ none. absurd (omega arith)) in
        let ends : List WalkEvent =
        if last && (length content == suc more) then Whole ∷ [] else [] in
        rw (some, and-false)
        (ap (λ told. told_then wanted told (data_events content ++ ends)) (no_line before)
        ∙ told_both wanted _ (data_events content) _
        ∙ ap (λ told. told_then wanted told ends) (data_told wanted content _ lines good refl)
        ∙ whole_told wanted first (before ++ content) earlier lines good
        (last && (length content == suc more)))

  -- ---- a head

  abbrev pub head_of : ℕ → Message → Option OrderFault → Option Turn → Head
  head_of offset sent fault effect =
      record { offset = offset; message = sent; fault = fault; turn = effect }

  -- what is said of a head and of its data
  abbrev pub said_of : (all_heads : Bool) → ℕ → Option OrderFault → Option Turn → Message
      → (content : List ℕ) → Told → Told
  said_of all_heads offset fault effect sent content told =
      told_then wanted told (head_events all_heads (head_of offset sent fault effect)
      ++ content_events effect (data_length sent) content)

  -- a head that is plain says nothing
  module _ (all_heads : Bool) (offset : ℕ) (sent : Message) (transfers : List Transfer)
      (report : List ℕ) (good : Bool) where
    abbrev told : Told
    told = record { transfers = transfers; report = report; good = good }

    -- the head is told, and then its data
    pub head_told : (fault : Option OrderFault) (effect : Option Turn) (content : List ℕ)
        → (is_plain (head_of offset sent fault effect) ≡ true
        → transfers_at effect transfers sent ≡ transfers)
        → said_of all_heads offset fault effect sent content told
        ≡ told_then wanted (told_head wanted told (head_of offset sent fault effect))
        (content_events effect (data_length sent) content)
    head_told fault effect content same = grind (arith, and-true, append-nil, told_both)

-- ---- one head

pub stray_is : (taken : List Message) (happened : Event)
    → is_stray taken happened ≡ not (is_some (effect_of taken happened))
unfolding effect_of
stray_is taken happened = grind arith

-- The head of this message, with the data `content`, changes the transfers. These entries are those
-- of the transfers that are over now, and were not before.
pub record HeadAdds (wanted : Wanted) (offset : ℕ) (fault : Option OrderFault) (effect : Option Turn)
    (sent : Message) (content : List ℕ) (stray : Bool) (transfers after : List Transfer)
    : Type 0 where
  pub entries : List TransferEntry
  pub told : (all_heads : Bool) (report : List ℕ) (good : Bool)
      → said_of wanted all_heads offset fault effect sent content
      (record { transfers = transfers; report = report; good = good })
      ≡ record {
        transfers = after;
        report = (report ++ order_line offset fault) ++ flat_map transfer_text entries;
        good = (good && not (is_some fault)) && all_good entries;
      }
  pub lines : transfer_lines stray wanted (event_of sent) transfers after
      ≡ flat_map transfer_text entries
  pub settles : entries_of wanted (settled after) ≡ entries_of wanted (settled transfers) ++ entries
  -- if all of its data has come
  pub opened : length content ≡ data_length sent
      → latest_open after ≡ open_with effect (is_last effect) (latest_open transfers)

module _ (wanted : Wanted) (offset : ℕ) (fault : Option OrderFault) (content : List ℕ) where
  -- ---- lines of two transfers

  module _ (effect : Option Turn) (sent : Message) (stray : Bool) (transfers after : List Transfer)
      (abandoning closing : Bool) where
    abbrev due : List TransferEntry
    due = entries_due wanted abandoning transfers ++ entries_due wanted closing after

    adds : ((all_heads : Bool) (report : List ℕ) (good : Bool)
        → said_of wanted all_heads offset fault effect sent content
        (record { transfers = transfers; report = report; good = good })
        ≡ record {
          transfers = after;
          report = ((report ++ order_line offset fault) ++ line_due wanted abandoning transfers)
              ++ line_due wanted closing after;
          good = ((good && not (is_some fault)) && good_due abandoning transfers)
              && good_due closing after;
        })
        → transfer_lines stray wanted (event_of sent) transfers after
        ≡ line_due wanted abandoning transfers ++ line_due wanted closing after
        → entries_of wanted (settled after) ≡ entries_of wanted (settled transfers) ++ due
        → (length content ≡ data_length sent
        → latest_open after ≡ open_with effect (is_last effect) (latest_open transfers))
        → HeadAdds wanted offset fault effect sent content stray transfers after
    adds told lines settles opened =
        grind (
          arith,
          and_assoc,
          append_assoc,
          flat_map-append,
          goods_due,
          lines_due,
          list_all-append,
        )

  -- ---- the kinds of heads

  strays : (sent : Message) (transfers : List Transfer)
      → HeadAdds wanted offset fault None sent content true transfers transfers
  strays sent transfers = grind (arith, adds, append-nil, head_told)

  passes : (sent : Message) (transfers : List Transfer) → is_segment (event_of sent) ≡ false
      → HeadAdds wanted offset fault (Some turn.Other) sent content false transfers transfers
  passes sent transfers other =
      let same = transfers_same transfers sent [] other in
      grind (arith, adds, append-nil, head_told)

  module _ (head : SegmentHead) (fits : head.length ≡ 0 → content ≡ []) where
    abbrev last : Bool
    last = is_end head.flags

    -- no data has come of it yet
    closes_none : closes head [] ≡ (last && (head.length == 0))
    closes_none = ap (λ b. last && b) (zero_eq head.length)

    not_closed : length content ≡ head.length → not (closes head content) ≡ not last
    not_closed all = rw (eq-eqb (length content) head.length all, and-true) refl

    begins_one : (transfers : List Transfer) (abandoned : Option ℕ) → is_start head.flags ≡ true
        → is_some abandoned ≡ latest_open transfers
        → HeadAdds wanted offset fault (Some (turn.Begin abandoned last)) (message.Segment head) content
        false transfers
        (record { first = head; content = content; closed = closes head content } ∷ transfers)
    begins_one transfers abandoned starts is =
        let new : Transfer =
        record { first = head; content = content; closed = closes head content } in
        adds (Some (turn.Begin abandoned last)) (message.Segment head) false transfers
        (new ∷ transfers) (is_some abandoned) (closes head content)
        (λ all_heads report good.
        head_told wanted all_heads offset (message.Segment head) transfers report good fault
        (Some (turn.Begin abandoned last)) content
        (λ plain. absurd (grind arith))
        ∙ rw (transfer_begins transfers head [] starts, closes_none)
        (content_told wanted head transfers _ _ [] last head.length content fits))
        (grind arith)
        (rw is (sym (closed_last wanted (closes head content) new transfers)
        ∙ cc (settled_all wanted transfers)
        ∙ append_assoc (entries_of wanted (settled transfers))
        (entries_due wanted (latest_open transfers) transfers) _))
        not_closed

    continues_one : (latest : Transfer) (earlier : List Transfer) → is_start head.flags ≡ false
        → latest.closed ≡ false
        → HeadAdds wanted offset fault (Some (turn.Continue last)) (message.Segment head) content false
        (latest ∷ earlier) (grown latest content (closes head content) ∷ earlier)
    continues_one latest earlier starts is_open =
        let new : Transfer = grown latest content (closes head content) in
        adds (Some (turn.Continue last)) (message.Segment head) false (latest ∷ earlier)
        (new ∷ earlier) false (closes head content)
        (λ all_heads report good.
        head_told wanted all_heads offset (message.Segment head) (latest ∷ earlier) report good
        fault (Some (turn.Continue last)) content
        (λ plain.
        rw (transfer_continues (latest ∷ earlier) head [] starts, append-nil, closes_none)
        (grind arith))
        ∙ rw (transfer_continues (latest ∷ earlier) head [] starts, append-nil, closes_none)
        (content_told wanted latest.first earlier _ _ latest.content last head.length content fits))
        (grind arith)
        (rw is_open (sym (closed_last wanted (closes head content) new earlier)))
        not_closed

-- ---- any head

head_adds : (wanted : Wanted) (fault : Option OrderFault) (effect : Option Turn) (stray : Bool)
    (head : Entry) (transfers : List Transfer) → FitsData head → stray ≡ not (is_some effect)
    → Does effect head.message (latest_open transfers)
    → HeadAdds wanted head.offset fault effect head.message head.content stray transfers
    (transfers_with stray transfers head)
head_adds wanted fault effect stray head transfers fits same (Strays is) =
    rw (same, is) (strays wanted head.offset fault head.content head.message transfers)
head_adds wanted fault effect stray head transfers fits same (Passes is other) =
    rw (same, is, transfers_same transfers head.message head.content other)
    (passes wanted head.offset fault head.content head.message transfers other)
head_adds wanted fault effect stray head transfers fits same
    (Begins first abandoned is starts does also) =
    let own = rw is at fits in
    rw (same, does, is, transfer_begins transfers first head.content starts)
    (begins_one wanted head.offset fault head.content first own transfers abandoned starts also)
head_adds wanted fault effect stray head [] fits same (Continues first is starts does also) =
    absurd (cc)
head_adds wanted fault effect stray head (latest ∷ earlier) fits same
    (Continues first is starts does also) =
    let own = rw is at fits in
    rw (same, does, is, transfer_continues (latest ∷ earlier) first head.content starts)
    (continues_one wanted head.offset fault head.content first own latest earlier starts
    (grind arith))

-- all data of the heads so far has come, so the latest transfer is open if one is open
abbrev pub KnowsWhole : UnpackedSoFar → Type 0
KnowsWhole u = latest_open u.transfers ≡ is_some (open_of u.taken)

module _ (wanted : Wanted) (u : UnpackedSoFar) (head : Entry) (whole : KnowsWhole u)
    (fits : FitsData head) where
  abbrev happened : Event
  happened = event_of head.message

  pub does : Does (effect_of u.taken happened) head.message (latest_open u.transfers)
  does = what_does u.taken (latest_open u.transfers) whole head.message

  -- what the head does after those that have made this
  pub added : HeadAdds wanted head.offset (refusal u.taken happened) (effect_of u.taken happened)
      head.message head.content (is_stray u.taken happened) u.transfers
      (with_head wanted u head).transfers
  added = search (does, head_adds, stray_is)

  pub whole_after : length head.content ≡ data_length head.message
      → KnowsWhole (with_head wanted u head)
  whole_after all =
      cc (added.opened all, whole, open_then u.taken head.message)

-- ---- heads, one by one

none_whole : KnowsWhole none_unpacked
unfolding open_of
none_whole = refl

-- What holds of the heads so far and of those to come holds of all heads, if each head keeps it.
module _ (wanted : Wanted) (P : UnpackedSoFar → List Entry → Type 0)
    (step : (u : UnpackedSoFar) (head : Entry) (more : List Entry) → KnowsWhole u → FitsData head
    → P u (head ∷ more) → P (with_head wanted u head) more) where
  through_from : (heads : List Entry) (u : UnpackedSoFar) → AreRead heads → KnowsWhole u → P u heads
      → P (fold (with_head wanted) u heads) []
  through_from [] u read whole so = so
  through_from (head ∷ more) u read whole so =
      let next = with_head wanted u head in
      let then_so = step u head more whole read.0 so in
      ⊎_elim
      (λ all. through_from more next read.2 (whole_after wanted u head whole read.0 all) then_so)
      (λ none.
      rw none (subst (P next) none then_so))
      read.1

  pub through : (heads : List Entry) → AreRead heads → P none_unpacked heads
      → P (unpacked_of wanted heads) []
  unfolding unpacked_of
  through heads read so = through_from heads none_unpacked read none_whole so

-- the same of heads that have all of their data
pub heads_whole : (wanted : Wanted) (heads : List Entry) → AreRead heads → AreWhole heads
    → KnowsWhole (unpacked_of wanted heads)
heads_whole wanted heads read are =
    (through wanted (λ u more. AreWhole more × KnowsWhole u)
    (λ u head more whole fits so. (so.0.1, whole_after wanted u head whole fits so.0.0)) heads read
    (are, none_whole)).1
