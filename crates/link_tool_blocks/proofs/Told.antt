-- What is kept after one more event, and what is written for it.
use Rattle.std.proofs.Common.{◌≡◌, ℕ, ◌+◌, ◌≤◌, Bool, true, false, not, ◌&&◌, ◌==◌, is_some, List, [], ◌∷◌, ◌++◌, length, Option, Result, OnOk, flat_map, refl, ap, sym, ◌∙◌, append-nil, append_assoc, arith}
use Rattle.std.proofs.{Math.Bool.and-true, lemmas.Grind.flat_map-append}
use Rattle.link_wire.specs.{Codes.{is_start, is_end}, Device.Output, Message.data_length}
use Rattle.link_wire.specs.declared.{IoFault.IoFault, message.Message.Message}
use Rattle.link_wire.specs.declared.message.Message.TheVariants as message
use Rattle.link_wire.specs.declared.message.SegmentHead.{SegmentHead}
use Rattle.link_transfer.specs.declared.joiner.Turn.{Turn}
use Rattle.link_run.specs.Run.{Texts, no_texts, ◌then◌}
use Rattle.link_run.specs.Writers.{on_output, on_report, AfterWrite}
use Rattle.link_run.specs.declared.writers.Writers.{Writers}
use Rattle.link_run.proofs.Runs.{texts_as}
use Rattle.link_run_over_bundle_files.specs.Telling.{WritesRestOfTexts as TellsText}
use Rattle.link_run_over_transfers.specs.Walk.{Head, WalkEvent, MessageHead, closes as closes_head, is_last, is_beginning, open_with, open_after_event, data_size, has_open, abandons}
use Rattle.link_run_over_transfers.specs.Telling.{HeadComes, Tells, data_ends}
use Rattle.link_run_judge.specs.{Transfers.{Transfer, closes, continued}, TransferJudge.{begun, grown}}
use Rattle.link_run_judge.specs.Unpacking.{order_line, Told, good_due, transfers_at, told_event, told_after}
use Rattle.link_run_judge.proofs.Counts.{size_then, open_then, size_with_data, open_with_data}
use Rattle.link_run_judge.proofs.Effects.{abandons_open, zero_eq, Does, Strays, Passes, Begins, Continues, comes_does}
use Rattle.link_run_judge.proofs.Events.{open_is, told_push, data_after, told_none, whole_if}
use Rattle.link_run_judge.proofs.Heads.{transfers_same, transfer_begins, transfer_continues}
use Rattle.link_run_judge.proofs.Judging.{judging_same}
use Rattle.link_tool_blocks.specs.Lister.{IsTransferBlocksAtLatest, IsBlockListerAt, end_due}
use Rattle.link_tool_blocks.specs.Showing.{transfer_lines, lines_of, order_line_of, unpacking_by, blocks_telling}
use Rattle.link_tool_blocks.specs.{TransferBlocks.IsTransferBlocksAt, declared.lister.BlockLister.BlockLister}
use Rattle.link_tool_option_types.specs.declared.blocks.BlockOptions.{BlockOptions}
use Rattle.link_tool_blocks.specs.declared.transfer.TransferBlocks.{TransferBlocks}
use Rattle.link_tool_blocks.proofs.Ended.{lines_of-more, ended_lines, head_lines}

-- ---- the latest transfer

module _ (only : Option ℕ) where
  -- the latest transfer is continued without data
  continued_at : (now : TransferBlocks) (transfers : List Transfer) (closed is_open : Bool)
      → is_open ≡ not closed → IsTransferBlocksAtLatest only now true transfers
      → IsTransferBlocksAtLatest only now is_open (continued transfers [] closed)
  continued_at now transfers closed is_open is at = record {
    transfer = grown at.transfer [] closed;
    earlier = at.earlier;
    are = rw at.are refl;
    opened = is;
    shows = record {
      judging = judging_same now.judge at.transfer closed at.shows.judging;
      reading = rw append-nil at.shows.reading;
    };
  }

  -- what is known of the latest transfer after a head, which may close it
  pub record AtHead (now : TransferBlocks) (transfers : List Transfer) (effect : Option Turn)
      (closing opened : Bool) : Type 0 where
    pub closed : closing ≡ true → IsTransferBlocksAtLatest only now false transfers
    pub opens : open_with effect closing opened ≡ true → IsTransferBlocksAtLatest only now true transfers

  -- the head's segment is in the latest transfer, which it closes or not
  at_segment : (now : TransferBlocks) (transfers : List Transfer) (effect : Option Turn)
      (closing opened : Bool) → open_with effect closing opened ≡ not closing
      → ((is_open : Bool) → is_open ≡ not closing → IsTransferBlocksAtLatest only now is_open transfers)
      → AtHead now transfers effect closing opened
  at_segment now transfers effect closing opened goes at = record {
    closed = λ is. at false (sym (ap not is));
    opens = λ is. at true (sym is ∙ goes);
  }

  pub at_head : (before now : TransferBlocks) (transfers : List Transfer) (effect : Option Turn)
      (sent : Message) (opened : Bool) → Does effect sent opened
      → (opened ≡ true → IsTransferBlocksAtLatest only before true transfers)
      → ((first : SegmentHead) (closed : Bool) → is_beginning effect ≡ true
      → sent ≡ message.Segment first → is_start first.flags ≡ true
      → IsTransferBlocksAt only now (begun first closed))
      → (is_beginning effect ≡ false → now ≡ before)
      → AtHead now (transfers_at effect transfers sent) effect
      (is_last effect && (data_length sent == 0)) opened
  at_head before now transfers effect sent opened (Strays is) at begins same =
      rw (is, same (ap is_beginning is)) (record { closed = λ none. absurd (cc); opens = at })
  at_head before now transfers effect sent opened (Passes is other) at begins same =
      rw (is, same (ap is_beginning is), transfers_same transfers sent [] other)
      (record { closed = λ none. absurd (cc); opens = at })
  at_head before now transfers effect sent opened (Begins first abandoned is starts does also) at begins same =
      let shows = begins first (closes first []) (ap is_beginning does) is starts in
      rw (does, is, transfer_begins transfers first [] starts)
      (at_segment now (begun first (closes first []) ∷ transfers) _ _ opened refl
      (λ is_open goes. record {
        transfer = begun first (closes first []);
        earlier = transfers;
        are = refl;
        opened = rw (zero_eq first.length) goes;
        shows = shows;
      }))
  at_head before now transfers effect sent opened (Continues first is starts does also) at begins same =
      rw (does, is, same (ap is_beginning does), transfer_continues transfers first [] starts)
      (at_segment before _ _ _ opened refl (λ is_open goes. continued_at before _ _ _
      (goes ∙ ap (λ b. not (is_end first.flags && b)) (sym (zero_eq _))) (at also)))

-- ---- one more event

-- data is no head
data_orders : (bytes : List ℕ) (whole : Bool) → flat_map order_line_of (data_ends bytes whole) ≡ []
data_orders [] true = refl
data_orders [] false = refl
data_orders (byte ∷ bytes) whole = data_orders bytes whole

module _ (options : BlockOptions) (before : List WalkEvent) where
  abbrev pub was : Told
  was = told_after (unpacking_by options) before

  module _ (event : WalkEvent) where
    abbrev pub next : Told
    next = told_event (unpacking_by options) was event

    next_is : told_after (unpacking_by options) (before ++ event ∷ []) ≡ next
    next_is = told_push (unpacking_by options) before (event ∷ [])

    pub known : (now : BlockLister) → now.latest.judge.size ≤ data_size before
        → now.good ≡ next.good
        → (open_after_event (has_open before) event ≡ true
        → IsTransferBlocksAtLatest options.only now.latest true next.transfers)
        → IsBlockListerAt options now (before ++ event ∷ [])
    known now size good at_open = record {
      size = omega (arith, size_then before event);
      good = rw next_is good;
      at_open = λ opened. rw next_is (at_open (sym (open_then before event) ∙ opened));
    }

    pub tells : {W E : Type 0} {out_look : W → Output} {report_look : E → Output}
        {old new : Writers W E} {result : Result (Unit {0}) IoFault} (now : BlockLister)
        (texts : Texts)
        → lines_of options.only (open_after_event (has_open before) event) next.transfers
        ≡ lines_of options.only (has_open before) was.transfers ++ texts.output
        → order_line_of event ≡ texts.report
        → AfterWrite out_look report_look old new texts result
        → OnOk result (IsBlockListerAt options now (before ++ event ∷ []))
        → Tells out_look report_look (blocks_telling options) (IsBlockListerAt options now) before
        (event ∷ []) old new result
    tells now texts lines orders wrote knows = record {
      texts = texts;
      said = texts_as
          (rw (next_is, open_then before event, lines) refl)
          (rw (flat_map-append, append-nil, orders) refl);
      wrote = wrote;
      known = knows;
    }

  -- ---- data of the open transfer, which may be the last of it

  module _ (bytes : List ℕ) (whole : Bool) (old : BlockLister)
      (knows : IsBlockListerAt options old before) (opened : has_open before ≡ true) where
    abbrev pub at : IsTransferBlocksAtLatest options.only old.latest true was.transfers
    at = knows.at_open opened

    abbrev new : Transfer
    new = grown at.transfer bytes whole

    abbrev pub data_transfers : List Transfer
    data_transfers = new ∷ at.earlier

    pub data_latest : (now : TransferBlocks) → IsTransferBlocksAt options.only now new
        → {is_open : Bool} → is_open ≡ not whole
        → IsTransferBlocksAtLatest options.only now is_open data_transfers
    data_latest now shows is = record {
      transfer = new;
      earlier = at.earlier;
      are = refl;
      opened = is;
      shows = shows;
    }

    data_next : told_after (unpacking_by options) (before ++ data_ends bytes whole)
        ≡ whole_if (unpacking_by options) at.transfer.first (at.transfer.content ++ bytes)
        at.earlier was.report was.good whole
    data_next =
        data_after (unpacking_by options) before bytes whole at.transfer at.earlier at.are
        (open_is at.transfer.closed at.opened)

    data_open : has_open (before ++ data_ends bytes whole) ≡ not whole
    data_open = rw (open_with_data before bytes whole, opened) (and-true (not whole))

    pub data_known : (now : BlockLister)
        → now.latest.judge.size ≤ old.latest.judge.size + length bytes
        → now.good ≡ (old.good && good_due whole data_transfers)
        → IsTransferBlocksAt options.only now.latest new
        → IsBlockListerAt options now (before ++ data_ends bytes whole)
    data_known now size good shows = record {
      size = omega (arith, size_with_data before bytes whole, knows.size);
      good = rw data_next (good ∙ ap (λ g. g && good_due whole data_transfers) knows.good);
      at_open = λ some. rw data_next (data_latest now.latest shows (sym some ∙ data_open));
    }

    pub data_tells : {W E : Type 0} {out_look : W → Output} {report_look : E → Output}
        {from to : Writers W E} {result : Result (Unit {0}) IoFault} (now : BlockLister)
        → TellsText out_look report_look (on_output (transfer_lines options.only true at.transfer))
        (on_output (transfer_lines options.only true new
        ++ end_due options.only whole data_transfers))
        (IsBlockListerAt options now (before ++ data_ends bytes whole)) from to result
        → Tells out_look report_look (blocks_telling options) (IsBlockListerAt options now) before
        (data_ends bytes whole) from to result
    data_tells now told = record {
      texts = told.texts;
      said = texts_as
          (rw (
            data_next,
            data_open,
            ended_lines options.only whole data_transfers,
            lines_of-more options.only true new at.earlier,
            opened,
            at.are,
            lines_of-more options.only true at.transfer at.earlier,
            append_assoc,
            append_assoc,
            ← ap (λ (texts : Texts). texts.output) told.said,
          ) refl)
          (rw (
            flat_map-append,
            data_orders bytes whole,
            ap (λ (texts : Texts). texts.report) told.said,
          ) refl);
      wrote = told.wrote;
      known = told.known;
    }

-- ---- a head

good_after : (good first second order : Bool)
    → (((good && first) && second) && order) ≡ (((good && order) && first) && second)
good_after good first second order = grind arith

-- the texts of a head: the line of the transfer that it abandons, of the one that it ends, and of
-- its fault
abbrev pub head_texts : BlockOptions → Told → Head → Texts
head_texts options told head =
    on_output (end_due options.only (abandons head.turn) told.transfers)
    then (on_output (end_due options.only (closes_head head)
    (transfers_at head.turn told.transfers head.message))
    then on_report (order_line head.offset head.fault))

module _ (options : BlockOptions) (before : List WalkEvent) (head : Head)
    (comes : HeadComes before head) where
  abbrev had : Told
  had = told_after (unpacking_by options) before

  -- a head that abandons a transfer comes while it is open
  pub abandons_at : {old : BlockLister} → IsBlockListerAt options old before → abandons head.turn ≡ true
      → IsTransferBlocksAtLatest options.only old.latest true had.transfers
  abandons_at knows some = knows.at_open (abandons_open _ _ _ (comes_does before head comes) some)

  pub head_tells : {W E : Type 0} {out_look : W → Output} {report_look : E → Output}
      {old new : Writers W E} {result : Result (Unit {0}) IoFault} (now : BlockLister)
      → AfterWrite out_look report_look old new (head_texts options had head) result
      → OnOk result (IsBlockListerAt options now (before ++ MessageHead head ∷ []))
      → Tells out_look report_look (blocks_telling options) (IsBlockListerAt options now) before
      (MessageHead head ∷ []) old new result
  head_tells now wrote knows =
      tells options before (MessageHead head) now (head_texts options had head)
      (rw (append-nil (end_due options.only (closes_head head) _), ← append_assoc)
      (head_lines options.only had.transfers head.turn head.message (has_open before)
      (comes_does before head comes)))
      refl wrote knows

  pub head_known : (old now : BlockLister) → IsBlockListerAt options old before
      → now.latest.judge.size ≤ old.latest.judge.size
      → now.good ≡ (((old.good && good_due (abandons head.turn) had.transfers)
      && good_due (closes_head head) (transfers_at head.turn had.transfers head.message))
      && not (is_some head.fault))
      → AtHead options.only now.latest (transfers_at head.turn had.transfers head.message) head.turn
      (closes_head head) (has_open before)
      → IsBlockListerAt options now (before ++ MessageHead head ∷ [])
  head_known old now knows size good at =
      known options before (MessageHead head) now (omega (arith, size, knows.size))
      (rw (← knows.good) (good ∙ good_after old.good _ _ _))
      at.opens

-- ---- before the first event

pub says_nothing : (options : BlockOptions) → (blocks_telling options).texts [] ≡ no_texts
unfolding told_after lines_of
says_nothing options = refl

pub knows_nothing : (options : BlockOptions) (now : BlockLister) → now.latest.judge.size ≡ 0
    → now.good ≡ true → IsBlockListerAt options now []
unfolding data_size has_open
knows_nothing options now size good = record {
  size = omega arith;
  good = rw (told_none (unpacking_by options)) good;
  at_open = λ opened. absurd (cc);
}
