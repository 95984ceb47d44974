-- What is kept after one more event, and what is written for it.
use Rattle.std.proofs.Common.{◌≡◌, ℕ, ◌+◌, ◌≤◌, Bool, true, false, not, ◌&&◌, ◌==◌, is_some, List, [], ◌∷◌, ◌++◌, length, Option, Result, OnOk, refl, ap, sym, ◌∙◌, append-nil, append_assoc, arith}
use Rattle.std.proofs.Math.Bool.{and-true}
use Rattle.link_wire.specs.{Codes.{is_start, is_end}, Device.Output, Message.data_length}
use Rattle.link_wire.specs.declared.{IoFault.IoFault, message.Message.Message}
use Rattle.link_wire.specs.declared.message.Message.TheVariants as message
use Rattle.link_wire.specs.declared.message.SegmentHead.{SegmentHead}
use Rattle.link_transfer.specs.declared.joiner.Turn.{Turn}
use Rattle.link_run.specs.{Run.{no_texts, ◌then◌}, Writers.{on_output, on_report, AfterWrite}}
use Rattle.link_run.specs.declared.writers.Writers.{Writers}
use Rattle.link_run.proofs.Runs.{texts_as}
use Rattle.link_run_over_transfers.specs.Walk.{Head, WalkEvent, MessageHead, closes as closes_head, is_last, is_beginning, open_with, open_after_event, data_size, has_open, abandons}
use Rattle.link_run_over_transfers.specs.Telling.{HeadComes, Tells, data_ends}
use Rattle.link_run_judge.specs.{Transfers.{Transfer, closes, continued}, TransferJudge.{begun, grown}}
use Rattle.link_run_judge.specs.Unpacking.{part_of, parts_of, order_line, Told, line_due, good_due, transfers_at, told_event, told_after, unpack_telling}
use Rattle.link_run_judge.proofs.Counts.{size_then, open_then, size_with_data, open_with_data}
use Rattle.link_run_judge.proofs.Effects.{zero_eq, Does, Strays, Passes, Begins, Continues, comes_does}
use Rattle.link_run_judge.proofs.Events.{open_is, told_push, data_after, told_none, whole_if}
use Rattle.link_run_judge.proofs.Heads.{transfers_same, transfer_begins, transfer_continues}
use Rattle.link_run_judge.proofs.Texts.{parts_more, parts_sum}
use Rattle.link_tool_unpack.specs.TransferScan.{IsTransferScanAt}
use Rattle.link_tool_unpack.specs.Unpacker.{IsTransferScanAtLatest, IsUnpackerAt}
use Rattle.link_tool_unpack.specs.declared.transfer.TransferScan.{TransferScan}
use Rattle.link_tool_unpack.specs.declared.unpacker.Unpacker.{Unpacker}
use Rattle.link_tool_option_types.specs.declared.wanted.Wanted.{Wanted}
use Rattle.link_tool_unpack.proofs.Transfers.{part_of-begun, follows_same, same_parts}

-- ---- the latest transfer

module _ (wanted : Wanted) where
  pub sum_at : (now : TransferScan) (transfer : Transfer) (earlier : List Transfer)
      → IsTransferScanAt wanted now transfer earlier
      → now.start + now.written ≡ length (parts_of wanted (transfer ∷ earlier))
  sum_at now transfer earlier at = parts_sum wanted transfer earlier _ _ at.start at.written

  -- the latest transfer is continued without data
  pub continued_at : (now : TransferScan) (transfers : List Transfer) (closed is_open : Bool)
      → is_open ≡ not closed → IsTransferScanAtLatest wanted now true transfers
      → IsTransferScanAtLatest wanted now is_open (continued transfers [] closed)
  continued_at now transfers closed is_open is at = record {
    transfer = grown at.transfer [] closed;
    earlier = at.earlier;
    are = ap (λ ts. continued ts [] closed) at.are;
    opened = is;
    follows = follows_same wanted now at.transfer closed at.earlier at.follows;
  }

  pub continued_parts : (transfers : List Transfer) (closed : Bool)
      → parts_of wanted (continued transfers [] closed) ≡ parts_of wanted transfers
  continued_parts [] closed = refl
  continued_parts (latest ∷ earlier) closed = sym (same_parts wanted latest closed earlier)

  begun_parts : (head : SegmentHead) (closed : Bool) (earlier : List Transfer)
      → parts_of wanted (begun head closed ∷ earlier) ≡ parts_of wanted earlier
  begun_parts head closed earlier =
      rw (parts_more wanted (begun head closed) earlier, part_of-begun wanted head closed)
      (append-nil _)

  -- ---- one more event

  module _ (before : List WalkEvent) (event : WalkEvent) where
    abbrev pub next : Told
    next = told_event wanted (told_after wanted before) event

    next_is : told_after wanted (before ++ event ∷ []) ≡ next
    next_is = told_push wanted before (event ∷ [])

    pub known : (now : Unpacker)
        → now.latest.start + now.latest.written ≡ length (parts_of wanted next.transfers)
        → now.latest.total ≤ data_size before → now.good ≡ next.good
        → (open_after_event (has_open before) event ≡ true
        → IsTransferScanAtLatest wanted now.latest true next.transfers)
        → IsUnpackerAt wanted now (before ++ event ∷ [])
    known now sum total good at_open = record {
      sum = rw next_is sum;
      total = omega (arith, size_then before event);
      good = rw next_is good;
      at_open = λ opened. rw next_is (at_open (sym (open_then before event) ∙ opened));
    }

    pub tells : {W E : Type 0} (out_look : W → Output) (report_look : E → Output)
        (old new : Writers W E) (result : Result (Unit {0}) IoFault) (now : Unpacker) (text : List ℕ)
        → parts_of wanted next.transfers ≡ parts_of wanted (told_after wanted before).transfers
        → next.report ≡ (told_after wanted before).report ++ text
        → AfterWrite out_look report_look old new (on_report text) result
        → OnOk result (IsUnpackerAt wanted now (before ++ event ∷ []))
        → Tells out_look report_look (unpack_telling wanted) (IsUnpackerAt wanted now) before
        (event ∷ []) old new result
    tells out_look report_look old new result now text parts lines wrote knows = record {
      texts = on_report text;
      said = rw next_is (texts_as (append-nil _ ∙ sym parts) (sym lines));
      wrote = wrote;
      known = knows;
    }

  -- ---- data of the open transfer, which may be the last of it

  -- the scan follows a transfer that has these further bytes, whichever it is
  abbrev pub ScansFurther : (old now : TransferScan) → (bytes : List ℕ) → Type 0
  ScansFurther old now bytes =
      (transfer : Transfer) (closed : Bool) (earlier : List Transfer)
      → IsTransferScanAt wanted old transfer earlier
      → IsTransferScanAt wanted now (grown transfer bytes closed) earlier

  module _ (before : List WalkEvent) (bytes : List ℕ) (whole : Bool) (old : Unpacker)
      (knows : IsUnpackerAt wanted old before) (opened : has_open before ≡ true) where
    abbrev was : Told
    was = told_after wanted before

    abbrev at : IsTransferScanAtLatest wanted old.latest true was.transfers
    at = knows.at_open opened

    abbrev new : Transfer
    new = grown at.transfer bytes whole

    abbrev pub data_transfers : List Transfer
    data_transfers = new ∷ at.earlier

    pub data_latest : (now : TransferScan) → ScansFurther old.latest now bytes → {is_open : Bool} → is_open ≡ not whole
        → IsTransferScanAtLatest wanted now is_open data_transfers
    data_latest now follows is = record {
      transfer = new;
      earlier = at.earlier;
      are = refl;
      opened = is;
      follows = follows at.transfer whole at.earlier at.follows;
    }

    data_next : told_after wanted (before ++ data_ends bytes whole)
        ≡ whole_if wanted at.transfer.first (at.transfer.content ++ bytes) at.earlier was.report
        was.good whole
    data_next =
        data_after wanted before bytes whole at.transfer at.earlier at.are
        (open_is at.transfer.closed at.opened)

    pub data_known : (now : Unpacker) → now.latest.total ≤ old.latest.total + length bytes
        → now.good ≡ (old.good && good_due whole data_transfers) → ScansFurther old.latest now.latest bytes
        → IsUnpackerAt wanted now (before ++ data_ends bytes whole)
    data_known now total good follows = record {
      sum = rw data_next (sum_at now.latest new at.earlier (follows at.transfer whole at.earlier at.follows));
      total = omega (arith, size_with_data before bytes whole, knows.total);
      good = rw data_next (good ∙ ap (λ g. g && good_due whole data_transfers) knows.good);
      at_open = λ some. rw data_next (data_latest now.latest follows
          (sym some ∙ open_with_data before bytes whole ∙ ap (λ b. not whole && b) opened
          ∙ and-true (not whole)));
    }

    -- these bytes of the data are to be written
    module _ (part : List ℕ) (has_part : (transfer : Transfer) (closed : Bool)
        (earlier : List Transfer) → IsTransferScanAt wanted old.latest transfer earlier
        → part_of wanted (grown transfer bytes closed) ≡ part_of wanted transfer ++ part) where
      data_parts : parts_of wanted data_transfers ≡ parts_of wanted was.transfers ++ part
      data_parts =
          parts_more wanted new at.earlier
          ∙ ap (λ (xs : List ℕ). parts_of wanted at.earlier ++ xs)
          (has_part at.transfer whole at.earlier at.follows)
          ∙ sym (append_assoc _ _ part)
          ∙ ap (λ (xs : List ℕ). xs ++ part)
          (sym (ap (parts_of wanted) at.are ∙ parts_more wanted at.transfer at.earlier))

      pub data_tells : {W E : Type 0} (out_look : W → Output) (report_look : E → Output)
          (from to : Writers W E) (result : Result (Unit {0}) IoFault) (now : Unpacker)
          → AfterWrite out_look report_look from to
          (on_output part then on_report (line_due wanted whole data_transfers)) result
          → OnOk result (IsUnpackerAt wanted now (before ++ data_ends bytes whole))
          → Tells out_look report_look (unpack_telling wanted) (IsUnpackerAt wanted now) before
          (data_ends bytes whole) from to result
      data_tells out_look report_look from to result now wrote known = record {
        texts = on_output part then on_report (line_due wanted whole data_transfers);
        said = rw data_next (texts_as
            (ap (λ (xs : List ℕ). parts_of wanted was.transfers ++ xs) (append-nil part)
            ∙ sym data_parts) refl);
        wrote = wrote;
        known = known;
      }

-- ---- a head

module _ (wanted : Wanted) where
  -- a head adds no bytes
  pub head_parts : (transfers : List Transfer) (effect : Option Turn) (sent : Message) (opened : Bool)
      → Does effect sent opened
      → parts_of wanted (transfers_at effect transfers sent) ≡ parts_of wanted transfers
  head_parts transfers effect sent opened (Strays is) = rw is refl
  head_parts transfers effect sent opened (Passes is other) =
      rw is (ap (parts_of wanted) (transfers_same transfers sent [] other))
  head_parts transfers effect sent opened (Begins first abandoned is starts does same) =
      rw (does, is) (ap (parts_of wanted) (transfer_begins transfers first [] starts)
      ∙ begun_parts wanted first (closes first []) transfers)
  head_parts transfers effect sent opened (Continues first is starts does same) =
      rw (does, is) (ap (parts_of wanted) (transfer_continues transfers first [] starts)
      ∙ continued_parts wanted transfers (closes first []))

  -- The scan after a head. The head may close its transfer.
  pub record AtHead (now : TransferScan) (transfers : List Transfer) (effect : Option Turn)
      (closing opened : Bool) : Type 0 where
    pub sum : now.start + now.written ≡ length (parts_of wanted transfers)
    pub closed : closing ≡ true → IsTransferScanAtLatest wanted now false transfers
    pub opens : open_with effect closing opened ≡ true → IsTransferScanAtLatest wanted now true transfers

  -- the head's segment is in the latest transfer, which it closes or not
  at_segment : (now : TransferScan) (transfers : List Transfer) (effect : Option Turn)
      (closing opened : Bool) → now.start + now.written ≡ length (parts_of wanted transfers)
      → open_with effect closing opened ≡ not closing
      → ((is_open : Bool) → is_open ≡ not closing → IsTransferScanAtLatest wanted now is_open transfers)
      → AtHead now transfers effect closing opened
  at_segment now transfers effect closing opened sum goes at = record {
    sum = sum;
    closed = λ is. at false (sym (ap not is));
    opens = λ is. at true (sym is ∙ goes);
  }

  pub at_head : (before now : TransferScan) (transfers : List Transfer) (effect : Option Turn)
      (sent : Message) (opened : Bool) → Does effect sent opened
      → before.start + before.written ≡ length (parts_of wanted transfers)
      → (opened ≡ true → IsTransferScanAtLatest wanted before true transfers)
      → ((first : SegmentHead) (closed : Bool) (earlier : List Transfer) → is_beginning effect ≡ true
      → sent ≡ message.Segment first → is_start first.flags ≡ true
      → before.start + before.written ≡ length (parts_of wanted earlier)
      → IsTransferScanAt wanted now (begun first closed) earlier)
      → (is_beginning effect ≡ false → now ≡ before)
      → AtHead now (transfers_at effect transfers sent) effect
      (is_last effect && (data_length sent == 0)) opened
  at_head before now transfers effect sent opened (Strays is) sum at begins same =
      rw (is, same (ap is_beginning is))
      (record { sum = sum; closed = λ none. absurd (cc); opens = at })
  at_head before now transfers effect sent opened (Passes is other) sum at begins same =
      rw (is, same (ap is_beginning is), transfers_same transfers sent [] other)
      (record { sum = sum; closed = λ none. absurd (cc); opens = at })
  at_head before now transfers effect sent opened (Begins first abandoned is starts does also) sum at begins same =
      let follows = begins first (closes first []) transfers (ap is_beginning does) is starts sum in
      rw (does, is, transfer_begins transfers first [] starts)
      (at_segment now (begun first (closes first []) ∷ transfers) _ _ opened
      (sum_at wanted now (begun first (closes first [])) transfers follows) refl
      (λ is_open goes. record {
        transfer = begun first (closes first []);
        earlier = transfers;
        are = refl;
        opened = goes ∙ ap (λ b. not (is_end first.flags && b)) (sym (zero_eq first.length));
        follows = follows;
      }))
  at_head before now transfers effect sent opened (Continues first is starts does also) sum at begins same =
      rw (does, is, same (ap is_beginning does), transfer_continues transfers first [] starts)
      (at_segment before _ _ _ opened (sum ∙ ap length (sym (continued_parts wanted _ _))) refl
      (λ is_open goes. continued_at wanted before _ _ _
      (goes ∙ ap (λ b. not (is_end first.flags && b)) (sym (zero_eq _))) (at also)))

-- ---- before the first event

-- `unpack` says nothing of no event
pub says_nothing : (wanted : Wanted) → (unpack_telling wanted).texts [] ≡ no_texts
unfolding told_after parts_of
says_nothing wanted = refl

pub knows_nothing : (wanted : Wanted) (now : Unpacker) → now.latest.start + now.latest.written ≡ 0
    → now.latest.total ≡ 0 → now.good ≡ true → IsUnpackerAt wanted now []
unfolding parts_of data_size has_open
knows_nothing wanted now sum total good = record {
  sum = rw (told_none wanted) sum;
  total = omega arith;
  good = rw (told_none wanted) good;
  at_open = λ opened. absurd (cc);
}

-- ---- the texts of a head

-- the lines of a head: of its fault, of the transfer that it abandons, and of the one that it ends
abbrev pub head_lines : Wanted → Told → Head → List ℕ
head_lines wanted told head =
    order_line head.offset head.fault
    ++ (line_due wanted (abandons head.turn) told.transfers
    ++ line_due wanted (closes_head head) (transfers_at head.turn told.transfers head.message))

pub in_turn : (before first second third : List ℕ)
    → ((before ++ first) ++ second) ++ third ≡ before ++ (first ++ (second ++ third))
in_turn before first second third =
    append_assoc (before ++ first) second third ∙ append_assoc before first (second ++ third)

module _ {W E : Type 0} (out_look : W → Output) (report_look : E → Output) (wanted : Wanted)
    (before : List WalkEvent) (head : Head) (comes : HeadComes before head) where
  abbrev had : Told
  had = told_after wanted before

  pub does : Does head.turn head.message (has_open before)
  does = comes_does before head comes

  pub head_tells : (old new : Writers W E) (result : Result (Unit {0}) IoFault) (now : Unpacker)
      → AfterWrite out_look report_look old new (on_report (head_lines wanted had head)) result
      → OnOk result (IsUnpackerAt wanted now (before ++ MessageHead head ∷ []))
      → Tells out_look report_look (unpack_telling wanted) (IsUnpackerAt wanted now) before
      (MessageHead head ∷ []) old new result
  head_tells old new result now wrote knows =
      tells wanted before (MessageHead head) out_look report_look old new result now
      (head_lines wanted had head)
      (head_parts wanted had.transfers head.turn head.message (has_open before) does)
      (in_turn had.report _ _ _) wrote knows

  pub head_known : (old now : Unpacker) → IsUnpackerAt wanted old before
      → now.latest.total ≡ old.latest.total
      → now.good ≡ (((old.good && not (is_some head.fault)) && good_due (abandons head.turn) had.transfers)
      && good_due (closes_head head) (transfers_at head.turn had.transfers head.message))
      → AtHead wanted now.latest (transfers_at head.turn had.transfers head.message) head.turn
      (closes_head head) (has_open before)
      → IsUnpackerAt wanted now (before ++ MessageHead head ∷ [])
  head_known old now knows total good at =
      known wanted before (MessageHead head) now at.sum (rw total knows.total)
      (good ∙ ap (λ g. ((g && not (is_some head.fault)) && good_due (abandons head.turn) had.transfers)
      && good_due (closes_head head) (transfers_at head.turn had.transfers head.message)) knows.good)
      at.opens
