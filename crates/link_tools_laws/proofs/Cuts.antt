-- The output of `unpack` is the data of the heads that are in order or, if a fault of the order
-- does not end the run, of those that are not stray. The report cuts the output.
use Rattle.std.specs.List.{flat_map}
use Rattle.std.proofs.Common.{◌≡◌, ℕ, Bool, false, not, is_some, List, [], ◌∷◌, ◌++◌, Option, Some, None, refl, ap, sym, ◌∙◌, append-nil, append_assoc, arith, ◌+◌, ◌≤◌, length, length-append, if◌then◌else◌, ◌&&◌, map}
use Rattle.std.proofs.lemmas.List.Concat.{flat_map-append}
use Rattle.link_tool_option_types.specs.declared.wanted.Wanted.{Wanted}
use Rattle.link_wire.specs.{Stream.{Entry, reading_of, heads_of, End, Reading}, Spelled.Spelled}
use Rattle.link_wire.specs.{declared.message.Message.Message, SpelledStream.{IsStream, IsReadingOf}}
use Rattle.link_transfer.specs.{Event.event_of, Order.{is_stray, effect_of, with_taken, refusal}}
use Rattle.link_transfer.specs.{declared.joiner.Turn.Turn, declared.fault.OrderFault.OrderFault}
use Rattle.link_report.specs.{declared.transfer.TransferEntry.TransferEntry, Transfer.transfer_text}
use Rattle.link_run.specs.{Run.Outcome, Made.{StreamStop, Made, whole_by, stop_of}}
use Rattle.link_run_over_transfers.proofs.Heads.{other_has_none}
use Rattle.link_run_judge.specs.{Transfers.Transfer, Unpacking.{parts_of, part_of, entry_of}}
use Rattle.link_run_judge.proofs.{Effects.Does, Texts.parts_more}
use Rattle.link_run_judge.proofs.Heads.{transfers_same, transfer_begins, transfer_continues}
use Rattle.link_tools_laws.specs.Cuts.{data_of, prepended_unless, taken_after, UnpacksToAllData, UnpacksToNonStrayData, order_of, entries_of, AreOutputPartsEndToEnd, total_written, stream_stop, lined, reported, LinesDivideOutput, ReportDividesOutput, stopping, going_on, ReportLine, OfHead, OfTransfer, line_text, entry_in, fault_in, faults_after, ReportDividesOutputKeepGoing}
use Rattle.link_tools_laws.specs.RoundTrip.{all}
use Rattle.link_tools_laws.specs.Transfers.{ordered_after, ordered, transfers_of, UnpackedSoFar, transfers_with, with_head, unpacked_of, by_transfers, settled}
use Rattle.link_tools_laws.proofs.Same.{accepted_in_order, all_kept, AreInOrder, all as in_order, first_may, not_stray, taken_more, unpacked_in_order, whole_is}
use Rattle.link_tools_laws.proofs.OneHead.{latest_open, lines_are, entries_due, lines_due, settled_all, KnowsWhole, stray_is, does, through, added}
use Rattle.link_tools_laws.proofs.{Prefixes.whole_output, Whole.{FitsData, AreRead, reading_read}}
use Rattle.link_transfer.specs.declared.joiner.Turn.TheVariants as turn

-- the data is added at the end of the output
module _ (keep_going : Bool) where
  -- all data of all transfers
  abbrev everything : Wanted
  everything = record { only = None; payload = false; keep_going = keep_going }

  abbrev parts : List Transfer → List ℕ
  parts transfers = parts_of everything transfers

  head_added : (effect : Option Turn) (stray : Bool) (head : Entry) (rest : List Entry)
      (transfers : List Transfer) → (effect ≡ Some turn.Other → head.content ≡ [])
      → stray ≡ not (is_some effect)
      → Does effect head.message (latest_open transfers)
      → parts (transfers_with stray transfers head) ++ flat_map data_of rest
      ≡ parts transfers ++ flat_map data_of (prepended_unless stray head rest)
  head_added effect stray head rest transfers none same does =
      grind (
        arith,
        append_assoc,
        does,
        parts_more,
        transfer_begins,
        transfer_continues,
        transfers_same,
      )

  -- the bytes so far, and then those of the heads to come
  abbrev HasBytes : List ℕ → UnpackedSoFar → List Entry → Type 0
  HasBytes bytes u more = parts u.transfers ++ flat_map data_of (taken_after u.taken more) ≡ bytes

  bytes_step : (bytes : List ℕ) (u : UnpackedSoFar) (head : Entry) (more : List Entry) → KnowsWhole u
      → FitsData head → HasBytes bytes u (head ∷ more)
      → HasBytes bytes (with_head everything u head) more
  unfolding taken_after
  bytes_step bytes u head more whole fits so =
      let happened = event_of head.message in
      head_added (effect_of u.taken happened) (is_stray u.taken happened) head
      (taken_after (with_taken u.taken head.message) more) u.transfers
      (λ is. fits (other_has_none u.taken head.message is))
      (stray_is u.taken happened) (does everything u head whole fits)
      ∙ so

  unpacked_bytes : (heads : List Entry) → AreRead heads
      → parts (unpacked_of everything heads).transfers ≡ flat_map data_of (taken_after [] heads)
  unfolding parts_of taken_after
  unpacked_bytes heads read =
      let bytes = flat_map data_of (taken_after [] heads) in
      sym (append-nil _) ∙ through everything (HasBytes bytes) (bytes_step bytes) heads read refl

-- ---- heads that are in order

-- none of them is stray
taken_in_order : (heads : List Entry) (before : List Message)
    → ordered_after before heads ≡ in_order heads → taken_after before heads ≡ heads
unfolding taken_after
taken_in_order [] before are = refl
taken_in_order (head ∷ more) before are =
    let first = first_may before head more are in
    let taken = not_stray before (event_of head.message) first.0 in
    rw (taken, taken_more before head.message taken)
    (ap (λ hs. head ∷ hs) (taken_in_order more (before ++ head.message ∷ []) first.1))

accepted_bytes : (heads : List Entry) → AreRead heads → AreInOrder heads
    → parts_of all (transfers_of heads) ≡ flat_map data_of heads
unfolding ordered
accepted_bytes heads read are =
    ap (parts_of all) (sym (unpacked_in_order all heads read are).made)
    ∙ unpacked_bytes false heads read
    ∙ ap (flat_map data_of) (taken_in_order heads [] are)

-- ---- the output for any stream

pub every_byte : (bytes : List ℕ) → UnpacksToAllData bytes
unfolding by_transfers
every_byte bytes =
    let made = by_transfers all bytes in
    let heads = heads_of (reading_of bytes) in
    ap (λ (o : Outcome). o.texts.output) (whole_is all bytes)
    ∙ whole_output made.stop made refl
    ∙ accepted_bytes (ordered heads).heads ((all_kept heads).read (reading_read bytes).heads)
    (accepted_in_order heads)

pub every_taken_byte : (bytes : List ℕ) → UnpacksToNonStrayData bytes
unfolding by_transfers
every_taken_byte bytes = grind (arith, reading_read, unpacked_bytes, whole_is, whole_output)

-- ---- a stream has no less bytes than its segments have data

spelled_size : (sent : Message) (content bytes : List ℕ) → Spelled sent content bytes
    → length content ≤ length bytes
spelled_size sent content bytes spelled = grind (arith, length-append)

stream_size : (entries : List Entry) (end : End) (offset : ℕ) (bytes : List ℕ)
    → IsStream entries end offset bytes → length (flat_map data_of entries) ≤ length bytes
stream_size [] end offset bytes stream = omega arith
stream_size (entry ∷ entries) end offset bytes stream =
    omega (
      arith,
      stream_size entries end (offset + length stream.before) stream.after stream.is_rest,
      spelled_size entry.message entry.content stream.before stream.is_entry,
      ap length stream.parts,
      length-append stream.before stream.after,
      length-append entry.content (flat_map data_of entries),
    )

pub reading_size : (bytes : List ℕ) (reading : Reading) → IsReadingOf bytes reading
    → length (flat_map data_of reading.entries) ≤ length bytes
reading_size bytes reading is = grind (arith, length-append, stream_size)

-- ---- heads in order

-- the data of all these heads
abbrev pub data_size : List Entry → ℕ
data_size heads = length (flat_map data_of heads)

-- those that are in order have no more data
pub order_size : (heads : List Entry) → data_size (ordered heads).heads ≤ data_size heads
order_size heads =
    let kept = all_kept heads in
    omega (
      arith,
      ap data_size kept.parts,
      ap length (flat_map-append data_of (ordered heads).heads kept.rest),
      length-append (flat_map data_of (ordered heads).heads) (flat_map data_of kept.rest),
    )

-- ---- one more entry

written_push : (entries : List TransferEntry) (last : TransferEntry)
    → total_written (entries ++ last ∷ []) ≡ total_written entries + last.written
unfolding total_written
written_push [] last = omega arith
written_push (entry ∷ more) last = let later = written_push more last in omega arith

follow_push : (start : ℕ) (entries : List TransferEntry) (last : TransferEntry)
    → AreOutputPartsEndToEnd start entries → last.start ≡ start + total_written entries
    → AreOutputPartsEndToEnd start (entries ++ last ∷ [])
unfolding AreOutputPartsEndToEnd total_written
follow_push start [] last follow is = (omega arith, tt)
follow_push start (entry ∷ more) last follow is = (follow.0, follow_push (start + entry.written) more last follow.1 (omega arith))

module _ (wanted : Wanted) where
  all_written : (transfers : List Transfer)
      → length (parts_of wanted transfers) ≡ total_written (entries_of wanted transfers)
  unfolding parts_of entries_of total_written
  all_written [] = refl
  all_written (latest ∷ earlier) =
      let before = all_written earlier in
      let pushed = written_push (entries_of wanted earlier) (entry_of wanted latest (length (parts_of wanted earlier))) in
      omega (arith, length-append (parts_of wanted earlier) (part_of wanted latest))

  follows : (transfers : List Transfer) → AreOutputPartsEndToEnd 0 (entries_of wanted transfers)
  unfolding entries_of AreOutputPartsEndToEnd
  follows [] = tt
  follows (latest ∷ earlier) =
      let before = all_written earlier in
      follow_push 0 (entries_of wanted earlier) (entry_of wanted latest (length (parts_of wanted earlier))) (follows earlier) (omega arith)

-- ---- the transfer that has no line

abbrev unlined : Option StreamStop → List Transfer → List Transfer
unlined None transfers = []
unlined (Some stop) [] = []
unlined (Some stop) (latest ∷ earlier) = if latest.closed then [] else latest ∷ []

unlined_first : (stop : Option StreamStop) (transfers : List Transfer)
    → (length (unlined stop transfers) ≤ 1)
    × (transfers ≡ unlined stop transfers ++ lined stop transfers)
unlined_first stop transfers = grind arith

-- ---- the whole

-- the lines of transfers cut the output, wherever the stream stops
pub cut_by_lines : (wanted : Wanted) (stop : Option StreamStop) (made : Made)
    (transfers : List Transfer) → made.ended.output ≡ made.texts.output
    → made.texts.output ≡ parts_of wanted transfers
    → LinesDivideOutput wanted (whole_by stop made).texts.output (lined stop transfers)
cut_by_lines wanted stop made transfers same is =
    let first = unlined_first stop transfers in
    record {
      follow = follows wanted (lined stop transfers);
      left = unlined stop transfers;
      one = first.0;
      whole = whole_output stop made same ∙ is ∙ ap (parts_of wanted) first.1;
      size = all_written wanted (lined stop transfers);
    }

-- the report cuts the output, for any stream
pub cuts : (wanted : Wanted) (bytes : List ℕ) → ReportDividesOutput (stopping wanted) bytes
unfolding by_transfers
cuts wanted bytes =
    let now = stopping wanted in
    let order = order_of bytes in
    let stop = stream_stop bytes in
    let whole = whole_is now bytes in
    record {
      lines = rw (whole, ← lines_are now (reported bytes)) (grind (arith, append-nil));
      divides =
          rw whole
          (cut_by_lines now stop (by_transfers now bytes) (transfers_of order.heads) refl refl);
    }

-- ---- lines

abbrev head_line : (offset : ℕ) → Option OrderFault → List ReportLine
head_line offset None = []
head_line offset (Some fault) = OfHead offset fault ∷ []

abbrev of_transfers : List TransferEntry → List ReportLine
of_transfers entries = map OfTransfer entries

their_texts : (entries : List TransferEntry)
    → flat_map line_text (of_transfers entries) ≡ flat_map transfer_text entries
their_texts [] = refl
their_texts (entry ∷ more) = ap (λ (xs : List ℕ). transfer_text entry ++ xs) (their_texts more)

their_entries : (entries : List TransferEntry)
    → flat_map entry_in (of_transfers entries) ≡ entries
their_entries [] = refl
their_entries (entry ∷ more) = ap (λ (es : List TransferEntry). entry ∷ es) (their_entries more)

no_faults : (entries : List TransferEntry) → flat_map fault_in (of_transfers entries) ≡ []
no_faults [] = refl
no_faults (entry ∷ more) = no_faults more

module _ (wanted : Wanted) where
  -- These lines are the report so far: of the transfers that are over, and of the heads that are
  -- not in order. With those of the heads to come, these have all faults.
  record Reports (all : List (ℕ × OrderFault)) (u : UnpackedSoFar) (more : List Entry) : Type 0 where
    pub lines : List ReportLine
    pub report : flat_map line_text lines ≡ u.report
    pub entries : flat_map entry_in lines ≡ entries_of wanted (settled u.transfers)
    pub faults : flat_map fault_in lines ++ faults_after u.taken more ≡ all

  reports_head : (all : List (ℕ × OrderFault)) (u : UnpackedSoFar) (head : Entry) (more : List Entry)
      → KnowsWhole u → FitsData head → Reports all u (head ∷ more)
      → Reports all (with_head wanted u head) more
  unfolding faults_after
  reports_head all u head more whole fits so =
      let new = added wanted u head whole fits in
      let refused = refusal u.taken (event_of head.message) in
      let first = head_line head.offset refused in
      let last = of_transfers new.entries in
      record {
        lines = so.lines ++ (first ++ last);
        report = grind (arith, append-nil, append_assoc, flat_map-append, their_texts);
        entries = grind (arith, flat_map-append, their_entries);
        faults = grind (arith, append-nil, append_assoc, flat_map-append, no_faults);
      }

  reports_all : (heads : List Entry) → AreRead heads
      → Reports (faults_after [] heads) (unpacked_of wanted heads) []
  unfolding entries_of
  reports_all heads read =
      through wanted (Reports (faults_after [] heads)) (reports_head (faults_after [] heads)) heads
      read
      (record { lines = []; report = refl; entries = refl; faults = refl })

pub cuts_on : (wanted : Wanted) (bytes : List ℕ) → ReportDividesOutputKeepGoing (going_on wanted) bytes
unfolding by_transfers faults_after
cuts_on wanted bytes =
    let now = going_on wanted in
    let reading = reading_of bytes in
    let heads = heads_of reading in
    let stop = stop_of reading.end in
    let u = unpacked_of now heads in
    let so = reports_all now heads (reading_read bytes).heads in
    let whole = whole_is now bytes in
    let ends_open = not (is_some stop) && latest_open u.transfers in
    record {
      lines = so.lines ++ of_transfers (entries_due now ends_open u.transfers);
      report = rw whole (grind (arith, append-nil, flat_map-append, lines_due, their_texts));
      faults = grind (arith, append-nil, flat_map-append, no_faults);
      entries = grind (arith, append-nil, flat_map-append, settled_all, their_entries);
      divides =
          rw whole (cut_by_lines now stop (by_transfers now bytes) u.transfers refl refl);
    }
