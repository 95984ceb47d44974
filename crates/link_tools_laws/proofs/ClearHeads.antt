-- The messages of a packed stream: they break no rule of messages, one by one, and what is known
-- before each segment and after it.
use Rattle.std.specs.{Prelude.IfSome, List.list_any}
use Rattle.std.proofs.Common.{◌≡◌, ℕ, zero, suc, ◌+◌, ◌≤◌, Bool, true, false, ◌==◌, List, [], ◌∷◌, ◌++◌, take, filter_map, Option, Some, None, if◌then◌else◌, refl, ap, arith, ◌*◌, length, sym, ◌∙◌, length-append}
use Rattle.std.proofs.{Math.Bool.{and-false, and-true}, Math.Seq.take-add}
use Rattle.std.proofs.lemmas.{Bool.{eq-eqb, ne_eqb, le-ltb}, List.{length-take, reverse-append}}
use Rattle.std.proofs.lemmas.List.Sums.{sum_by-cons}
use Rattle.link_tool_option_types.specs.declared.limits.PeerLimits.{PeerLimits}
use Rattle.link_wire.specs.{Codes.{is_start, is_end}, Stream.Entry}
use Rattle.link_wire.specs.Spelling.{segment_with, sess_init_with, announced}
use Rattle.link_wire.specs.declared.message.Message.{Message}
use Rattle.link_wire.specs.declared.message.SegmentHead.{SegmentHead}
use Rattle.link_transfer.specs.{declared.announcement.Announced.Announced, Chunks.chunk_at}
use Rattle.link_transfer.specs.{declared.joiner.Turn.Turn, Event.event_of}
use Rattle.link_transfer.specs.{Joiner.{IsJoinerAt, joiner_after}, declared.joiner.Joiner.Joiner}
use Rattle.link_transfer.specs.declared.fault.OrderFault.{OrderFault}
use Rattle.link_transfer.specs.declared.announcement.Announced.TheVariants.{Absent, Total, Malformed}
use Rattle.link_transfer.specs.Order.{refusal, refusal_by, turn_by, effect_of}
use Rattle.link_transfer.specs.declared.event.Event.TheVariants.{Segment}
use Rattle.link_transfer.proofs.Joining.{refusal-at, effect-at, not_stray, IsJoinerAt-then}
use Rattle.link_session_rules.specs.{Answers.{ack_length, answer_order}, MessageRules.broken_rules}
use Rattle.link_session_rules.specs.Endings.{rejects_type, after_reject, term_order}
use Rattle.link_session_rules.specs.Assigned.{item_type, reject_known, reason}
use Rattle.link_session_rules.specs.Flags.{item_flags, segment_flags, term_flags}
use Rattle.link_session_rules.specs.Heads.{HeadWithOrder, newest, is_sess_term, start_id}
use Rattle.link_session_rules.specs.Lengths.{peer_segment, size_of, if_exceeded, peer_transfer, earlier_of, segments_of, first_segment}
use Rattle.link_session_rules.specs.NodeIds.{node_id, node_name}
use Rattle.link_session_rules.specs.Session.{order, before_session, keepalive, keepalive_interval}
use Rattle.link_session_rules.specs.TransferIds.{abandoned_by, interleaved, is_in, runs_of, skips, transfer_id, transfer_id_order}
use Rattle.link_session_rules.proofs.Pushes.{newest_then}
use Rattle.link_run.proofs.Continued.{entry}
use Rattle.link_run_over_transfers.specs.Walk.{head_at}
use Rattle.link_run_judge.specs.Transfers.{Transfer, after_message}
use Rattle.link_run_judge.proofs.Heads.{transfer_begins, transfer_continues}
use Rattle.link_tool_check.specs.Checking.{judged}
use Rattle.link_tool_pack.specs.Segments.{flags_of, BundleToCut, cut_at}
use Rattle.link_tools_laws.specs.PackedRules.{AreInitRulesKept}
use Rattle.link_tools_laws.proofs.Entries.{chunk_of, message_of}
use Rattle.link_wire.specs.declared.message.Message.TheVariants as message
use Rattle.link_transfer.specs.declared.joiner.Turn.TheVariants as turn

pub starts_as : (first last : Bool) → is_start (flags_of first last) ≡ first
starts_as first last = grind arith

-- ---- no end of the session so far

pub record HasOpenTransfer (before : List HeadWithOrder) : Type 0 where
  pub unrejected : list_any rejects_type (newest before) ≡ false
  pub unended : list_any is_sess_term (newest before) ≡ false

pub open_then : (before : List HeadWithOrder) (head : HeadWithOrder) → HasOpenTransfer before
    → rejects_type head.message ≡ false → is_sess_term head.message ≡ false
    → HasOpenTransfer (before ++ head ∷ [])
open_then before head is_open rejects ends = record {
  unrejected = rw (newest_then before head, rejects) is_open.unrejected;
  unended = rw (newest_then before head, ends) is_open.unended;
}

not_after : (before : List HeadWithOrder) (message : Message) → HasOpenTransfer before
    → after_reject before message ≡ None
unfolding after_reject
not_after before message is_open = rw is_open.unrejected refl

not_late : (before : List HeadWithOrder) (message : Message) → HasOpenTransfer before
    → term_order before message ≡ None
unfolding term_order
not_late before message is_open = rw (is_open.unended, and-false) refl

-- ---- rules, one by one

module _ (peer : PeerLimits) (before : List HeadWithOrder) where
  module _ (first last : Bool) (id size : ℕ) (announce : Option ℕ) (turn : Turn) where
    abbrev segment : Message
    segment = segment_with (flags_of first last) id size announce

    abbrev segment_head : HeadWithOrder
    segment_head = record { message = segment; fault = None; turn = Some turn }

    -- in order, and it abandons no transfer
    pub segment_clear : abandoned_by (Some turn) ≡ None → HasOpenTransfer before
        → transfer_id before segment ≡ None → transfer_id_order before segment ≡ None
        → peer_segment peer.segment segment ≡ None
        → peer_transfer peer.transfer before segment_head ≡ None
        → broken_rules peer before segment_head ≡ []
    unfolding broken_rules node_id item_flags order before_session interleaved segment_flags ack_length keepalive term_flags node_name keepalive_interval item_type answer_order reject_known reason term_order
    segment_clear none is_open new next short within =
        let unrejected = not_after before segment is_open in grind arith

  -- ---- messages that are no segments

  abbrev plain : Message → HeadWithOrder
  plain sent = record { message = sent; fault = None; turn = Some turn.Other }

  module _ (interval segment_mru transfer_mru : ℕ) (node : List ℕ) where
    abbrev init : Message
    init = sess_init_with interval segment_mru transfer_mru node

    pub init_clear : HasOpenTransfer before → AreInitRulesKept init
        → broken_rules peer before (plain init) ≡ []
    unfolding broken_rules item_flags order before_session interleaved segment_flags transfer_id peer_segment peer_transfer ack_length keepalive term_flags item_type transfer_id_order answer_order reject_known reason
    init_clear is_open keeps =
        let unrejected = not_after before init is_open in
        let in_time = not_late before init is_open in
        grind (arith, keeps.id, keeps.name, keeps.interval)

  pub term_clear : HasOpenTransfer before → broken_rules peer before (plain (message.SessTerm 0 0)) ≡ []
  unfolding broken_rules node_id item_flags order before_session interleaved segment_flags transfer_id peer_segment peer_transfer ack_length keepalive term_flags node_name keepalive_interval item_type transfer_id_order answer_order reject_known reason
  term_clear is_open =
      let unrejected = not_after before (message.SessTerm 0 0) is_open in
      let in_time = not_late before (message.SessTerm 0 0) is_open in
      grind arith

-- ---- transfer IDs

-- the IDs of the transfers that began, the newest first
abbrev pub ids_of : List HeadWithOrder → List ℕ
ids_of before = filter_map start_id (newest before)

-- the IDs from this one down to 0
abbrev pub counts : (next : ℕ) → List ℕ
counts zero = []
counts (suc next) = next ∷ counts next

-- they are one run
one_run : (next : ℕ) → runs_of (counts (suc next)) ≡ counts (suc next) ∷ []
one_run zero = refl
one_run (suc next) = rw (one_run next, eq-eqb (suc next) (next + 1) (omega arith)) refl

all_below : (id next : ℕ) → next ≤ id → list_any (λ earlier. earlier == id) (counts next) ≡ false
all_below id zero below = refl
all_below id (suc next) below =
    rw (ne_eqb next id (λ same. absurd (omega arith)), all_below id next (omega arith)) refl

is_new : (id : ℕ) → is_in (take 64 (runs_of (counts id))) id ≡ false
is_new zero = refl
is_new (suc next) = rw (one_run next, all_below (suc next) (suc next) (omega arith)) refl

is_next : (id : ℕ) → skips (counts id) id ≡ false
is_next zero = refl
is_next (suc next) = rw (eq-eqb (suc next) (next + 1) (omega arith)) refl

-- the IDs below which a segment finds those of the transfers that began, if it is the first of its
-- transfer or not
abbrev pub next_by : (id : ℕ) (first : Bool) → ℕ
next_by id first = if first then id else suc id

module _ (before : List HeadWithOrder) (last : Bool) (id size : ℕ) (announce : Option ℕ) where
  -- the IDs with the segment
  pub ids_more : (first : Bool) (fault : Option OrderFault) (does : Option Turn)
      → ids_of before ≡ counts (next_by id first)
      → ids_of (before ++ record {
        message = segment_with (flags_of first last) id size announce;
        fault = fault;
        turn = does;
      } ∷ []) ≡ counts (suc id)
  ids_more true fault does ids =
      rw (newest_then before _, starts_as true last) (ap (λ (ids : List ℕ). id ∷ ids) ids)
  ids_more false fault does ids = rw (newest_then before _, starts_as false last) ids

  -- if a transfer begins, its ID is the next
  pub new_id : (first : Bool) → ids_of before ≡ counts (next_by id first)
      → transfer_id before (segment_with (flags_of first last) id size announce) ≡ None
  unfolding transfer_id
  new_id true ids = rw (starts_as true last, ids, is_new id) refl
  new_id false ids = rw (starts_as false last) refl

  pub next_id : (first : Bool) → ids_of before ≡ counts (next_by id first)
      → transfer_id_order before (segment_with (flags_of first last) id size announce) ≡ None
  unfolding transfer_id_order
  next_id true ids = rw (starts_as true last, ids, is_next id, and-false, and-false) refl
  next_id false ids = rw (starts_as false last) refl

-- ---- lengths

abbrev pub IsAtMost : (limit : ℕ) → Announced → Type 0
IsAtMost limit Absent = Unit {0}
IsAtMost limit (Total total) = total ≤ limit
IsAtMost limit Malformed = Unit {0}

pub exceeds_none : (limit : ℕ) (said : Announced) (head : SegmentHead) (earlier : List SegmentHead)
    → IsAtMost limit said → size_of earlier + head.length ≤ limit
    → if_exceeded limit said head earlier ≡ None
exceeds_none limit said head earlier most within = grind (arith, and-false, le-ltb)

pub short_none : (limit : Option ℕ) (head : SegmentHead) → IfSome limit (λ most. head.length ≤ most)
    → peer_segment limit (message.Segment head) ≡ None
unfolding peer_segment
short_none limit head short = grind (arith, le-ltb)

-- ---- a message that may come

-- a joiner before the first message
abbrev pub fresh : Joiner
fresh = record { initiated = false; terminated = false; transfer = None }

-- a joiner between SESS_INIT and SESS_TERM, with this transfer open
abbrev pub carrying : Option ℕ → Joiner
carrying transfer = record { initiated = true; terminated = false; transfer = transfer }

module _ (joiner : Joiner) (taken : List Message) (sent : Message)
    (joins : IsJoinerAt joiner taken)
    (may : refusal_by joiner.initiated joiner.terminated joiner.transfer (event_of sent) ≡ None)
  where
    pub may_come : refusal taken (event_of sent) ≡ None
    may_come = sym (refusal-at joiner taken (event_of sent) joins) ∙ may

    pub turn_at : effect_of taken (event_of sent) ≡ Some (turn_by joiner.transfer (event_of sent))
    turn_at =
        sym (effect-at joiner taken (event_of sent) joins false
        (not_stray joiner.initiated joiner.terminated joiner.transfer (event_of sent) may))

    pub joins_then : IsJoinerAt (joiner_after joiner (event_of sent)) (taken ++ sent ∷ [])
    joins_then = IsJoinerAt-then joiner taken sent (event_of sent) refl joins

-- ---- flags

pub ends_as : (first last : Bool) → is_end (flags_of first last) ≡ last
ends_as first last = grind arith

-- the transfer that is open before a segment, unless it is the first of its transfer, and after it,
-- unless it is the last
abbrev open_unless : (id : ℕ) (none : Bool) → Option ℕ
open_unless id none = if none then None else Some id

abbrev pub turn_for : (first last : Bool) → Turn
turn_for first last = if first then turn.Begin None last else turn.Continue last

-- the segments of its transfer before it, from those of the transfer that began last
abbrev back : (first : Bool) → List SegmentHead → List SegmentHead
back first so_far = if first then [] else so_far

segment_may : (first last : Bool) (id : ℕ)
    → refusal_by true false (open_unless id first) (Segment (flags_of first last) id) ≡ None
segment_may first last id = grind (arith, eq-eqb)

turns : (first last : Bool) (id : ℕ)
    → turn_by (open_unless id first) (Segment (flags_of first last) id) ≡ turn_for first last
turns first last id = grind (arith, ends_as, starts_as)

pub earlier_is : (first last : Bool) (so_far : List SegmentHead)
    → earlier_of (Some (turn_for first last)) so_far ≡ Some (back first so_far)
earlier_is first last so_far = grind arith

pub none_abandoned : (first last : Bool) → abandoned_by (Some (turn_for first last)) ≡ None
none_abandoned first last = grind arith

-- ---- the data so far

-- one more chunk
taken_more : (segment k : ℕ) (bundle : List ℕ)
    → take (k * segment) bundle ++ chunk_at segment k bundle ≡ take (suc k * segment) bundle
taken_more segment k bundle =
    sym (take-add (k * segment) segment bundle) ∙ ap (λ n. take n bundle) (omega arith)

taken_first : (segment : ℕ) (bundle : List ℕ)
    → chunk_at segment 0 bundle ≡ take (1 * segment) bundle
taken_first segment bundle =
    ap (λ n. take n bundle ++ chunk_at segment 0 bundle) {x = 0} {y = 0 * segment} (omega arith)
    ∙ taken_more segment 0 bundle

abbrev pub head_of : (id : ℕ) → BundleToCut → (k : ℕ) → SegmentHead
head_of id sending k = record {
  flags = flags_of (cut_at sending k).first (cut_at sending k).last;
  id = id;
  items = record { items = announced (cut_at sending k).announce };
  length = length (chunk_of sending k);
}

-- a transfer after `count` of its chunks were sent
abbrev pub sent : (id : ℕ) → BundleToCut → (count : ℕ) → (closed : Bool) → Transfer
sent id sending count closed = record {
  first = head_of id sending 0;
  content = take (count * sending.segment) sending.bundle;
  closed = closed;
}

later : (k : ℕ) → (suc k == 0) ≡ false
later k = ne_eqb (suc k) 0 (λ same. absurd (omega arith))

-- ---- a segment

-- no transfer is open, and their IDs are those below this one
pub record Between (next : ℕ) (taken : List Message) (before : List HeadWithOrder) : Type 0 where
  pub joins : IsJoinerAt (carrying None) taken
  pub is_open : HasOpenTransfer before
  pub ids : ids_of before ≡ counts next

module _ (id : ℕ) (sending : BundleToCut) where
  abbrev pub last_at : (k : ℕ) → Bool
  last_at k = (cut_at sending k).last

  abbrev pub segment_at : (k offset : ℕ) → Entry
  segment_at k offset = entry offset (message_of id sending k) (chunk_of sending k)

  -- the heads of the first `k` segments, the newest first
  abbrev pub heads_back : (k : ℕ) → List SegmentHead
  heads_back zero = []
  heads_back (suc k) = head_of id sending k ∷ heads_back k

  pub first_back : (k : ℕ)
      → first_segment (head_of id sending k) (heads_back k) ≡ head_of id sending 0
  first_back zero = refl
  first_back (suc k) = first_back k

  pub size_back : (k : ℕ)
      → size_of (heads_back k) ≡ length (take (k * sending.segment) sending.bundle)
  size_back zero = omega (arith, length-take (0 * sending.segment) sending.bundle)
  size_back (suc k) =
      omega (
        arith,
        size_back k,
        sum_by-cons (λ (segment : SegmentHead). segment.length) (head_of id sending k)
            (heads_back k),
        ap length (taken_more sending.segment k sending.bundle),
        length-append (take (k * sending.segment) sending.bundle) (chunk_of sending k),
      )

  -- the transfers before chunk number `k`
  abbrev pub so_far : (k : ℕ) → List Transfer → List Transfer
  so_far zero earlier = earlier
  so_far (suc k) earlier = sent id sending (suc k) false ∷ earlier

  pub chunk_sent : (k : ℕ) (earlier : List Transfer)
      → after_message (so_far k earlier) (message_of id sending k) (chunk_of sending k)
      ≡ sent id sending (suc k) (last_at k) ∷ earlier
  chunk_sent zero earlier =
      grind (arith, and-true, ends_as, eq-eqb, starts_as, taken_first, transfer_begins)
  chunk_sent (suc k) earlier =
      let other = later k in
      grind (arith, and-true, ends_as, eq-eqb, starts_as, taken_more, transfer_continues)

  -- before chunk number `k`
  pub record At (k : ℕ) (taken : List Message) (before : List HeadWithOrder) : Type 0 where
    pub joins : IsJoinerAt (carrying (open_unless id (k == 0))) taken
    pub is_open : HasOpenTransfer before
    pub ids : ids_of before ≡ counts (next_by id (k == 0))
    pub segments : back (k == 0) (segments_of before) ≡ heads_back k

  pub begins : {taken : List Message} {before : List HeadWithOrder}
      → Between id taken before → At 0 taken before
  begins at = record {
    joins = at.joins;
    is_open = at.is_open;
    ids = at.ids;
    segments = refl;
  }

  module _ (k offset : ℕ) (taken : List Message) (before : List HeadWithOrder)
      (at : At k taken before) where
    abbrev is_first : Bool
    is_first = k == 0

    abbrev its_message : Message
    its_message = message_of id sending k

    abbrev pub now : HeadWithOrder
    now = judged (head_at taken offset its_message)

    may : refusal_by true false (open_unless id is_first) (event_of its_message) ≡ None
    may = segment_may is_first (last_at k) id

    pub in_order : refusal taken (event_of its_message) ≡ None
    in_order = may_come (carrying (open_unless id is_first)) taken its_message at.joins may

    turn_is : effect_of taken (event_of its_message) ≡ Some (turn_for is_first (last_at k))
    turn_is =
        turn_at (carrying (open_unless id is_first)) taken its_message at.joins may
        ∙ ap (λ does. Some does) (turns is_first (last_at k) id)

    pub now_is : now ≡ record {
      message = its_message;
      fault = None;
      turn = Some (turn_for is_first (last_at k));
    }
    now_is = rw (in_order, turn_is) refl

    joined : IsJoinerAt (carrying (open_unless id (last_at k))) (taken ++ its_message ∷ [])
    joined =
        rw (ends_as is_first (last_at k)) at
        (joins_then (carrying (open_unless id is_first)) taken its_message at.joins may)

    opened : HasOpenTransfer (before ++ now ∷ [])
    opened = open_then before now at.is_open refl refl

    counted : ids_of (before ++ now ∷ []) ≡ counts (suc id)
    counted =
        ids_more before (last_at k) id (length (chunk_of sending k)) (cut_at sending k).announce
        is_first _ _ at.ids

    listed : segments_of (before ++ now ∷ []) ≡ heads_back (suc k)
    listed =
        rw (
          reverse-append before (now ∷ []),
          turn_is,
          earlier_is is_first (last_at k) (segments_of before),
          at.segments,
        ) refl

    -- the transfer is closed with it, or not
    pub ended : last_at k ≡ true → Between (suc id) (taken ++ its_message ∷ []) (before ++ now ∷ [])
    ended is = record {
      joins = rw (ap (open_unless id) is) at joined;
      is_open = opened;
      ids = counted;
    }

    pub goes : last_at k ≡ false → At (suc k) (taken ++ its_message ∷ []) (before ++ now ∷ [])
    goes is = record {
      joins = rw (later k) (rw (ap (open_unless id) is) at joined);
      is_open = opened;
      ids = rw (later k) counted;
      segments = rw (later k) listed;
    }
