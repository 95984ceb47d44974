-- `unpack` says of the events of a stream what the transfers of the stream make. If all heads are
-- in order, it makes no difference whether a fault of the order ends the run.
use Rattle.std.specs.List.{fold}
use Rattle.std.proofs.Common.{◌≡◌, inl, inr, List, [], ◌∷◌, ◌++◌, Option, Some, None, refl, ap, ⊎_elim, arith, true, false, append-nil, ℕ, Bool, ◌&&◌, if◌then◌else◌, sym, ◌∙◌}
use Rattle.std.proofs.{Math.Bool.and-true, Math.Path.fun_ext}
use Rattle.std.proofs.lemmas.{List.Concat.flat_map-append, List.Folds.list_all-append}
use Rattle.link_tool_option_types.specs.declared.wanted.Wanted.{Wanted}
use Rattle.link_wire.specs.Stream.{Entry, End, Reading, cut_heads, heads_of}
use Rattle.link_wire.specs.{declared.message.Message.Message, declared.message.Contact.Contact}
use Rattle.link_transfer.specs.{Event.event_of, declared.fault.OrderFault.OrderFault}
use Rattle.link_transfer.specs.declared.event.Event.{Event}
use Rattle.link_transfer.specs.Order.{refusal, is_stray, has_sess_init, has_sess_term, open_of, appended_unless, with_taken}
use Rattle.link_transfer.proofs.Joining.{not_stray as never_stray}
use Rattle.link_run.specs.Made.{StreamStop, Made, whole_by, so_far_by, shows_fault, stop_of, tool_of}
use Rattle.link_run.specs.Run.{Texts, Outcome, Tool}
use Rattle.link_run_over_transfers.specs.Walk.{WalkEvent, LeftOpen, Walked, with_next, contact_events, walked_of, end_events, told_by, told_of, stop_by, MessageHead, Whole}
use Rattle.link_run_over_transfers.specs.declared.consumer.Manner.{Manner}
use Rattle.link_run_judge.specs.Transfers.{Transfer, after_message}
use Rattle.link_run_judge.specs.Unpacking.{parts_of, unpack_tool, Told, told_after, unpack_telling, with_line, line_due, told_event}
use Rattle.link_run_judge.proofs.Events.{told_then, told_push}
use Rattle.link_tools_laws.specs.Transfers.{Ordered, ordered_by, ordered_after, ordered, transfers_of, settled, lines_of, abandoned_line, unpacking_by, UnpackedSoFar, with_head, unpacked_of, going_on_by, are_good, none_unpacked, made_of, by_transfers}
use Rattle.link_tools_laws.specs.Cuts.{entries_of, going_on, stopping, IsKeepGoingIdleIfInOrder}
use Rattle.link_tools_laws.proofs.Whole.{AreRead, FitsData, ReadingReads, reading_read}
use Rattle.link_tools_laws.proofs.OneHead.{lines_due, abandoned_due, settled_all, lines_are, all_good, goods_due, goods_are, KnowsWhole, added, through, heads_whole}
use Rattle.link_tools_laws.proofs.Walks.{going, judged_taken, events_at}

-- ---- the order of heads, and those before the first that is refused

abbrev pub all : List Entry → Ordered
all heads = record { heads = heads; refused = None }

-- all of these heads are in order
abbrev pub AreInOrder : List Entry → Type 0
AreInOrder heads = ordered heads ≡ all heads

-- if a list is in order, its first head is not refused, and the others are in order after it
pub first_may : (before : List Message) (head : Entry) (more : List Entry)
    → ordered_after before (head ∷ more) ≡ all (head ∷ more)
    → (refusal before (event_of head.message) ≡ None)
    × (ordered_after (before ++ head.message ∷ []) more ≡ all more)
unfolding ordered_after
first_may before head more is = grind arith

-- These heads have this order: those of it come first, and are in order themselves. If none is
-- refused, they are all heads.
pub record Kept (before : List Message) (heads : List Entry) (order : Ordered) : Type 0 where
  pub read : AreRead heads → AreRead order.heads
  pub again : ordered_after before order.heads ≡ all order.heads
  pub whole : order.refused ≡ None → order ≡ all heads
  pub none : heads ≡ [] → order.heads ≡ []
  -- the head that is refused, and those after it
  pub rest : List Entry
  pub parts : heads ≡ order.heads ++ rest

kept : (heads : List Entry) (before : List Message) → Kept before heads (ordered_after before heads)
unfolding ordered_after
kept [] before =
    record {
      read = λ read. tt;
      again = refl;
      whole = λ is. refl;
      none = λ is. refl;
      rest = [];
      parts = refl;
    }
kept (head ∷ more) before =
    let seen = before ++ head.message ∷ [] in
    let later = kept more seen in
    (elim (refusal before (event_of head.message)) as (λ refused.
    refusal before (event_of head.message) ≡ refused
    → Kept before (head ∷ more) (ordered_by refused head (ordered_after seen more))) [
      | Some fault ↦ λ is. record {
        read = λ read. tt;
        again = refl;
        whole = λ none. absurd (cc);
        none = λ none. refl;
        rest = head ∷ more;
        parts = refl;
      }
      | None ↦ λ is. record {
        read = λ read.
            (read.0, ⊎_elim inl (λ last. inr (later.none last)) read.1, later.read read.2);
        again = rw is (ap (ordered_by None head) later.again);
        whole = λ none. ap (ordered_by None head) (later.whole none);
        none = λ none. absurd (cc);
        rest = later.rest;
        parts = ap (λ heads. head ∷ heads) later.parts;
      }
    ]) refl

pub accepted_in_order : (heads : List Entry) → AreInOrder (ordered heads).heads
unfolding ordered
accepted_in_order heads = (kept heads []).again

pub all_kept : (heads : List Entry) → Kept [] heads (ordered heads)
unfolding ordered
all_kept heads = kept heads []

-- ---- heads that are all in order

-- a stray segment has a fault
pub not_stray : (before : List Message) (happened : Event) → refusal before happened ≡ None
    → is_stray before happened ≡ false
unfolding refusal is_stray
not_stray before happened may =
    never_stray (has_sess_init before) (has_sess_term before) (open_of before) happened may

pub taken_more : (before : List Message) (sent : Message)
    → is_stray before (event_of sent) ≡ false → with_taken before sent ≡ before ++ sent ∷ []
unfolding with_taken
taken_more before sent taken = ap (λ stray. appended_unless stray before sent) taken

abbrev pub after_all : List Transfer → List Entry → List Transfer
after_all transfers heads =
    fold (λ ts head. after_message ts head.message head.content) transfers heads

module _ (wanted : Wanted) where
  -- The heads so far are in order, and so are those to come. All together make these transfers.
  pub record MadeInOrder (makes : List Transfer) (u : UnpackedSoFar) (more : List Entry) : Type 0 where
    pub in_order : u.in_order ≡ true
    pub report : u.report ≡ lines_of wanted (settled u.transfers)
    pub rest : ordered_after u.taken more ≡ all more
    pub made : after_all u.transfers more ≡ makes

  in_order_step : (makes : List Transfer) (u : UnpackedSoFar) (head : Entry) (more : List Entry)
      → KnowsWhole u → FitsData head → MadeInOrder makes u (head ∷ more)
      → MadeInOrder makes (with_head wanted u head) more
  in_order_step makes u head more whole fits so =
      let first = first_may u.taken head more so.rest in
      let taken = not_stray u.taken (event_of head.message) first.0 in
      let new = added wanted u head whole fits in
      record {
        in_order = rw (first.0, so.in_order) refl;
        report = grind (arith, append-nil, flat_map-append, lines_are);
        rest = rw (taken_more u.taken head.message taken) first.1;
        made = rw taken so.made;
      }

  pub unpacked_in_order : (heads : List Entry) → AreRead heads → AreInOrder heads
      → MadeInOrder (transfers_of heads) (unpacked_of wanted heads) []
  unfolding ordered transfers_of lines_of
  unpacked_in_order heads read are =
      through wanted (MadeInOrder (transfers_of heads)) (in_order_step (transfers_of heads)) heads
      read
      (record { in_order = refl; report = refl; rest = are; made = refl })

  -- the lines of the transfers that are over, and then that of the open one
  lines_abandoned : (transfers : List Transfer)
      → lines_of wanted (settled transfers) ++ abandoned_line wanted transfers
      ≡ lines_of wanted transfers
  lines_abandoned transfers =
      rw (lines_are wanted transfers, ← settled_all wanted transfers)
      (grind (arith, abandoned_due, flat_map-append, lines_are, lines_due))

  pub made_in_order : (end : End) (heads : List Entry) → AreRead heads → AreInOrder heads
      → unpacking_by wanted end (ordered heads)
      ≡ going_on_by wanted end (unpacked_of wanted heads)
  made_in_order end heads read are = grind (arith, and-true, lines_abandoned, unpacked_in_order)

-- ---- heads that are taken, whether or not they are in order

abbrev manner : Bool → Manner
manner goes_on = record { goes_on = goes_on; all_heads = false }

abbrev started : List Message → List WalkEvent → Walked
started taken events = record { taken = taken; events = events; refused = None }

abbrev walk_from : Manner → Walked → List Entry → Walked
walk_from manner from heads = fold (with_next manner) from heads

module _ (wanted : Wanted) (all_heads : Bool) where
  abbrev settled_good : UnpackedSoFar → Bool
  settled_good u = all_good (entries_of wanted (settled u.transfers))

  -- what is said of the heads that have made this
  abbrev pub said : UnpackedSoFar → Told
  said u =
      record { transfers = u.transfers; report = u.report; good = settled_good u && u.in_order }

  -- The walk has come to this, and then the other heads follow.
  record TellsAll (all : Walked) (u : UnpackedSoFar) (more : List Entry) : Type 0 where
    pub events : List WalkEvent
    pub told : told_after wanted events ≡ said u
    pub walked : walk_from (going all_heads) (started u.taken events) more ≡ all

  tells_step : (all : Walked) (u : UnpackedSoFar) (head : Entry) (more : List Entry) → KnowsWhole u
      → FitsData head → TellsAll all u (head ∷ more) → TellsAll all (with_head wanted u head) more
  tells_step all u head more whole fits so =
      let new = added wanted u head whole fits in
      let refused = refusal u.taken (event_of head.message) in
      record {
        events = so.events ++ events_at all_heads u.taken head;
        told =
            rw (
              told_push wanted so.events (events_at all_heads u.taken head),
              so.told,
              new.told all_heads,
            ) (grind (arith, list_all-append));
        walked = cc (judged_taken all_heads refused (started u.taken so.events) head, so.walked);
      }

  none_told : (contact : Option Contact)
      → told_after wanted (contact_events contact) ≡ said none_unpacked
  unfolding told_after entries_of
  none_told contact = grind arith

  heads_tell : (contact : Option Contact) (heads : List Entry) → AreRead heads
      → TellsAll (walked_of (going all_heads) contact heads) (unpacked_of wanted heads) []
  unfolding walked_of
  heads_tell contact heads read =
      let all = walk_from (going all_heads) (started [] (contact_events contact)) heads in
      through wanted (TellsAll all) (tells_step all) heads read
      (record { events = contact_events contact; told = none_told contact; walked = refl })

  -- all that is said of a stream that goes on, before its end
  pub heads_said : (contact : Option Contact) (heads : List Entry) → AreRead heads
      → told_after wanted (walked_of (going all_heads) contact heads).events
      ≡ said (unpacked_of wanted heads)
  heads_said contact heads read =
      let tells = heads_tell contact heads read in
      ap (λ (w : Walked). told_after wanted w.events) (sym tells.walked) ∙ tells.told

-- ---- a run that ends at a fault of the order

-- the walk ends at this fault, if there is one
abbrev ended_at : Option (ℕ × OrderFault) → Walked → Walked
ended_at refused walked = record walked { refused = refused }

ended_stays : (more : List Entry) (from : Walked) (fault : ℕ × OrderFault)
    → walk_from (manner false) (ended_at (Some fault) from) more ≡ ended_at (Some fault) from
ended_stays [] from fault = refl
ended_stays (head ∷ more) from fault = ended_stays more from fault

-- the walk over the heads that are in order, which ends at the first that is not
ordered_walk : (heads : List Entry) (taken : List Message) (events : List WalkEvent)
    → (let order = ordered_after taken heads in
    walk_from (manner false) (started taken events) heads
    ≡ ended_at order.refused (walk_from (manner true) (started taken events) order.heads))
unfolding ordered_after
ordered_walk [] taken events = refl
ordered_walk (head ∷ more) taken events =
    grind (
      arith,
      ended_stays,
      judged_taken,
      not_stray,
      taken_more,
      ordered_walk more (with_taken taken head.message) (events ++ events_at false taken head),
    )

-- ---- what is made of a stream

-- The tools of these two are the same: after a fault, the end of the stream is of no account.
record SameMade (one other : Made) : Type 0 where
  pub stop : one.stop ≡ other.stop
  pub texts : one.texts ≡ other.texts
  pub clean : one.stop ≡ None → (one.ended ≡ other.ended) × (one.good ≡ other.good)

-- what the tool has of what is made
abbrev tool_parts : Made → Outcome × Texts × Bool
tool_parts made =
    (whole_by made.stop made, so_far_by made.stop made.texts, shows_fault made.stop)

same_parts : (one other : Made) → SameMade one other → (stop : Option StreamStop) → one.stop ≡ stop
    → tool_parts one ≡ tool_parts other
same_parts one other same stop is = grind arith

pub clean_end : (end : End) → stop_of end ≡ None → cut_heads end ≡ []
clean_end end none = grind arith

module _ (wanted : Wanted) where
  abbrev walk_made : Bool → Reading → Made
  walk_made goes_on reading =
      told_by (unpack_telling wanted) reading.end
      (walked_of (manner goes_on) reading.contact (heads_of reading))

  abbrev text_of : Told → Texts
  text_of told = record { output = parts_of wanted told.transfers; report = told.report }

  -- ---- the end of a stream

  abbrev at_end : UnpackedSoFar → Told
  at_end unpacked = record {
    transfers = unpacked.transfers;
    report = unpacked.report ++ abandoned_line wanted unpacked.transfers;
    good = are_good unpacked.transfers && unpacked.in_order;
  }

  end_by : (opened : Bool) (transfers : List Transfer) (report : List ℕ) (good : Bool)
      → (let told : Told = record { transfers = transfers; report = report; good = good } in
      told_then wanted told (if opened then LeftOpen ∷ [] else []) ≡ with_line wanted opened told)
  end_by opened transfers report good = grind (arith, and-true, append-nil)

  end_said : (u : UnpackedSoFar) → KnowsWhole u
      → told_then wanted (said wanted false u) (end_events u.taken) ≡ at_end u
  end_said u whole =
      rw (← whole, end_by, goods_are wanted u.transfers, ← settled_all wanted u.transfers)
      (grind (arith, goods_due, list_all-append))

  module _ (all_heads : Bool) (walked : Walked) (u : UnpackedSoFar)
      (tells : TellsAll wanted all_heads walked u []) where
    unrefused : walked.refused ≡ None
    unrefused = ap (λ (w : Walked). w.refused) (sym tells.walked)

    walked_told : told_after wanted walked.events ≡ said wanted all_heads u
    walked_told = ap (λ (w : Walked). told_after wanted w.events) (sym tells.walked) ∙ tells.told

    end_told : KnowsWhole u
        → told_after wanted (walked.events ++ end_events walked.taken) ≡ at_end u
    end_told whole = grind (arith, end_said, told_push, walked_told)

  -- ---- both kinds of runs

  module _ (reading : Reading) (reads : ReadingReads reading) where
    abbrev heads : List Entry
    heads = heads_of reading

    whole_heads : stop_of reading.end ≡ None → KnowsWhole (unpacked_of wanted heads)
    whole_heads none =
        heads_whole wanted heads reads.heads
        (rw (clean_end reading.end none, append-nil) reads.whole)

    going_same : SameMade (walk_made true reading)
        (going_on_by wanted reading.end (unpacked_of wanted heads))
    going_same =
        let tells = heads_tell wanted false reading.contact heads reads.heads in
        let stop = ap (λ r. stop_by r reading.end) (unrefused false _ _ tells) in
        record {
          stop = stop;
          texts = ap text_of (walked_told false _ _ tells);
          clean = λ none.
              let told = end_told false _ _ tells (whole_heads (sym stop ∙ none)) in
              (ap text_of told, ap (λ (t : Told). t.good) told);
        }

    abbrev order : Ordered
    order = ordered heads

    kept_heads : AreRead order.heads
    kept_heads = (all_kept heads).read reads.heads

    walked_ordered : walked_of (manner false) reading.contact heads
        ≡ ended_at order.refused (walked_of (manner true) reading.contact order.heads)
    unfolding walked_of ordered
    walked_ordered = ordered_walk heads [] (contact_events reading.contact)

    -- no head is refused, so it makes no difference whether that would end the run
    pub walked_same : order.refused ≡ None
        → walked_of (manner false) reading.contact heads
        ≡ walked_of (manner true) reading.contact heads
    walked_same none =
        let tells = heads_tell wanted false reading.contact heads reads.heads in
        cc (walked_ordered, (all_kept heads).whole none, unrefused false _ _ tells)

    -- if the walk ends at no head, all heads are in order
    pub none_refused : (walked_of (manner false) reading.contact heads).refused ≡ None
        → AreInOrder heads
    none_refused unrefused =
        (all_kept heads).whole (ap (λ (w : Walked). w.refused) (sym walked_ordered) ∙ unrefused)

    -- all that is said of a stream that goes on and ends without a fault
    pub every_told : (all_heads : Bool) → stop_of reading.end ≡ None
        → (let was = walked_of (going all_heads) reading.contact heads in
        told_after wanted (was.events ++ end_events was.taken) ≡ at_end (unpacked_of wanted heads))
    every_told all_heads none =
        end_told all_heads _ _ (heads_tell wanted all_heads reading.contact heads reads.heads)
        (whole_heads none)

    -- the same of a stream that might end at a fault of the order
    pub clean_told : (walked_of (manner false) reading.contact heads).refused ≡ None
        → stop_of reading.end ≡ None
        → (let was = walked_of (manner false) reading.contact heads in
        told_after wanted (was.events ++ end_events was.taken) ≡ at_end (unpacked_of wanted heads))
    clean_told unrefused none =
        let in_order = ap (λ (w : Walked). w.refused) (sym walked_ordered) ∙ unrefused in
        rw (walked_same in_order) (every_told false none)

    ending_same : (refused : Option (ℕ × OrderFault)) → order.refused ≡ refused
        → SameMade (walk_made false reading) (unpacking_by wanted reading.end order)
    ending_same None is =
        grind (arith, (all_kept heads).whole, going_same, made_in_order, walked_same)
    ending_same (Some fault) is =
        let tells = heads_tell wanted false reading.contact order.heads kept_heads in
        let so = unpacked_in_order wanted order.heads kept_heads (accepted_in_order heads) in
        rw walked_ordered (record {
          stop = rw is refl;
          texts = ap text_of (walked_told false _ _ tells) ∙ rw (so.report, so.made) refl;
          clean = λ none. absurd (let never = rw is at none in cc);
        })

    same_by : (goes_on : Bool)
        → SameMade (walk_made goes_on reading) (made_of goes_on wanted reading)
    same_by true = going_same
    same_by false = ending_same order.refused refl

  -- `unpack` says of the events of a stream what the transfers of the stream make
  pub same_tool : unpack_tool wanted ≡ tool_of (by_transfers wanted)
  unfolding told_of by_transfers
  same_tool = grind (arith, fun_ext, reading_read, same_by, same_parts)

  pub whole_is : (bytes : List ℕ) → (unpack_tool wanted).whole bytes
      ≡ whole_by (by_transfers wanted bytes).stop (by_transfers wanted bytes)
  whole_is bytes = ap (λ (t : Tool). t.whole bytes) same_tool

-- ---- streams in order

module _ (wanted : Wanted) where
  parts_same : (transfers : List Transfer)
      → parts_of (going_on wanted) transfers ≡ parts_of (stopping wanted) transfers
  unfolding parts_of
  parts_same transfers = grind arith

  line_same : (due : Bool) (transfers : List Transfer)
      → line_due (going_on wanted) due transfers ≡ line_due (stopping wanted) due transfers
  line_same due transfers = grind (arith, parts_same)

  event_same : (told : Told) (event : WalkEvent)
      → told_event (going_on wanted) told event ≡ told_event (stopping wanted) told event
  event_same told (MessageHead head) = rw (line_same, line_same) refl
  event_same told Whole = rw line_same refl
  event_same told LeftOpen = rw line_same refl
  event_same told event = refl

  told_same : (events : List WalkEvent)
      → told_after (going_on wanted) events ≡ told_after (stopping wanted) events
  unfolding told_after
  told_same events =
      cc (fun_ext (λ told. fun_ext (event_same told)))

  made_same : (end : End) (walked : Walked) → told_by (unpack_telling (going_on wanted)) end walked
      ≡ told_by (unpack_telling (stopping wanted)) end walked
  made_same end walked = rw (told_same, told_same, parts_same, parts_same) refl

  pub same : (bytes : List ℕ) → IsKeepGoingIdleIfInOrder wanted bytes
  unfolding told_of
  same bytes none = grind (arith, made_same, reading_read, walked_same)
