-- The walk of a reading that goes on: with a head, with data of a segment, or with quiet messages.
use Rattle.std.proofs.Common.{◌≡◌, ℕ, ◌+◌, ◌<◌, Bool, true, false, not, ◌&&◌, ◌||◌, ◌==◌, nat_lt, is_some, All, List, [], ◌∷◌, ◌++◌, length, Option, Some, None, if◌then◌else◌, refl, ap, sym, ◌∙◌, append-nil, append_assoc, length-append, arith}
use Rattle.std.specs.List.{fold}
use Rattle.std.proofs.lemmas.Bool.{and_right, Decides.nat_tests}
use Rattle.std.proofs.lemmas.{Grind.fold-append, List.map-append}
use Rattle.std.proofs.lemmas.List.Elements.{All-head, All-tail}
use Rattle.link_wire.specs.{Message.data_length, Session.{joined, with_message, with_data, IsSizeOfDataLeft}}
use Rattle.link_wire.specs.Stream.{Entry, End, Clean, Cut, Fault, Stream, ended, with_entry, Reading, heads_of}
use Rattle.link_wire.specs.{Whole.{is_quiet, IsQuiet}, declared.message.Contact.Contact}
use Rattle.link_wire.specs.declared.message.Message.{Message}
use Rattle.link_transfer.specs.{Event.event_of, Joiner.IsJoinerAt}
use Rattle.link_transfer.specs.Order.{effect_of, open_of, refusal, with_taken}
use Rattle.link_transfer.specs.declared.event.Event.TheVariants as event
use Rattle.link_transfer.specs.declared.{fault.OrderFault.OrderFault, joiner.Joiner.Joiner}
use Rattle.link_transfer.specs.declared.joiner.Turn.{Turn}
use Rattle.link_transfer.specs.declared.joiner.Turn.TheVariants as turn
use Rattle.link_transfer.proofs.Joining.{IsJoinerAt-then, refusal-at, effect-at, taken-at}
use Rattle.link_run_over_transfers.specs.Walk.{Head, head_at, is_last, is_beginning, closes, is_plain, WalkEvent, MessageHead, Data, Whole, data_events, open_with, open_after_event, has_open, Walked, head_events, content_events, contact_events, taken_with, with_judged, with_entry_unless, with_next, none_walked, walked_of, walked, Telling}
use Rattle.link_run_over_transfers.specs.declared.consumer.Manner.{Manner}
use Rattle.link_run_over_transfers.specs.WalkRun.{stage_in, stage_by, StageFits, is_open_at, walked_before, IsWalkAtReading}
use Rattle.link_run_over_transfers.specs.declared.walk.Stage.{Stage}
use Rattle.link_run_over_transfers.specs.declared.walk.Stage.TheVariants as stage
use Rattle.link_run_over_transfers.proofs.Heads.{entry, heads_clean, with_head, heads_with, other_has_none, continues_some, open_then, has_open-append, data_keeps}

-- ---- one more head

walked_all : (manner : Manner) (contact : Option Contact) (heads more : List Entry)
    → walked_of manner contact (heads ++ more)
    ≡ fold (with_next manner) (walked_of manner contact heads) more
unfolding walked_of
walked_all manner contact heads more =
    fold-append (with_next manner) (none_walked contact) heads more

-- The walk goes on after this message: after any fault of the order, or since there is none.
abbrev pub MayTake : Manner → List Message → Message → Type 0
MayTake manner before sent = manner.goes_on ≡ false → refusal before (event_of sent) ≡ None

module _ (manner : Manner) (before : Walked) (head : Entry) where
  judged_taken : (refused : Option OrderFault) → (manner.goes_on ≡ false → refused ≡ None)
      → with_judged refused manner before head ≡ taken_with manner before head
  judged_taken refused may = grind arith

  next_taken : before.refused ≡ None → MayTake manner before.taken head.message
      → with_next manner before head ≡ taken_with manner before head
  next_taken unrefused may =
      ap (λ r. with_entry_unless r manner before head) unrefused
      ∙ judged_taken (refusal before.taken (event_of head.message)) may

  next_refused : (fault : OrderFault) → before.refused ≡ None → manner.goes_on ≡ false
      → refusal before.taken (event_of head.message) ≡ Some fault
      → with_next manner before head ≡ record before { refused = Some (head.offset, fault) }
  next_refused fault unrefused stops refused =
      ap (λ r. with_entry_unless r manner before head) unrefused
      ∙ ap (λ r. with_judged r manner before head) refused ∙ rw stops refl

  may_by : (refused : Option OrderFault)
      → (with_judged refused manner before head).refused ≡ None → manner.goes_on ≡ false
      → refused ≡ None
  may_by refused is stops = grind arith

  taken_by : (refused : Option (ℕ × OrderFault)) → before.refused ≡ refused
      → (with_entry_unless refused manner before head).refused ≡ None
      → (before.refused ≡ None) × MayTake manner before.taken head.message
  taken_by refused was is = grind (arith, may_by (refusal before.taken (event_of head.message)))

-- ---- the state, by what the heads have told

-- these events have come, and the walk is at this stage
pub record HasEvents (events : List WalkEvent) (now : Stage) (joiner : Joiner) (told : Walked)
    : Type 0 where
  pub unrefused : told.refused ≡ None
  pub judges : IsJoinerAt joiner told.taken
  pub known : told.events ≡ events
  pub opened : has_open events ≡ is_open_at now told.taken

-- a reading tells exactly these events
pub record TellsEvents (telling : Telling) (now : Stage) (joiner : Joiner) (reading : Reading)
    (events : List WalkEvent) : Type 0 where
  pub has : HasEvents events now joiner (walked telling.manner reading)
  pub fits : StageFits now (walked_before telling.manner reading) reading.end

module _ {telling : Telling} {now : Stage} {joiner : Joiner} {reading : Reading} where
  pub told_at : {knows : List WalkEvent → Type 0} → IsWalkAtReading telling knows now joiner reading
      → TellsEvents telling now joiner reading (walked telling.manner reading).events
  told_at at = record {
    has = record {
      unrefused = at.unrefused;
      judges = at.judges;
      known = refl;
      opened = at.opened;
    };
    fits = at.fits;
  }

  pub knows_at : {events : List WalkEvent} → TellsEvents telling now joiner reading events
      → (knows : List WalkEvent → Type 0) → knows events → IsWalkAtReading telling knows now joiner reading
  knows_at at knows known = record {
    unrefused = at.has.unrefused;
    judges = at.has.judges;
    known = rw at.has.known known;
    opened = rw at.has.known at.has.opened;
    fits = at.fits;
  }

in_segment : (effect : Option Turn)
    → (stage.Message ≡ stage_in effect → ⊥) × (stage.Contact ≡ stage_in effect → ⊥)
in_segment None = (λ is. cc, λ is. cc)
in_segment (Some effect) = (λ is. cc, λ is. cc)

-- no bytes that were given wait for the contact header
pub never_contact : (before : Walked) (end : End) → StageFits stage.Contact before end → ⊥
never_contact before end fits = grind arith

clean_by : (before : Walked) (end : End) → StageFits stage.Message before end → end ≡ Clean
clean_by before end fits = grind arith

-- before the head of a message, the reading ends between two messages
pub at_clean : {telling : Telling} {joiner : Joiner} {reading : Reading}
    {events : List WalkEvent} → TellsEvents telling stage.Message joiner reading events
    → reading.end ≡ Clean
at_clean {telling} {joiner} {reading} at =
    clean_by (walked_before telling.manner reading) reading.end at.fits

-- the contact header has come
pub contact_comes : (telling : Telling) (joiner : Joiner) (contact : Contact) → IsJoinerAt joiner []
    → TellsEvents telling stage.Message joiner
    (record { contact = Some contact; entries = []; end = Clean }) (contact_events (Some contact))
unfolding walked_of has_open open_of
contact_comes telling joiner contact judges =
    record {
      has = record { unrefused = refl; judges = judges; known = refl; opened = refl };
      fits = refl;
    }

fits_with : (manner : Manner) (contact : Option Contact) (entries : List Entry) (offset : ℕ)
    (sent : Message) (content : List ℕ) (left : ℕ)
    → (let rest : Stream = if nat_lt 0 left then ended (Cut offset sent content)
    else with_entry (entry offset sent content) (ended Clean) in
    StageFits (stage_by (effect_of (walked_of manner contact entries).taken (event_of sent)) left)
    (walked_of manner contact (entries ++ rest.entries)) rest.end)
fits_with manner contact entries offset sent content left =
    grind (arith, nat_tests, append-nil {A = Entry})

-- a head has come after the whole messages of a reading
with_comes : (telling : Telling) (joiner : Joiner) (reading : Reading) (offset : ℕ)
    (sent : Message) (content : List ℕ) (left : ℕ) {events : List WalkEvent} (was : Walked)
    → was ≡ walked_before telling.manner reading
    → HasEvents events (stage_by (effect_of was.taken (event_of sent)) left) joiner
    (with_next telling.manner was (entry offset sent content))
    → TellsEvents telling (stage_by (effect_of was.taken (event_of sent)) left) joiner
    (with_head reading offset sent content left) events
with_comes telling joiner reading offset sent content left {events} was same has =
    let manner = telling.manner in
    let head = entry offset sent content in
    record {
      has = rw (
        heads_with reading offset sent content left,
        walked_all manner reading.contact reading.entries (head ∷ []),
        ← same,
      ) has;
      fits = rw same (fits_with manner reading.contact reading.entries offset sent content left);
    }

-- ---- the head of a message

-- a plain head that is no event leaves the same transfer open
pub plain_open : (all in_order : Bool) (effect : Option Turn) (closing was : Bool)
    → ((last : Bool) → effect ≡ Some (turn.Continue last) → was ≡ true)
    → (all || not (in_order && (not (is_beginning effect) && not closing))) ≡ false
    → was ≡ open_with effect closing was
plain_open all in_order effect closing was continues is = grind arith

pub open_if : (told : Bool) (head : Head) (was : Bool)
    → (told ≡ false → was ≡ open_with head.turn (closes head) was)
    → fold open_after_event was (if told then MessageHead head ∷ [] else [])
    ≡ open_with head.turn (closes head) was
open_if told head was same = grind arith

module _ (was : Bool) (taken : List Message) where
  -- the same transfers are open at the stage that comes next
  open_stage : (effect : Option Turn) (size : ℕ)
      → is_some (open_of taken) ≡ open_with effect (is_last effect) was
      → (effect ≡ Some turn.Other → size ≡ 0)
      → open_with effect (is_last effect && (size == 0)) was
      ≡ is_open_at (stage_by effect size) taken
  open_stage effect size after other = grind (arith, nat_tests)

abbrev whole_events : Bool → List WalkEvent
whole_events test = if test then Whole ∷ [] else []

-- nothing of its data has come
no_content : (effect : Option Turn) (size : ℕ) → content_events effect size [] ≡ []
no_content effect size = grind (arith, nat_tests)

module _ (manner : Manner) (was : Walked) (old new : Joiner) {events : List WalkEvent}
    (has : HasEvents events stage.Message old was) (head : Entry)
    (may : MayTake manner was.taken head.message)
    (judges : IsJoinerAt new (with_taken was.taken head.message)) where
  abbrev here : Head
  here = head_at was.taken head.offset head.message

  abbrev told : List WalkEvent
  told = head_events manner.all_heads here

  head_opened : has_open (events ++ told)
      ≡ is_open_at (stage_by here.turn (data_length head.message))
      (with_taken was.taken head.message)
  head_opened =
      let was_open = is_some (open_of was.taken) in
      rw (has_open-append events told, has.opened)
      (open_if (manner.all_heads || not (is_plain here)) here was_open
      (plain_open manner.all_heads (not (is_some here.fault)) here.turn (closes here) was_open
      (continues_some was.taken (event_of head.message)))
      ∙ open_stage was_open (with_taken was.taken head.message) here.turn
      (data_length head.message) (open_then was.taken head.message)
      (other_has_none was.taken head.message))

  -- the walk takes it
  head_has : (all : List WalkEvent) (later : Stage) → events ++ told ≡ all
      → stage_by here.turn (data_length head.message) ≡ later
      → content_events here.turn (data_length head.message) head.content ≡ []
      → HasEvents all later new (with_next manner was head)
  head_has all later all_is later_is none =
      rw (next_taken manner was head has.unrefused may) (record {
        unrefused = refl;
        judges = judges;
        known = rw (none, append-nil, has.known) all_is;
        opened = rw (← all_is, ← later_is) head_opened;
      })

module _ (telling : Telling) (old : Joiner) {reading : Reading} {events : List WalkEvent}
    (at : TellsEvents telling stage.Message old reading events) (offset : ℕ) (sent : Message) where
  abbrev had : Walked
  had = walked telling.manner reading

  abbrev does : Option Turn
  does = effect_of had.taken (event_of sent)

  had_is : had ≡ walked_before telling.manner reading
  had_is = ap (walked_of telling.manner reading.contact) (heads_clean reading (at_clean at))

  -- the state after a head that the walk takes
  pub head_comes : (new : Joiner) (after : Reading) → after ≡ with_message offset sent reading
      → MayTake telling.manner had.taken sent → IsJoinerAt new (with_taken had.taken sent)
      → TellsEvents telling (stage_by does (data_length sent)) new after
      (events ++ head_events telling.manner.all_heads (head_at had.taken offset sent))
  head_comes new after is may judges =
      rw is
      (with_comes telling new reading offset sent [] (data_length sent) had had_is
      (head_has telling.manner had old new at.has (entry offset sent []) may judges _ _ refl refl
      (no_content does (data_length sent))))

  -- the run ends at it
  pub head_refused : (fault : OrderFault) → telling.manner.goes_on ≡ false
      → refusal had.taken (event_of sent) ≡ Some fault
      → walked telling.manner (with_message offset sent reading)
      ≡ record had { refused = Some (offset, fault) }
  head_refused fault stops refused =
      let manner = telling.manner in
      let head = entry offset sent [] in
      rw (
        heads_with reading offset sent [] (data_length sent),
        walked_all manner reading.contact reading.entries (head ∷ []),
        ← had_is,
      )
      (next_refused manner had head fault at.has.unrefused stops refused)

-- ---- data of a segment

-- the events of data at this stage, if `left` bytes of the segment's data are to come
abbrev pub told_in : Stage → (left : ℕ) → (bytes : List ℕ) → List WalkEvent
told_in (stage.Data last) left bytes =
    data_events bytes ++ (if last && (left == 0) then Whole ∷ [] else [])
told_in other left bytes = []

module _ (content bytes : List ℕ) (left size : ℕ)
    (is : size ≡ length content + (length bytes + left)) (some : 0 < length bytes) where
  not_yet : (not (size == 0) && (length content == size)) ≡ false
  not_yet = grind (arith, nat_tests)

  now_whole : (not (size == 0) && (length (content ++ bytes) == size)) ≡ (left == 0)
  now_whole = grind (arith, nat_tests, length-append {A = ℕ})

  more_by : (last : Bool)
      → data_events (content ++ bytes)
      ++ whole_events (last && (not (size == 0) && (length (content ++ bytes) == size)))
      ≡ (data_events content
      ++ whole_events (last && (not (size == 0) && (length content == size))))
      ++ (data_events bytes ++ whole_events (last && (left == 0)))
  more_by last =
      rw (
        now_whole,
        not_yet,
        and_right last false refl,
        append-nil (data_events content),
        map-append Data content bytes,
      )
      (append_assoc (data_events content) (data_events bytes) (whole_events (last && (left == 0))))

  content_more : (effect : Option Turn) → (effect ≡ Some turn.Other → ⊥)
      → content_events effect size (content ++ bytes)
      ≡ content_events effect size content ++ told_in (stage_in effect) left bytes
  content_more None other = refl
  content_more (Some turn.Other) other = absurd (other refl)
  content_more (Some effect) other = more_by (is_last (Some effect))

whole_open : (test was : Bool) → was ≡ true
    → fold open_after_event was (whole_events test) ≡ not test
whole_open test was is = grind arith

more_open : (effect : Option Turn) (left : ℕ) (bytes : List ℕ) (was first : Bool)
    (taken : List Message) → was ≡ is_open_at (stage_in effect) taken
    → is_some (open_of taken) ≡ open_with effect (is_last effect) first
    → (effect ≡ Some turn.Other → ⊥)
    → fold open_after_event was (told_in (stage_in effect) left bytes)
    ≡ open_with effect (is_last effect && (left == 0)) first
more_open None left bytes was first taken is opened other = is ∙ opened
more_open (Some turn.Other) left bytes was first taken is opened other = absurd (other refl)
more_open (Some effect) left bytes was first taken is opened other =
    let test : Bool = is_last (Some effect) && (left == 0) in
    fold-append open_after_event was (data_events bytes) (whole_events test)
    ∙ ap (λ b. fold open_after_event b (whole_events test)) (data_keeps was bytes)
    ∙ whole_open test was is

-- more data of the last head has come
data_has : (manner : Manner) (before : Walked) (joiner : Joiner) {events : List WalkEvent}
    (offset : ℕ) (sent : Message) (content bytes : List ℕ) (left : ℕ)
    → data_length sent ≡ length content + (length bytes + left) → 0 < length bytes
    → HasEvents events (stage_in (effect_of before.taken (event_of sent))) joiner
    (with_next manner before (entry offset sent content))
    → HasEvents (events ++ told_in (stage_in (effect_of before.taken (event_of sent))) left bytes)
    (stage_by (effect_of before.taken (event_of sent)) left) joiner
    (with_next manner before (entry offset sent (content ++ bytes)))
data_has manner before joiner {events} offset sent content bytes left size some has =
    let does : Option Turn = effect_of before.taken (event_of sent) in
    let more : List WalkEvent = told_in (stage_in does) left bytes in
    let heads : List WalkEvent = head_events manner.all_heads (head_at before.taken offset sent) in
    let had : List WalkEvent = content_events does (data_length sent) content in
    let other : does ≡ Some turn.Other → ⊥ =
    λ is. let none = other_has_none before.taken sent is in omega arith in
    let head = entry offset sent content in
    let since = taken_by manner before head before.refused refl has.unrefused in
    let was = rw (next_taken manner before head since.0 since.1) at has in
    let opened = open_then before.taken sent in
    rw (next_taken manner before (entry offset sent (content ++ bytes)) since.0 since.1) (record {
      unrefused = refl;
      judges = was.judges;
      known = rw (
        content_more content bytes left (data_length sent) size some does other,
        ← append_assoc heads had more,
        ← append_assoc before.events (heads ++ had) more,
        was.known,
      );
      opened = has_open-append events more
          ∙ more_open does left bytes (has_open events) (is_some (open_of before.taken))
          (with_taken before.taken sent) was.opened opened other
          ∙ open_stage (is_some (open_of before.taken)) (with_taken before.taken sent) does left
          opened (λ is. absurd (other is));
    })

-- segments at the same stage are at the same stage later
later_is : (effect other : Option Turn) (left : ℕ) → stage_in effect ≡ stage_in other
    → stage_by effect left ≡ stage_by other left
later_is effect other left is = grind arith

module _ (telling : Telling) (effect : Option Turn) {joiner : Joiner} {reading after : Reading}
    {events : List WalkEvent} (at : TellsEvents telling (stage_in effect) joiner reading events)
    (from left : ℕ) (bytes : List ℕ) (is : after ≡ with_data left bytes reading)
    (some : 0 < length bytes) where
  data_by : (end : End) → reading.end ≡ end
      → StageFits (stage_in effect) (walked_before telling.manner reading) end
      → IsSizeOfDataLeft from (length bytes + left) end
      → TellsEvents telling (stage_by effect left) joiner after
      (events ++ told_in (stage_in effect) left bytes)
  data_by Clean ends fits to_come = absurd ((in_segment effect).0 (sym fits))
  data_by (Cut offset sent content) ends fits to_come =
      let before = walked_before telling.manner reading in
      let head = entry offset sent content in
      rw (
        is,
        ends,
        later_is effect (effect_of before.taken (event_of sent)) left fits,
        fits,
      )
      (with_comes telling joiner reading offset sent (content ++ bytes) left before refl
      (data_has telling.manner before joiner offset sent content bytes left to_come.2 some
      (rw (ends, walked_all telling.manner reading.contact reading.entries (head ∷ []), fits)
      at at.has)))
  data_by (Fault offset fault) ends fits to_come = absurd fits

  -- data of a segment has come
  pub data_comes : IsSizeOfDataLeft from (length bytes + left) reading.end
      → TellsEvents telling (stage_by effect left) joiner after
      (events ++ told_in (stage_in effect) left bytes)
  data_comes to_come = data_by reading.end refl at.fits to_come

pub stage_some : (effect : Option Turn) (left : ℕ) → 0 < left
    → stage_by effect left ≡ stage_in effect
stage_some effect left some = grind (arith, nat_tests)

-- ---- messages that lie whole in the window

quiet_event : (sent : Message) → is_quiet sent ≡ true
    → (event_of sent ≡ event.Other) × (data_length sent ≡ 0)
quiet_event sent is = grind arith

module _ (telling : Telling) (unwanted : telling.manner.all_heads ≡ false) (joiner : Joiner)
    {events : List WalkEvent} where
  -- a quiet message is no event, and changes neither the order nor the open transfer
  one_quiet : (was : Walked) (head : Entry) → HasEvents events stage.Message joiner was
      → is_quiet head.message ≡ true
      → HasEvents events stage.Message joiner (with_next telling.manner was head)
  one_quiet was head has quiet =
      let sent = head.message in
      let is = quiet_event sent quiet in
      let may : refusal was.taken (event_of sent) ≡ None =
      ap (refusal was.taken) is.0 ∙ sym (refusal-at joiner was.taken event.Other has.judges) in
      let does : effect_of was.taken (event_of sent) ≡ Some turn.Other =
      ap (effect_of was.taken) is.0
      ∙ sym (effect-at joiner was.taken event.Other has.judges false refl) in
      head_has telling.manner was joiner joiner has head (λ stops. may)
      (taken-at joiner was.taken event.Other has.judges sent is.0 false refl joiner
      (IsJoinerAt-then joiner was.taken sent event.Other is.0 has.judges))
      events stage.Message (rw (unwanted, may, does) (append-nil events)) (rw (does, is.1) refl)
      (rw does refl)

  all_quiet : (entries : List Entry) (was : Walked) → HasEvents events stage.Message joiner was
      → All IsQuiet entries
      → HasEvents events stage.Message joiner (fold (with_next telling.manner) was entries)
  all_quiet [] was has quiet = has
  all_quiet (head ∷ more) was has quiet =
      all_quiet more (with_next telling.manner was head)
      (one_quiet was head has (All-head IsQuiet head more quiet))
      (All-tail IsQuiet head more quiet)

  pub quiet_comes : {reading : Reading} (after : Reading) (entries : List Entry)
      → TellsEvents telling stage.Message joiner reading events
      → after ≡ joined reading (record { entries = entries; end = Clean }) → All IsQuiet entries
      → TellsEvents telling stage.Message joiner after events
  quiet_comes {reading} after entries at is quiet =
      rw is (record {
        has = rw (
          append-nil (reading.entries ++ entries),
          ← heads_clean reading (at_clean at),
          walked_all telling.manner reading.contact (heads_of reading) entries,
        ) (all_quiet entries (walked telling.manner reading) at.has quiet);
        fits = refl;
      })
