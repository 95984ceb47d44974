-- What holds after a step of a walk, or after inner segments, by what its consumer has written.
use Rattle.std.proofs.Common.{◌≡◌, ℕ, zero, suc, ◌+◌, ◌^◌, ◌<◌, ◌≤◌, inl, inr, Bool, true, false, ◌||◌, ◌&&◌, ◌==◌, not, List, [], ◌∷◌, ◌++◌, length, Some, None, Result, Ok, Err, Option, if◌then◌else◌, refl, ap, sym, ◌∙◌, append-nil, append_assoc, length-append, arith}
use Rattle.std.proofs.KnownBytes.{Consumes-trans}
use Rattle.link_io.proofs.Sources.{Takes-none, Takes-then}
use Rattle.link_wire.specs.{Device.Input, Inner.{PassedInner, inner_segment}, Limits.longest_head}
use Rattle.link_wire.specs.Message.{data_length}
use Rattle.link_wire.specs.Session.{source_of, left_of, IsSessionAt, GivenContact, ReachedEnd, GivenHead, LoadedData, PassedBytes, with_message}
use Rattle.link_wire.specs.Source.{Takes, ahead, given_by}
use Rattle.link_wire.specs.Stream.{Reading, reading_of, cut_heads}
use Rattle.link_wire.specs.{Whole.PassedQuietMessages, declared.IoFault.IoFault}
use Rattle.link_wire.specs.declared.message.{Contact.Contact, Message.Message}
use Rattle.link_wire.specs.declared.session.Session.{Session}
use Rattle.link_transfer.specs.{Event.event_of, Joiner.IsJoinerAt}
use Rattle.link_transfer.specs.Order.{continuable, effect_of, with_taken}
use Rattle.link_transfer.specs.declared.event.Event.TheVariants.{Segment}
use Rattle.link_transfer.specs.declared.{fault.OrderFault.OrderFault, joiner.Joiner.Joiner}
use Rattle.link_transfer.specs.declared.joiner.Turn.{Turn}
use Rattle.link_transfer.specs.declared.joiner.Turn.TheVariants as turn
use Rattle.link_transfer.proofs.Continuing.{continues_open, may_continue, joiner_stays}
use Rattle.link_report.specs.{Fault.fault_text, declared.fault.Fault.TheVariants.Order}
use Rattle.link_run.specs.Made.{shows_fault, stop_of, tool_of}
use Rattle.link_run.specs.{Next.next_of, Reading.feed_of}
use Rattle.link_run.specs.Run.{◌then◌, Looks, Devices, EndingStep}
use Rattle.link_run.specs.Writers.{place_of, on_report, AfterLastWrite}
use Rattle.link_run.specs.declared.{next.Next.Next, run.Status.Status, writers.Writers.Writers}
use Rattle.link_run.specs.declared.next.Next.TheVariants as next
use Rattle.link_run.proofs.Ends.{ends_unshown, made_reports, unshown_sofar}
use Rattle.link_run.proofs.Runs.{few_over, sound_given, writer_lost, written_given}
use Rattle.link_run.proofs.{Sessions.{then_fault, part_unshown}, Stands.{ends, stands_on}}
use Rattle.link_run_over_transfers.specs.Telling.{HeadComes, Tells, data_ends, inner_events, inner_head}
use Rattle.link_run_over_transfers.specs.Walk.{head_at, is_plain, WalkEvent, ContactHeader, MessageHead, Whole, data_events, data_size, data_size_of, has_open, Walked, walked, head_events, Telling, told_of}
use Rattle.link_run_over_transfers.specs.WalkRun.{IsWalkAt, IsTellingRunAt, AfterWalkBytes, WalkState, AfterWalkStep, IfInSegmentNoDataGiven, TellsEnd, TakesMessages, most_by, stage_in, stage_by}
use Rattle.link_run_over_transfers.specs.declared.walk.Stage.{Stage}
use Rattle.link_run_over_transfers.specs.declared.walk.Stage.TheVariants as stage
use Rattle.link_run_over_transfers.proofs.Comes.{TellsEvents, MayTake, told_at, knows_at, told_in, contact_comes, head_comes, data_comes, quiet_comes, stage_some}
use Rattle.link_run_over_transfers.proofs.Heads.{continues_some, data_size-append, data_size-data}
use Rattle.link_run_over_transfers.proofs.Tellings.{tells_none}
use Rattle.link_run_over_transfers.proofs.Texts.{by_reading, told_of-reading, texts_are, stop_is, same_texts, at_unshown, nothing_told}

abbrev pub events_at : Telling → List ℕ → List WalkEvent
events_at telling bytes = (walked telling.manner (reading_of bytes)).events

-- ---- the events of the bytes that were given

-- The session was given these bytes. They tell exactly these events, and the walk is at this stage.
pub record HasToldEvents {R : Type 0} (look : R → Input) (telling : Telling) (now : Stage)
    (session : Session R) (joiner : Joiner) (history : List ℕ) (events : List WalkEvent)
    : Type 0 where
  pub session_at : IsSessionAt look session history
  pub comes : TellsEvents telling now joiner (reading_of history) events
  pub size : data_size events ≤ length history

-- the events of the history, and what a walk that has come this far has told
module _ {R C : Type 0} {look : R → Input} {telling : Telling} {now : Stage} {session : Session R}
    {joiner : Joiner} {history : List ℕ} where
  pub come_at : {knows : C → List WalkEvent → Type 0} {consumer : C}
      → IsWalkAt look telling knows now session joiner consumer history
      → HasToldEvents look telling now session joiner history (events_at telling history)
  come_at walks =
      record { session_at = walks.session_at; comes = told_at walks.at; size = walks.size }

  walks_on : {events : List WalkEvent}
      → HasToldEvents look telling now session joiner history events
      → (knows : C → List WalkEvent → Type 0) (consumer : C) → knows consumer events
      → IsWalkAt look telling knows now session joiner consumer history
  walks_on come knows consumer known = record {
    session_at = come.session_at;
    at = knows_at come.comes (knows consumer) known;
    size = rw come.comes.has.known come.size;
  }

-- no event but data has a size
one_size : (test : Bool) (event : WalkEvent) → data_size_of event ≡ 0
    → data_size (if test then event ∷ [] else []) ≡ 0
unfolding data_size
one_size test event none = grind arith

told_size : (now : Stage) (left : ℕ) (bytes : List ℕ)
    → data_size (told_in now left bytes) ≤ length bytes
told_size (stage.Data last) left bytes =
    omega (
      arith,
      data_size-append (data_events bytes) (if last && (left == 0) then Whole ∷ [] else []),
      data_size-data bytes,
      one_size (last && (left == 0)) Whole refl,
    )
told_size now left bytes = omega (arith, one_size false Whole refl)

-- before any byte, no event
pub nothing_yet : (telling : Telling) → events_at telling [] ≡ []
nothing_yet telling = ap (λ (w : Walked). w.events) (nothing_told telling.manner)

-- the contact header has come
pub contact_come : {R : Type 0} {look : R → Input} (telling : Telling) {joiner : Joiner}
    {old new : Session R} {contact : Contact} → IsJoinerAt joiner []
    → (got : GivenContact look old new contact)
    → HasToldEvents look telling stage.Message new joiner got.given
    (events_at telling [] ++ ContactHeader contact ∷ [])
contact_come telling {joiner = joiner} {contact = contact} judges got =
    rw (nothing_yet telling) (record {
      session_at = got.at;
      comes = rw got.reading (contact_comes telling joiner contact judges);
      size = omega (arith, one_size true (ContactHeader contact) refl);
    })

-- data of a segment has come
pub data_come : {R : Type 0} {look : R → Input} {telling : Telling} {old new : Session R}
    (effect : Option Turn) {joiner : Joiner} {history bytes : List ℕ} {events : List WalkEvent}
    {left : ℕ} → HasToldEvents look telling (stage_in effect) old joiner history events
    → PassedBytes look old new history bytes → left_of new ≡ left → 0 < length bytes
    → HasToldEvents look telling (stage_by effect left) new joiner (history ++ bytes)
    (events ++ told_in (stage_in effect) left bytes)
data_come {old = old} {new = new} effect {bytes = bytes} come gave left_is some =
    rw (← left_is) (record {
      session_at = gave.at;
      comes = data_comes _ effect come.comes old.offset (left_of new) bytes gave.reading some
          (rw gave.left at come.session_at.left);
      size = omega (
        arith,
        come.size,
        told_size (stage_in effect) (left_of new) bytes,
        data_size-append,
        length-append {A = ℕ},
      );
    })

module _ {R : Type 0} {look : R → Input} {telling : Telling} {old : Session R} {joiner : Joiner}
    {history : List ℕ} {events : List WalkEvent}
    (come : HasToldEvents look telling stage.Message old joiner history events) where
  abbrev taken : List Message
  taken = (walked telling.manner (reading_of history)).taken

  -- the head of a message was taken
  pub head_come : {new : Session R} {offset : ℕ} {sent : Message}
      (got : GivenHead look old new history offset sent) (after : Joiner)
      → MayTake telling.manner taken sent → IsJoinerAt after (with_taken taken sent)
      → (later : Stage) → later ≡ stage_by (effect_of taken (event_of sent)) (data_length sent)
      → HasToldEvents look telling later new after (history ++ got.given)
      (events ++ head_events telling.manner.all_heads (head_at taken offset sent))
  head_come {offset = offset} {sent = sent} got after may judges later later_is =
      let head = head_at taken offset sent in
      record {
        session_at = got.at;
        comes = rw later_is
            (head_comes telling joiner come.comes offset sent after
            (reading_of (history ++ got.given)) got.reading may judges);
        size = omega (
          arith,
          come.size,
          one_size (telling.manner.all_heads || not (is_plain head)) (MessageHead head) refl,
          data_size-append,
          length-append {A = ℕ},
        );
      }

  -- quiet messages were passed over
  pub quiet_come : {new : Session R} {count : ℕ} → telling.manner.all_heads ≡ false
      → (got : PassedQuietMessages look old new history count)
      → HasToldEvents look telling stage.Message new joiner (history ++ got.given) (events ++ [])
  quiet_come unwanted got = rw (append-nil events) (record {
    session_at = got.passed.at;
    comes = quiet_comes telling unwanted joiner (reading_of (history ++ got.given)) got.entries
        come.comes got.passed.reading got.quiet;
    size = omega (arith, come.size, length-append history got.given);
  })

  -- an inner segment was passed, which is a head and then all of its data
  pub inner_come : {new : Session R} (id : ℕ) (content : List ℕ) → continuable taken ≡ Some id
      → (got : PassedInner look old new history id content)
      → HasToldEvents look telling stage.Message new joiner (history ++ (got.read.given ++ content))
      (events
      ++ inner_events telling.manner.all_heads (inner_head got.offset id (length content)) content)
  inner_come id content is_open got =
      let head = inner_head got.offset id (length content) in
      let inner = Some (turn.Continue false) in
      let does = continues_open taken id is_open in
      let headed =
      head_come got.read joiner (λ stops. may_continue taken id is_open)
      (joiner_stays taken id is_open joiner (inner_segment id (length content)) refl
      come.comes.has.judges)
      (stage.Data false) (rw does (sym (stage_some inner (length content) got.some))) in
      rw (
        ← append_assoc history got.read.given content,
        ← append_assoc events (head_events telling.manner.all_heads head) (data_ends content false),
      )
      (rw (may_continue taken id is_open, does) at
      (data_come inner headed got.gave got.none got.some))

-- ---- what was told of them

module _ {R : Type 0} {look : R → Input} {telling : Telling} {now : Stage} {session : Session R}
    {joiner : Joiner} {bytes : List ℕ} {events : List WalkEvent}
    (come : HasToldEvents look telling now session joiner bytes events) where
  texts_told : (told_of telling bytes).texts ≡ telling.texts events
  texts_told = texts_are telling bytes ∙ ap telling.texts come.comes.has.known

  shows_fault-false : shows_fault (told_of telling bytes).stop ≡ false
  shows_fault-false = at_unshown telling now bytes come.comes.has.unrefused come.comes.fits

-- These bytes were given, and the events that they add were told.
module _ {R W E C : Type 0} {look : Looks R W E} {start : Devices R W E} {telling : Telling}
    (knows : C → List WalkEvent → Type 0) (old : Session R) {new : Session R} (before : Writers W E)
    {later : Stage} {joiner : Joiner} {history given : List ℕ} {added : List WalkEvent}
    (stood : IsTellingRunAt look start telling old before history)
    (takes : Takes look.input (source_of old) (source_of new) given)
    (some : 0 < length given)
    (come : HasToldEvents look.input telling later new joiner (history ++ given)
    (events_at telling history ++ added))
    (after : Writers W E) (consumer : C) where
  pub told_next : (result : Result (Unit {0}) IoFault)
      → Tells look.output look.report telling (knows consumer) (events_at telling history) added
      before after result
      → AfterWalkBytes look start telling knows new after joiner consumer (history ++ given)
      (next_of later result)
  told_next (Ok done) tells = (
    stands_on (length given) (source_of old) (source_of new) before stood takes (omega arith)
        (takes.window.less some) after tells.texts
        (rw (texts_are telling history, texts_told come) tells.said) (shows_fault-false come) tells.wrote,
    walks_on come knows consumer tells.known,
  )
  told_next (Err fault) tells =
      let made = told_of telling in
      let bytes = history ++ given in (
        writer_lost look (tool_of made) (made_reports made) start (source_of new) before after bytes
            (made history).texts tells.texts _ fault
            (written_given look start (source_of old) (source_of new) before history given _
            stood.written takes)
            (sound_given look (source_of old) (source_of new) before given stood.sound takes)
            (rw (texts_are telling history, texts_told come) tells.said)
            (inl (sym (unshown_sofar (made bytes).stop (made bytes).texts (shows_fault-false come))))
            (takes.window.less some)
            (λ some. inr (record {
              front = history;
              rest = given;
              parts = refl;
              is = sym (unshown_sofar (made history).stop (made history).texts stood.unshown);
            }))
            tells.wrote,
        ends_unshown made stood.lasting bytes (shows_fault-false come),
      )

  pub told_step : (piece : ℕ) (now : Stage) → length given ≤ most_by piece now
      → IfInSegmentNoDataGiven now (reading_of (history ++ given)).end
      → (result : Result (Unit {0}) IoFault)
      → Tells look.output look.report telling (knows consumer) (events_at telling history) added
      before after result
      → AfterWalkStep look start telling knows piece now old new after joiner consumer history
      (next_of later result)
  told_step piece now size waiting (Ok done) tells = record {
    given = given;
    some = λ may. some;
    size = size;
    count = takes.count;
    window = takes.window.less some;
    at = (told_next (Ok done) tells, waiting);
  }
  told_step piece now size waiting (Err fault) tells =
      let next = told_next (Err fault) tells in
      let before_count = stood.written.count in
      record {
        given = given;
        size = size;
        count = omega (arith, takes.count, before_count, length-append history given);
        gave = next.0;
        ends = next.1;
      }

-- a head has no data yet
pub waits_after : (offset : ℕ) (sent : Message) (reading after : Reading)
    → after ≡ with_message offset sent reading → IfInSegmentNoDataGiven stage.Message after.end
waits_after offset sent reading after is = rw is (grind arith)

-- ---- the end

module _ {R W E : Type 0} {look : Looks R W E} {start : Devices R W E} (telling : Telling)
    {history : List ℕ} (old new : Session R) (before : Writers W E)
    (stood : IsTellingRunAt look start telling old before history) (after : Writers W E)
    (unrefused : (walked telling.manner (reading_of history)).refused ≡ None) where
  abbrev here : Walked
  here = walked telling.manner (reading_of history)

  -- the stream has ended between two messages
  pub finished : ReachedEnd look.input old new history → (answer : Result Status IoFault)
      → TellsEnd look.output look.report telling here.taken here.events before after answer
      → EndingStep look (tool_of (told_of telling)) start (place_of (source_of new) after)
      longest_head history answer
  finished got answer gives =
      let same : told_of telling (history ++ []) ≡ by_reading telling (reading_of history) =
      ap (told_of telling) (append-nil history) ∙ told_of-reading telling history in
      let stops = stop_is telling (reading_of history) unrefused ∙ ap stop_of got.clean in
      ends longest_head (source_of old) (source_of new) before stood got.takes (omega arith)
      (few_over look.input (source_of new) got.over) after gives.0
      (rw (texts_are telling history, same, stops) gives.1)
      (inl (got.over, rw (same, stops) refl)) answer (rw (same, stops) gives.2)

  -- the run ends at a head that is not in order
  pub refused : {offset : ℕ} {sent : Message}
      (got : GivenHead look.input old new history offset sent)
      → cut_heads (reading_of history).end ≡ [] → (fault : OrderFault)
      → walked telling.manner (reading_of (history ++ got.given))
      ≡ record here { refused = Some (offset, fault) }
      → ((more : List ℕ) → told_of telling ((history ++ got.given) ++ more)
      ≡ told_of telling (history ++ got.given))
      → (answer : Result Status IoFault)
      → AfterLastWrite look.output look.report before after
      (on_report (fault_text (Order offset fault))) 3 answer
      → EndingStep look (tool_of (told_of telling)) start (place_of (source_of new) after)
      longest_head history answer
  refused {offset} got clean fault is stays answer gives =
      let bytes = history ++ got.given in
      ends longest_head (source_of old) (source_of new) before stood got.takes got.size
      (got.takes.window.less got.some) after (on_report (fault_text (Order offset fault)))
      (rw (texts_are telling history, told_of-reading telling bytes, is)
      (then_fault (Order offset fault) (telling.texts here.events)))
      (inr (
        rw (told_of-reading telling bytes, is) refl,
        stays,
        λ count less.
            rw told_of-reading
            (part_unshown (by_reading telling) history got.given
            (same_texts telling (reading_of history) unrefused clean) got.shown_last count less),
      ))
      answer (rw (told_of-reading telling bytes, is) gives)

-- ---- data is made ready in the window, and then a step takes it

module _ {R W E C : Type 0} {look : Looks R W E} {start : Devices R W E} {telling : Telling}
    {knows : C → List WalkEvent → Type 0} {now : Stage} {old mid : Session R}
    {had : Joiner} {earlier : C} {history : List ℕ} {n : ℕ} (writers : Writers W E)
    (stood : IsTellingRunAt look start telling old writers history)
    (walks : IsWalkAt look.input telling knows now old had earlier history)
    (ready : LoadedData look.input old mid history n) where
  stands_ready : IsTellingRunAt look start telling mid writers history
  stands_ready =
      record {
        written = record {
          takes = rw append-nil at
              (Consumes-trans (look.input start.reader).left (ahead look.input (source_of old))
              (ahead look.input (source_of mid)) history [] stood.written.takes ready.readies.next);
          count = ready.readies.count ∙ stood.written.count;
          writes = stood.written.writes;
          reports = stood.written.reports;
        };
        sound = record {
          reader = ready.readies.device ∙ stood.sound.reader;
          output = stood.sound.output;
          report = stood.sound.report;
        };
        unshown = stood.unshown;
        lasting = stood.lasting;
      }

  walks_ready : IsWalkAt look.input telling knows now mid had earlier history
  walks_ready = record { session_at = ready.at; at = walks.at; size = walks.size }

  -- the step that takes it is the step that made it ready
  pub ready_step : (size piece : ℕ) (new : Session R) (after : Writers W E) (joiner : Joiner)
      (consumer : C) (result : Next Stage) → 0 < most_by size now
      → most_by size now ≤ most_by piece now
      → (IsTellingRunAt look start telling mid writers history
      → IsWalkAt look.input telling knows now mid had earlier history
      → AfterWalkStep look start telling knows size now mid new after joiner consumer history result)
      → AfterWalkStep look start telling knows piece now old new after joiner consumer history result
  ready_step size piece new after joiner consumer (next.Stage later) some within taken =
      let went = taken stands_ready walks_ready in
      let count = ready.readies.count in
      let counted = went.count in
      let fits = went.size in
      record {
        given = went.given;
        some = λ may. went.some some;
        size = omega arith;
        count = omega arith;
        window = went.window;
        at = went.at;
      }
  ready_step size piece new after joiner consumer (next.Ended answer) some within taken =
      let end = taken stands_ready walks_ready in
      let fits = end.size in
      record {
        given = end.given;
        size = omega arith;
        count = end.count;
        gave = end.gave;
        ends = end.ends;
      }

-- ---- messages that lie whole in the window

module _ {R W E C : Type 0} {look : Looks R W E} {telling : Telling}
    {knows : C → List WalkEvent → Type 0} where
  pub none_taken : (first : WalkState R W E C)
      → TakesMessages look telling knows first first (next.Stage stage.Message)
  none_taken first = record {
    holds = λ start history stood walks. record {
      given = [];
      takes = Takes-none look.input (source_of (feed_of first.input));
      stands = rw append-nil (stood, walks);
    };
  }

  -- quiet messages were passed over, if any
  pub quiet_taken : {old : WalkState R W E C} {input : _} (count : ℕ)
      → telling.manner.all_heads ≡ false → (count ≡ 0 → input ≡ old.input)
      → ((history : List ℕ) → IsSessionAt look.input (feed_of old.input) history
      → PassedQuietMessages look.input (feed_of old.input) (feed_of input) history count)
      → TakesMessages look telling knows old (record old { input = input }) (next.Stage stage.Message)
  quiet_taken {old} zero unwanted none passed = rw (none refl) (none_taken old)
  quiet_taken {old} (suc count) unwanted none passed = record {
    holds = λ start history stood walks.
        let got = passed history walks.session_at in
        let size = got.size in
        record {
          given = got.given;
          takes = got.passed.takes;
          stands = told_next knows (feed_of old.input) old.writers stood got.passed.takes
              (omega arith) (quiet_come (come_at walks) unwanted got) old.writers old.consumer
              (Ok tt)
              (tells_none look.output look.report telling (knows old.consumer)
              (events_at telling history) old.writers walks.at.known);
        };
  }

  -- One more inner segment is taken. Its head is at the next offset, and comes after the events so
  -- far.
  pub turn_taken : {first old new : WalkState R W E C} (offset id : ℕ) (content : List ℕ)
      → TakesMessages look telling knows first old (next.Stage stage.Message)
      → new.joiner ≡ old.joiner → offset ≡ given_by (source_of (feed_of old.input))
      → ((taken : List Message) → IsJoinerAt old.joiner taken → Some id ≡ continuable taken)
      → ((history : List ℕ) → IsSessionAt look.input (feed_of old.input) history
      → PassedInner look.input (feed_of old.input) (feed_of new.input) history id content)
      → (result : Result (Unit {0}) IoFault)
      → ((events : List WalkEvent) → knows old.consumer events
      → HeadComes events (inner_head offset id (length content))
      → has_open events ≡ true → data_size events + length content < 2 ^ 63
      → Tells look.output look.report telling (knows new.consumer) events
      (inner_events telling.manner.all_heads (inner_head offset id (length content)) content)
      old.writers new.writers result)
      → TakesMessages look telling knows first new (next_of stage.Message result)
  turn_taken {first} {old} {new} offset id content was same is opened passes result tells = record {
    holds = λ start history stood walks.
        let so_far = was.holds start history stood walks in
        let here = history ++ so_far.given in
        let had = so_far.stands.1 in
        let got = passes here had.session_at in
        let taken = (walked telling.manner (reading_of here)).taken in
        let is_open : continuable taken ≡ Some id = sym (opened taken had.at.judges) in
        let does = continues_open taken id is_open in
        let more = got.read.given ++ content in
        let takes =
        Takes-then look.input (source_of (feed_of old.input)) (source_of got.mid)
        (source_of (feed_of new.input)) got.read.given content got.read.takes got.gave.takes in
        let size = had.size in
        let within = (source_of (feed_of new.input)).within in
        let given = got.gave.at.at.given in
        let some = got.some in
        let here_is : offset ≡ got.offset =
        is ∙ had.session_at.at.given ∙ sym got.read.offset_is in
        record {
          given = so_far.given ++ more;
          takes = Takes-then look.input (source_of (feed_of first.input))
              (source_of (feed_of old.input)) (source_of (feed_of new.input)) so_far.given more
              so_far.takes takes;
          stands = rw (← append_assoc history so_far.given more, same)
              (told_next knows (feed_of old.input) old.writers so_far.stands.0 takes
              (omega (arith, length-append got.read.given content))
              (inner_come (come_at had) id content is_open got) new.writers new.consumer
              result
              (rw here_is at (tells (events_at telling here) had.at.known
              (record {
                taken = taken;
                is = rw (may_continue taken id is_open, does) refl;
                opened = had.at.opened;
              })
              (had.at.opened ∙ continues_some taken (Segment 0 id) false does)
              (omega (
                arith,
                size,
                within,
                given,
                length-append (here ++ got.read.given) content,
                length-append here got.read.given,
              )))));
        };
  }
