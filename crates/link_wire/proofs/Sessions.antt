-- How each call of a session changes its state.
use Rattle.std.proofs.Common.{⊎_elim, ◌≡◌, ℕ, zero, suc, ◌+◌, ◌<◌, ◌≤◌, true, eqb, eqb-true, List, [], ◌∷◌, ◌++◌, length, take, drop, Some, Result, Ok, Err, arith, refl, ap, sym, ◌∙◌, append_assoc, append-nil, length-append, add-zero}
use Rattle.std.specs.Prelude.{IsErrAnd}
use Rattle.std.proofs.lemmas.{Bool.{and_parts, cases_lt}, List.{nil_from_length, take-append-drop}}
use Rattle.link_io.specs.Device.{Input}
use Rattle.link_wire.specs.Part.{Part, number_at}
use Rattle.link_wire.specs.Message.{contact_at, message_at, fields_at, data_length}
use Rattle.link_io.specs.Source.{window_of, at_hand, reach, GivesAtHand, is_fresh, IsSourceAt, IsLive, IsOver, Takes, Readies}
use Rattle.link_wire.specs.Limits.{window_size}
use Rattle.link_wire.specs.Getting.{IsEnoughFor, AreNeeded, IsPart, IsFaultOfNeededBytes, GivenPart, ReadsPart, GivenKind}
use Rattle.link_wire.specs.Stream.{Entry, End, Clean, Cut, Fault, Stream, ended, stream_at, Reading, reading_of}
use Rattle.link_wire.specs.Session.{IsEnough, HasEnoughForNext, joined, data_after, rest_after, IsSizeOfDataLeft, IsEndBeforeOrInHead, AreSameUpToEnd, AreNeededToDecide, is_unopened, reads_next, may_open, may_read, left_of, HasStopped, IsSessionAt, GivenContact, AfterOpen, GivenHead, AfterNext, PassedBytes, LoadedData, AfterLoad, AfterData}
use Rattle.link_io.proofs.Sources.{fresh_at, fresh_live, IsSourceAt-then, Takes-then, Readies-takes, Readies-over, TakesThenStops-then}
use Rattle.link_wire.proofs.{FieldReads.bytes_at-short, Gettings.{after, IsFaultOfNeededBytes-then, cut_then}, Plains.IsPart-byte}
use Rattle.link_wire.proofs.{Shrinks.shrinks_message, Steady.{steady_contact, steady_message, cut_before}}
use Rattle.link_wire.proofs.Within.{Steady, within_contact, within_message, part_size, needed_size}
use Rattle.link_wire.proofs.Streams.{stream_at-head, stream_at-fault}
use Rattle.link_wire.proofs.Contacts.{contact_taken, reading-contact, reading-refused, reading-none}
use Rattle.link_wire.proofs.Rests.{appended, begun, begun_by, begun_left, data_by, data_left, clean_end, reading_of-joined, goes_on_from}
use Rattle.link_wire.specs.{Halt.stop_at, Whole.{AreMessages, PassedMessages, GivenWholeMessage}}
use Rattle.link_wire.proofs.Wholes.{one_message}
use Rattle.link_wire.specs.declared.fault.Stop.{Stop}
use Rattle.link_wire.specs.declared.fault.Stop.TheVariants as stop
use Rattle.link_wire.specs.declared.fault.WireFault.{WireFault}
use Rattle.link_wire.specs.declared.fault.WireFault.TheVariants as wire
use Rattle.link_wire.specs.declared.halt.Halt.{Halt}
use Rattle.link_wire.specs.declared.halt.Halt.TheVariants as halt
use Rattle.link_wire.specs.declared.message.{Contact.Contact, Message.Message}
use Rattle.link_wire.specs.declared.session.Phase.{Phase}
use Rattle.link_wire.specs.declared.session.Phase.TheVariants as phase
use Rattle.link_wire.specs.declared.session.Session.{Session}
use Rattle.link_io.specs.declared.source.Source.{Source}

unopened_by : (now : Phase) → is_unopened now ≡ true → now ≡ phase.Unopened
unopened_by phase.Unopened is = refl
unopened_by phase.Reading is = absurd (cc)
unopened_by (phase.Stopped why) is = absurd (cc)

-- ---- whether bytes are enough

number_short : (bytes : List ℕ) → length bytes < 1 → number_at 1 bytes ≡ Err wire.Truncated
unfolding number_at
number_short bytes short = rw (bytes_at-short 1 bytes short) refl

head_short : (bytes : List ℕ) → length bytes < 1 → message_at bytes ≡ Err wire.Truncated
unfolding message_at
head_short bytes short = rw (number_short bytes short) refl

one_byte : (bytes : List ℕ) → IsEnoughFor (number_at 1) bytes → 0 < length bytes
one_byte bytes enough =
    ⊎_elim (λ short. absurd (enough (number_short bytes short))) (λ some. omega (arith, some))
    (cases_lt (length bytes) 1)

-- enough bytes for a message are at least one
pub enough_head : {R : Type 0} (look : R → Input) (s : Session R) → s.left ≡ 0
    → HasEnoughForNext look s → 0 < length (at_hand look s.source)
enough_head look s between enough =
    let head = rw between at enough in
    ⊎_elim (λ short. absurd (head (head_short (at_hand look s.source) short)))
    (λ some. omega (arith, some)) (cases_lt (length (at_hand look s.source)) 1)

pub enough_data : (left : ℕ) (bytes : List ℕ) → 0 < left → IsEnough left bytes → 0 < length bytes
enough_data zero bytes some enough = absurd (omega (arith, some))
enough_data (suc left) bytes some enough = enough

pub some_enough : (left : ℕ) (bytes : List ℕ) → 0 < left → 0 < length bytes → IsEnough left bytes
some_enough zero bytes some here = absurd (omega (arith, some))
some_enough (suc left) bytes some here = here

module _ {R : Type 0} (look : R → Input) (s : Session R) (fresh : may_open s ≡ true) where
  -- the three properties of a session that may be opened
  parts : (is_unopened s.phase ≡ true) × (left_of s ≡ 0) × (is_fresh s.source ≡ true)
  parts =
      let first = and_parts (is_unopened s.phase) _ fresh in
      let second = and_parts (eqb s.left 0) _ first.1 in
      (first.0, eqb-true s.left 0 second.0, second.1)

  pub opens_unopened : s.phase ≡ phase.Unopened
  opens_unopened = unopened_by s.phase parts.0

  pub opens_at : IsSourceAt s.source []
  opens_at = fresh_at s.source parts.2

  pub opens_live : IsLive look s.source
  opens_live = fresh_live look s.source parts.2

  pub opens_left : left_of s ≡ 0
  opens_left = parts.1

-- if the next message may be read and the session has not stopped, no data is to come
pub none_left : {R : Type 0} (s : Session R) → s.phase ≡ phase.Reading
    → may_read s ≡ true → left_of s ≡ 0
none_left s reading may = eqb-true s.left 0 (ap (λ p. reads_next p s.left) (sym reading) ∙ may)

-- ---- the contact header

-- a proper prefix of the bytes that a contact header needs has none, and shows no fault
contact_shown : (given : List ℕ) → AreNeeded contact_at given → AreNeededToDecide [] given
contact_shown given needs = λ count fewer.
    let read = reading-refused (take count given) wire.Truncated (needs count fewer) in
    rw (read, reading-none) (record { contact = refl; entries = refl }, refl)

needs_by : {A : Type 0} (part : List ℕ → Part A) (bytes : List ℕ) → Steady part
    → part bytes ≡ Err wire.Truncated → AreNeeded part bytes
needs_by part bytes steady cut = λ count fewer.
    cut_before part steady (take count bytes) (drop count bytes)
    (ap part (take-append-drop count bytes) ∙ cut)

module _ {R : Type 0} {look : R → Input} where
  -- the reading and the state of a session after a part of the stream has been added to the reading
  stands : (s : Session R) (history : List ℕ) (reading : Reading)
      (part : Stream) (contact : Contact)
      → IsSourceAt s.source history → IsLive look s.source → s.phase ≡ phase.Reading
      → reading.contact ≡ Some contact
      → (is : IsSizeOfDataLeft s.offset s.left part.end)
      → (few : s.left ≡ 0 → length (window_of s.source) < window_size)
      → (reads : (more : List ℕ)
      → reading_of (history ++ more)
      ≡ joined reading (appended part (rest_after (length history) s.left part.end more)))
      → (reading_of history ≡ joined reading part) × IsSessionAt look s history
  stands s history reading part contact at live going has is few reads =
      let read = reading_of-joined reading history part s.offset s.left (length history) is reads in (
        read,
        record {
          at = at;
          live = live;
          going = going;
          contact = contact;
          has_contact = rw read has;
          left = rw read is;
          few = few;
          goes_on = goes_on_from reading history part s.offset s.left (length history) is reads;
        },
      )

  -- the same after some bytes that add the part; if there are none, no data was to come before
  goes : (old new : Session R) (history given : List ℕ) (part : Stream)
      → IsSessionAt look old history → Takes look old.source new.source given
      → IsLive look new.source → new.phase ≡ phase.Reading → IsSizeOfDataLeft new.offset new.left part.end
      → (new.left ≡ 0 → length given ≡ 0 → old.left ≡ 0)
      → ((more : List ℕ) → reading_of (history ++ (given ++ more))
      ≡ joined (reading_of history)
      (appended part (rest_after (length history + length given) new.left part.end more)))
      → (reading_of (history ++ given) ≡ joined (reading_of history) part)
      × IsSessionAt look new (history ++ given)
  goes old new history given part at takes live going is between reads =
      stands new (history ++ given) (reading_of history) part at.contact
      (IsSourceAt-then look old.source new.source history given takes at.at) live going
      at.has_contact is
      (λ none. ⊎_elim
      (λ few. let empty : length given ≡ 0 = omega (arith, few) in
      rw (takes.window.kept empty) (at.few (between none empty)))
      (λ some. takes.window.less (omega (arith, some))) (cases_lt (length given) 1))
      (λ more. rw (append_assoc history given more, length-append history given) (reads more))

  -- the contact header was read
  pub contact_came : (old new : Session R) (contact : Contact) → may_open old ≡ true
      → ReadsPart look contact_at old.source new.source (Ok contact) → new.left ≡ old.left
      → new.phase ≡ phase.Reading → GivenContact look old new contact
  contact_came old new contact fresh got left going =
      let given = got.by.given in
      let begins : Reading = record { contact = Some contact; entries = []; end = Clean } in
      let six = contact_taken given contact got.by.is.is_part in
      let none : new.left ≡ 0 = left ∙ opens_left look old fresh in
      let stood = stands new given begins (ended Clean) contact
      (IsSourceAt-then look old.source new.source [] given got.by.takes (opens_at look old fresh))
      got.by.live going refl none (λ _. got.by.takes.window.less (omega (arith, six)))
      (λ more. rw six (reading-contact given contact got.by.is.is_part more)) in
      record {
        given = given;
        takes = got.by.takes;
        reading = stood.0;
        size = six;
        shown_last = contact_shown given got.by.is.needs;
        at = stood.1;
        between = none;
      }

  pub contact_refused : (old new : Session R) (source : Source R) (why : Halt) (result : Stop)
      → ReadsPart look contact_at old.source source (Err why) → new.source ≡ source
      → HasStopped new result → result ≡ stop_at 0 why → AfterOpen look old new (Err result)
  contact_refused old new source (halt.Wire fault) result met same stopped is = rw is (record {
    given = met.by.given;
    takes = rw same met.by.takes;
    size = needed_size within_contact met.by.given met.by.is.needs;
    offset_is = refl;
    is_read = record {
      over = rw same met.by.over;
      all = λ more may.
          reading-refused (met.by.given ++ more) fault (met.by.is.is_fault more may);
    };
    shown_last = contact_shown met.by.given met.by.is.needs;
    stopped = stopped ∙ ap phase.Stopped is;
  })
  contact_refused old new source (halt.Io fault) result met same stopped is = rw is (record {
    given = met.by.given;
    stops = rw same met.by.stops;
    size = within_contact.cut met.by.given met.by.is_cut;
    shown_last = contact_shown met.by.given
        (needs_by contact_at met.by.given steady_contact met.by.is_cut);
    reading = reading-refused met.by.given wire.Truncated met.by.is_cut;
    stopped = stopped ∙ ap phase.Stopped is;
  })

  -- ---- messages, in a session between two of them
  module _ (old : Session R) (history : List ℕ) (at : IsSessionAt look old history)
      (between : old.left ≡ 0) where
    clean : (reading_of history).end ≡ Clean
    clean = clean_end old.offset old.left (reading_of history).end at.left between

    from_here : (bytes : List ℕ)
        → reading_of (history ++ bytes)
        ≡ joined (reading_of history) (stream_at (length history) bytes)
    from_here bytes = at.goes_on bytes ∙ ap (λ end. joined (reading_of history) (rest_after (length history) old.left end bytes)) clean

    -- a fault in the message that begins here
    fault_here : (kind : ℕ) (given : List ℕ) (fault : WireFault)
        → message_at (kind ∷ given) ≡ Err fault
        → reading_of (history ++ (kind ∷ given))
        ≡ joined (reading_of history) (ended (Fault (length history) fault))
    fault_here kind given fault is = from_here (kind ∷ given)
        ∙ ap (joined (reading_of history)) (stream_at-fault (length history) kind given fault is)

    -- bytes that end inside a head do not change the messages, and more bytes may mend the end
    cut_here : (given : List ℕ) → message_at given ≡ Err wire.Truncated
        → AreSameUpToEnd (reading_of history) (reading_of (history ++ given))
        × IsEndBeforeOrInHead (reading_of (history ++ given)).end
    cut_here [] is = rw append-nil (record { contact = refl; entries = refl }, rw clean tt)
    cut_here (kind ∷ given) is =
        rw (fault_here kind given wire.Truncated is)
        (record { contact = refl; entries = append-nil (reading_of history).entries }, refl)

    -- a proper prefix of the bytes that a head needs makes no message, and shows no fault
    head_shown : (given : List ℕ) → AreNeeded message_at given → AreNeededToDecide history given
    head_shown given needs = λ count fewer. cut_here (take count given) (needs count fewer)

    -- the head of a message was read
    pub came : (new : Session R) (message : Message)
        → GivenPart look message_at old.source new.source message → new.offset ≡ length history
        → new.left ≡ data_length message → new.phase ≡ phase.Reading
        → GivenHead look old new history (length history) message
    came new message got offset left going =
        let given = got.given in
        let here = length history in
        let stood = goes old new history given (begun here message) at got.takes got.live going
        (rw (offset, left) (begun_left (data_length message) here message refl)) (λ _ _. between)
        (λ more. rw left (from_here (given ++ more) ∙ ap (joined (reading_of history))
        (stream_at-head here given message got.is.is_part more
        ∙ begun_by (data_length message) here (here + length given) message more refl))) in
        let some : 0 < length given = omega (arith, shrinks_message.by (given ++ []) message [] (got.is.is_part []), length-append given []) in
        record {
          given = given;
          takes = got.takes;
          some = some;
          size = part_size within_message given message got.is;
          offset_is = refl;
          left = left;
          shown_last = head_shown given got.is.needs;
          reading = stood.0;
          at = stood.1;
        }

    -- whole messages were given
    module _ (new : Session R) (given : List ℕ)
        (takes : Takes look old.source new.source given) (live : IsLive look new.source)
        (left : new.left ≡ 0) (going : new.phase ≡ phase.Reading) where
      pub passed : (entries : List Entry) → AreMessages (length history) given entries
          → PassedMessages look old new history given entries
      passed entries are =
          let stood = goes old new history given (record { entries = entries; end = Clean }) at
          takes live going left (λ _ _. between)
          (λ more. from_here (given ++ more) ∙ ap (joined (reading_of history)) (are.all more)) in
          record { takes = takes; reading = stood.0; at = stood.1 }

      -- one message, its head and its data
      pub came_whole : (head content : List ℕ) (message : Message) → given ≡ head ++ content
          → length given ≤ window_size → IsPart message_at head message → data_length message ≡ length content
          → GivenWholeMessage look old new history (length history) message
      came_whole head content message parts room is size =
          let one : List Entry = record { offset = length history; message = message; content = content } ∷ [] in
          record {
            given = given;
            content = content;
            some = omega (arith, shrinks_message.by (head ++ []) message [] (is.is_part []), length-append head [], length-append head content, ap length parts);
            size = room;
            offset_is = refl;
            passed = passed one
                (rw parts (one_message (length history) head content message is.is_part size));
          }

    -- the next message, by its type byte and the fields after it
    module _ {mid : Source R} {kind : ℕ} (first : GivenKind look old.source mid kind)
        (hand : 0 < length (at_hand look old.source)
        → GivesAtHand look old.source mid (kind ∷ [])) where
      typed : ReadsPart look (number_at 1) old.source mid (Ok kind)
      typed = record {
        by = record { given = kind ∷ []; takes = first.takes; live = first.live; is = IsPart-byte kind };
        here = λ enough.
            let gives = hand (one_byte (at_hand look old.source) enough) in (
              gives.unread,
              ap (number_at 1) gives.parts ∙ (IsPart-byte kind).is_part (at_hand look mid),
            );
      }

      -- if the bytes at hand are enough for the message, nothing is read
      pub message_unread : (source : Source R) (outcome : Result Message Halt)
          → ReadsPart look (fields_at kind) mid source outcome → HasEnoughForNext look old
          → reach look source ≡ reach look old.source
      unfolding message_at
      message_unread source (Ok message) fields enough =
          let whole : ReadsPart look message_at old.source source (Ok message) = after _ typed fields in
          (whole.here (rw between at enough)).0
      message_unread source (Err why) met enough =
          let whole : ReadsPart look message_at old.source source (Err why) = after _ typed met in
          whole.here (rw between at enough)

      pub message_came : (new : Session R) (message : Message)
          → ReadsPart look (fields_at kind) mid new.source (Ok message) → new.offset ≡ length history
          → new.left ≡ data_length message → new.phase ≡ phase.Reading
          → GivenHead look old new history (length history) message
      unfolding message_at
      message_came new message fields offset left going =
          let whole : ReadsPart look message_at old.source new.source (Ok message) = after _ typed fields in
          came new message whole.by offset left going

      next_refused : (new : Session R) (why : Halt)
          → ReadsPart look (fields_at kind) mid new.source (Err why)
          → HasStopped new (stop_at (length history) why)
          → AfterNext look old new history (Err (stop_at (length history) why))
      unfolding message_at
      next_refused new (halt.Wire fault) met stopped =
          let given = met.by.given in
          let is : IsFaultOfNeededBytes message_at (kind ∷ given) fault = IsFaultOfNeededBytes-then (number_at 1) (λ v. fields_at v.0 v.1) kind (kind ∷ []) given (IsPart-byte kind) fault met.by.is in
          record {
            given = kind ∷ given;
            takes = Takes-then look old.source mid new.source (kind ∷ []) given first.takes met.by.takes;
            size = needed_size within_message (kind ∷ given) is.needs;
            offset_is = refl;
            is_read = record {
              over = met.by.over;
              all = λ more may. rw (append_assoc history (kind ∷ given) more)
                  (fault_here kind (given ++ more) fault (is.is_fault more may));
            };
            shown_last = head_shown (kind ∷ given) is.needs;
            stopped = stopped;
          }
      next_refused new (halt.Io fault) met stopped =
          let given = met.by.given in
          let is_cut : message_at (kind ∷ given) ≡ Err wire.Truncated = cut_then (number_at 1) (λ v. fields_at v.0 v.1) kind (kind ∷ []) given (IsPart-byte kind) met.by.is_cut in
          let here = cut_here (kind ∷ given) is_cut in
          record {
            given = kind ∷ given;
            stops = TakesThenStops-then look old.source mid new.source (kind ∷ []) given fault first.takes met.by.stops;
            size = within_message.cut (kind ∷ given) is_cut;
            shown_last = head_shown (kind ∷ given) (needs_by message_at (kind ∷ given) steady_message is_cut);
            same = here.0;
            undecided = here.1;
            stopped = stopped;
          }

      pub message_refused : (new : Session R) (source : Source R) (why : Halt) (offset : ℕ)
          (result : Stop) → ReadsPart look (fields_at kind) mid source (Err why) → new.source ≡ source
          → HasStopped new result → result ≡ stop_at offset why → offset ≡ length history
          → AfterNext look old new history (Err result)
      message_refused new source why offset result met same stopped is here =
          let named : result ≡ stop_at (length history) why = is ∙ ap (λ n. stop_at n why) here in
          rw named (next_refused new why (rw same met) (stopped ∙ ap phase.Stopped named))

  -- data of the open segment came
  module _ (old new : Session R) (history bytes : List ℕ) (at : IsSessionAt look old history)
      (takes : Takes look old.source new.source bytes)
      (live : IsLive look new.source) (going : new.phase ≡ phase.Reading) (offset : new.offset ≡ old.offset) (left : old.left ≡ length bytes + new.left) where
    -- the rest of the stream is the data, and then what is read after it
    read_by : (end : End) → IsSizeOfDataLeft old.offset old.left end
        → (let part = data_after new.left bytes end in
        IsSizeOfDataLeft new.offset new.left part.end
        × ((more : List ℕ) → rest_after (length history) old.left end (bytes ++ more)
        ≡ appended part (rest_after (length history + length bytes) new.left part.end more)))
    read_by Clean is =
        let none : bytes ≡ [] = nil_from_length bytes (omega arith) in
        (omega arith, λ more. rw (none, add-zero) refl)
    read_by (Cut from message content) is = (
      data_left new.offset from message content bytes new.left old.left
          (is.1 ∙ sym offset) is.2 left,
      λ more. data_by (length history) old.left from message content bytes more new.left left,
    )
    read_by (Fault from fault) is = absurd is

    -- some data of the open segment was given
    pub data_given : PassedBytes look old new history bytes
    data_given =
        let end = (reading_of history).end in
        let by = read_by end at.left in
        let stood = goes old new history bytes (data_after new.left bytes end) at takes live going
        by.0 (λ none empty. omega (arith, left, none, empty))
        (λ more. at.goes_on (bytes ++ more) ∙ ap (joined (reading_of history)) (by.1 more)) in
        record { takes = takes; left = left; reading = stood.0; at = stood.1 }

-- inside a segment, the reading ends in its data
is_cut : (offset left : ℕ) (end : End) → IsSizeOfDataLeft offset left end → 0 < left
    → (message : Message) × (content : List ℕ) × (end ≡ Cut offset message content)
is_cut offset left Clean is some = absurd (omega (arith, is, some))
is_cut offset left (Cut from message content) is some =
    (message, content, ap (λ o. Cut o message content) is.1)
is_cut offset left (Fault from fault) is some = absurd is

module _ {R : Type 0} {look : R → Input} where
  -- making data ready does not change the reading
  pub loaded_stands : (old new : Session R) (history : List ℕ) → IsSessionAt look old history
      → Readies look old.source new.source → IsLive look new.source
      → new.phase ≡ old.phase → new.offset ≡ old.offset → new.left ≡ old.left → 0 < old.left
      → IsSessionAt look new history
  loaded_stands old new history at ready live phase offset left some = record {
    at = record { bytes = at.at.bytes; given = ready.count ∙ at.at.given };
    live = live;
    going = phase ∙ at.going;
    contact = at.contact;
    has_contact = at.has_contact;
    left = rw (offset, left) at.left;
    few = λ none. absurd (omega (arith, left, none, some));
    goes_on = λ more. rw left (at.goes_on more);
  }

  -- the input has ended inside the data of the segment
  pub data_cut : (old new : Session R) (mid : Source R) (history : List ℕ) (why : Stop)
      → IsSessionAt look old history → Readies look old.source mid → IsOver look mid → 0 < old.left
      → new.source ≡ mid → HasStopped new why
      → why ≡ stop_at old.offset (halt.Wire wire.Truncated) → AfterLoad look old new history (Err why)
  data_cut old new mid history why at ready over some same stopped is =
      let cut = is_cut old.offset old.left (reading_of history).end at.left some in
      rw is (record {
        kind = refl;
        takes = rw same (Readies-over look old.source mid ready over);
        over = rw same over;
        message = cut.0;
        content = cut.1;
        cut = cut.2;
        stopped = stopped ∙ ap phase.Stopped is;
      })

  -- data was made ready, and then some of it was given
  pub gave_then : (old mid new : Session R) (history bytes : List ℕ) (n : ℕ)
      → LoadedData look old mid history n → PassedBytes look mid new history bytes
      → 0 < length bytes → PassedBytes look old new history bytes
  gave_then old mid new history bytes n ready gave some =
      record { takes = Readies-takes look old.source mid.source new.source bytes ready.readies gave.takes some; left = sym ready.left ∙ gave.left; reading = gave.reading; at = gave.at }

module _ {R : Type 0} (look : R → Input) where
  -- a stop while data is made ready is also the stop of copying it
  pub data_stopped : (old new : Session R) (history buffer : List ℕ) (result : Result ℕ Stop)
      (why : Stop) → IsErrAnd result (λ e. e ≡ why) → AfterLoad look old new history (Err why)
      → AfterData look old new history buffer result
  data_stopped old new history buffer (Ok n) why is gives = absurd is
  data_stopped old new history buffer (Err e) (stop.Wire offset fault) is gives = rw is gives
  data_stopped old new history buffer (Err e) (stop.Io fault) is gives = rw is gives
