-- Relations, but for CallWaitsAtMostOnce: what a run reads from a session or a source, after it has
-- handed on what was written.
use Rattle.std.specs.Prelude.{◌≡◌, ℕ, ◌<◌, ◌⊎◌, List, [], length, Option, Result, Ok, Err, IfOk, IfErr, IfSome, IsTrue}
use Rattle.link_wire.specs.Device.{Input as Seen}
use Rattle.link_wire.specs.Limits.{window_size}
use Rattle.link_wire.specs.MessageBuffer.{message_of, IfSegmentItemsHaveTotals}
use Rattle.link_wire.specs.Session.{source_of, left_of, may_read, is_opened, data_in, HasStopped, IsSessionAt, with_message_read, AfterOpen, AfterNext, AfterLoad}
use Rattle.link_wire.specs.Source.{window_of, front_of, reach, IsLive, HasEnded, HasFailed, AfterReadyFront}
use Rattle.link_wire.specs.declared.IoFault.{IoFault}
use Rattle.link_wire.specs.declared.IoFault.TheVariants as io
use Rattle.link_wire.specs.declared.{Source.Source, fault.Stop.Stop}
use Rattle.link_wire.specs.declared.fault.Stop.TheVariants as stop
use Rattle.link_wire.specs.declared.message.{Contact.Contact, Message.Message, MessageBuffer.MessageBuffer}
use Rattle.link_wire.specs.declared.session.Session.{Session}
use Rattle.link_run.specs.Run.{Looks, WaitLog, IsWaitOfPlace, WaitsAtMostOnce}
use Rattle.link_run.specs.Writers.{place_of, on_output, next_line, Writes, FailedSettle}
use Rattle.link_run.specs.declared.{input.Input.Input, writers.Writers.Writers}

module _ {S W E : Type 0} where
  -- the session or the source inside an input
  abbrev pub feed_of : Input S W E → S
  feed_of input = input.feed

  -- the waits of a run for this input so far, and the feed and writers with which it was made
  abbrev pub waits_of : Input S W E → WaitLog S W E
  waits_of input = input.log.waits

module _ {R W E : Type 0} (look : Looks R W E)
    (old new : Session R) (before after : Writers W E) where
  -- A writer failed to hand on what was written before the call, and nothing was read. The window
  -- was not full.
  pub record NotHandedOn (why : Stop) : Type 0 where
    pub fault : IoFault
    pub is : why ≡ stop.Io fault
    pub unread : new ≡ old
    pub few : length (window_of (source_of old)) < window_size
    pub unsettled : FailedSettle look.output look.report before after fault

  -- The call added no text. The session gave the contact header, or stopped. If a writer failed to
  -- hand on what was written before the call, `NotHandedOn` holds instead.
  abbrev pub AfterFetchContact : Result Contact Stop → Type 0
  AfterFetchContact (Ok contact) =
      Writes look.output look.report before after (on_output [])
      × AfterOpen look.input old new (Ok contact)
  AfterFetchContact (Err why) =
      (Writes look.output look.report before after (on_output [])
      × AfterOpen look.input old new (Err why))
      ⊎ NotHandedOn why

  -- The call added no text. The session gave this message, or `None` at the end of the stream, or
  -- stopped. If a writer failed to hand on what was written before the call, `NotHandedOn` holds
  -- instead.
  abbrev pub AfterFetchMessage : (history : List ℕ) → Result (Option (ℕ × Message)) Stop → Type 0
  AfterFetchMessage history (Ok next) =
      Writes look.output look.report before after (on_output [])
      × AfterNext look.input old new history (Ok next)
  AfterFetchMessage history (Err why) =
      (Writes look.output look.report before after (on_output [])
      × AfterNext look.input old new history (Err why))
      ⊎ NotHandedOn why

  -- The call added no text. The session made data of the open segment ready, or stopped. If a
  -- writer failed to hand on what was written before the call, `NotHandedOn` holds instead.
  abbrev pub AfterFetchData : (history : List ℕ) → Result ℕ Stop → Type 0
  AfterFetchData history (Ok n) =
      Writes look.output look.report before after (on_output [])
      × AfterLoad look.input old new history (Ok n)
  AfterFetchData history (Err why) =
      (Writes look.output look.report before after (on_output [])
      × AfterLoad look.input old new history (Err why))
      ⊎ NotHandedOn why

-- The call added no text. The source made bytes ready, ended or stopped. If a writer failed to hand
-- on what was written before the call, the source is unchanged, and its window was not full.
abbrev pub AfterFetchBytes : {R W E : Type 0} → Looks R W E → (old new : Source R)
    → (before after : Writers W E) → Result ℕ IoFault → Type 0
AfterFetchBytes look old new before after (Ok n) =
    Writes look.output look.report before after (on_output [])
    × AfterReadyFront look.input old new (Ok n)
AfterFetchBytes look old new before after (Err fault) =
    (Writes look.output look.report before after (on_output [])
    × AfterReadyFront look.input old new (Err fault))
    ⊎ ((new ≡ old) × (length (window_of old) < window_size)
    × FailedSettle look.output look.report before after fault)

-- a call read nothing, and did not wait
pub record ReadsNothing {S R W E : Type 0} (look : R → Seen) (source : S → Source R)
    (old new : Input S W E) : Type 0 where
  pub reach : reach look (source (feed_of new)) ≡ reach look (source (feed_of old))
  pub waits : waits_of new ≡ waits_of old

-- A call waits at most once, before it reads, and after all that was written was handed on. Without
-- a wait, it reads nothing.
abbrev pub CallWaitsAtMostOnce : {S R W E : Type 0} → Looks R W E → (source : S → Source R)
    → (old new : Input S W E) → (before : Writers W E) → Type 0
CallWaitsAtMostOnce look source old new before =
    WaitsAtMostOnce look.input (source (feed_of old)) (source (feed_of new)) (waits_of old) (waits_of new)
    (IsWaitOfPlace look (place_of (source (feed_of old)) before))

-- `CallWaitsAtMostOnce` for a call that reads from a session
abbrev pub SessionWaitsAtMostOnce : {R W E : Type 0} → Looks R W E
    → (old new : Input (Session R) W E)
    → (before : Writers W E) → Type 0
SessionWaitsAtMostOnce look old new before = CallWaitsAtMostOnce look source_of old new before

-- what holds after a call that reads the contact header
pub record FetchesContact {R W E : Type 0} (look : Looks R W E)
    (old new : Input (Session R) W E) (before after : Writers W E)
    (result : Result Contact Stop) : Type 0 where
  pub opened : IfOk result (λ contact. IsTrue (is_opened (feed_of new)))
  pub may_read : IfOk result (λ contact. IsTrue (may_read (feed_of new)))
  pub gives : AfterFetchContact look (feed_of old) (feed_of new) before after result
  pub waits : SessionWaitsAtMostOnce look old new before
  -- after an error, as much data of the open segment is to come as before
  pub left : IfErr result (λ why. left_of (feed_of new) ≡ left_of (feed_of old))
  pub line : next_line after ≡ next_line before

-- what holds after a call that reads the head of the next message into `message`
pub record FetchesMessage {R W E : Type 0} (look : Looks R W E)
    (old new : Input (Session R) W E) (before after : Writers W E)
    (message : MessageBuffer) (result : Result (Option ℕ) Stop) : Type 0 where
  pub opened : IsTrue (is_opened (feed_of new))
  pub gives : (history : List ℕ) → IsSessionAt look.input (feed_of old) history
      → AfterFetchMessage look (feed_of old) (feed_of new) before after history
      (with_message_read (message_of message) result)
  pub waits : (history : List ℕ) → IsSessionAt look.input (feed_of old) history
      → SessionWaitsAtMostOnce look old new before
  -- if the message is a segment, the total of each Transfer Length item of 8 bytes was kept
  pub totals : IfOk result (λ got. IfSome got (λ offset. IfSegmentItemsHaveTotals message))
  -- after an error, as much data of the open segment is to come as before
  pub left : IfErr result (λ why. left_of (feed_of new) ≡ left_of (feed_of old))
  pub line : next_line after ≡ next_line before
  pub stopped : (why : Stop) → HasStopped (feed_of old) why
      → (new ≡ old) × (after ≡ before) × (result ≡ Err why)

-- what holds after a call that makes data of the segment ready
pub record FetchesData {R W E : Type 0} (look : Looks R W E)
    (old new : Input (Session R) W E) (before after : Writers W E)
    (result : Result ℕ Stop) : Type 0 where
  pub size : IfOk result (λ n. n ≡ length (data_in look.input (feed_of new)))
  -- if data is at hand already, nothing is handed on
  pub here : 0 < length (data_in look.input (feed_of old)) → after ≡ before
  pub opened : IsTrue (is_opened (feed_of old)) → IsTrue (is_opened (feed_of new))
  pub gives : (history : List ℕ) → IsSessionAt look.input (feed_of old) history
      → AfterFetchData look (feed_of old) (feed_of new) before after history result
  pub waits : (history : List ℕ) → IsSessionAt look.input (feed_of old) history
      → SessionWaitsAtMostOnce look old new before
  -- after an error, as much data of the open segment is to come as before
  pub left : IfErr result (λ why. left_of (feed_of new) ≡ left_of (feed_of old))
  pub line : next_line after ≡ next_line before
  pub stopped : (why : Stop) → HasStopped (feed_of old) why
      → (new ≡ old) × (after ≡ before) × (result ≡ Err why)

-- The source had ended or failed, and `again` is what it returned then. The call returned it again,
-- or a writer failed to hand on what was written.
abbrev pub AfterLoadOfEndedSource : {R W E : Type 0} → Looks R W E → (before after : Writers W E)
    → (again result : Result ℕ IoFault) → Type 0
AfterLoadOfEndedSource look before after again result =
    ((result ≡ again) × Writes look.output look.report before after (on_output []))
    ⊎ ((result ≡ Err io.Write) × FailedSettle look.output look.report before after io.Write)

-- what holds after a call that makes bytes ready
pub record FetchesBytes {R W E : Type 0} (look : Looks R W E)
    (old new : Input (Source R) W E) (before after : Writers W E)
    (result : Result ℕ IoFault) : Type 0 where
  pub size : IfOk result (λ n. n ≡ length (front_of look.input (feed_of new)))
  -- if bytes are at hand, nothing is handed on or read
  pub here : 0 < length (front_of look.input (feed_of old))
      → (new ≡ old) × (after ≡ before) × (result ≡ Ok (length (front_of look.input (feed_of old))))
  pub gives : IsLive look.input (feed_of old)
      → AfterFetchBytes look (feed_of old) (feed_of new) before after result
  pub waits : CallWaitsAtMostOnce look (λ source. source) old new before
  pub line : next_line after ≡ next_line before
  pub ended : HasEnded (feed_of old)
      → (feed_of new ≡ feed_of old) × AfterLoadOfEndedSource look before after (Ok 0) result
  pub failed : (fault : IoFault) → HasFailed (feed_of old) fault
      → (feed_of new ≡ feed_of old) × AfterLoadOfEndedSource look before after (Err fault) result
