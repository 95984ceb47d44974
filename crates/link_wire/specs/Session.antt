-- The state of a session in the reading of the bytes that it was given.
use Rattle.std.specs.Prelude.{◌≡◌, ℕ, zero, suc, ◌+◌, ◌<◌, ◌≤◌, Bool, true, false, ◌&&◌, ◌==◌, List, [], ◌++◌, length, take, drop, Option, Some, None, Result, Ok, Err, nat_lt, if◌then◌else◌, IfOk, IfErr, IfSome, IsTrue}
use Rattle.link_io.specs.Device.{Input}
use Rattle.link_wire.specs.Getting.{IfTruncatedNothingFollows, IsEnoughFor}
use Rattle.link_wire.specs.Limits.{longest_head, window_size}
use Rattle.link_wire.specs.Message.{data_length, contact_at, message_at}
use Rattle.link_wire.specs.MessageBuffer.{message_of, IfSegmentItemsHaveTotals}
use Rattle.link_io.specs.Source.{IsSourceAt, IsLive, IsOver, HasEnded, Takes, Readies, TakesThenStops, is_fresh, window_of, at_hand, front_of}
use Rattle.link_wire.specs.Stream.{End, Clean, Cut, Fault, Stream, ended, with_entry, stream_at, Reading, reading_of}
use Rattle.link_io.specs.declared.fault.IoFault.{IoFault}
use Rattle.link_wire.specs.declared.fault.Stop.{Stop}
use Rattle.link_wire.specs.declared.fault.Stop.TheVariants as stop
use Rattle.link_wire.specs.declared.fault.WireFault.{WireFault}
use Rattle.link_wire.specs.declared.fault.WireFault.TheVariants as wire
use Rattle.link_wire.specs.declared.message.{Contact.Contact, Message.Message}
use Rattle.link_wire.specs.declared.{message.MessageBuffer.MessageBuffer, session.Phase.Phase}
use Rattle.link_wire.specs.declared.session.Phase.TheVariants as phase
use Rattle.link_wire.specs.declared.session.Session.{Session}
use Rattle.link_io.specs.declared.source.Source.{Source}

-- the reading, with the messages of `rest` after its own, and with the end of `rest` in place of
-- its end
abbrev pub joined : Reading → Stream → Reading
joined reading rest =
    record { contact = reading.contact; entries = reading.entries ++ rest.entries; end = rest.end }

-- The reading after the head of one more message. A message without data is then whole. If the
-- message has data, the reading ends before the first byte of that data.
abbrev pub with_message : ℕ → Message → Reading → Reading
with_message offset message reading =
    joined reading (if nat_lt 0 (data_length message)
    then ended (Cut offset message [])
    else with_entry (record { offset = offset; message = message; content = [] }) (ended Clean))

-- The stream that replaces the end of a reading when `bytes` are read, too. These are the next data
-- of the open segment, and `left` more bytes of its data are to come. If `left` is 0, the segment
-- is whole, and the reading ends between two messages. A segment is open only at the end `Cut`, so
-- the other two ends stay as they are.
abbrev pub data_after : ℕ → List ℕ → End → Stream
data_after left bytes Clean = ended Clean
data_after left bytes (Cut offset message content) =
    if nat_lt 0 left
    then ended (Cut offset message (content ++ bytes))
    else with_entry (record { offset = offset; message = message; content = content ++ bytes })
    (ended Clean)
data_after left bytes (Fault offset fault) = ended (Fault offset fault)

-- The reading when `bytes` are read, too. These are the next data of the open segment, and `left`
-- more bytes of its data are to come.
abbrev pub with_data : ℕ → List ℕ → Reading → Reading
with_data left bytes reading = joined reading (data_after left bytes reading.end)

-- The stream that is read from `bytes`, which follow the bytes given and begin at the offset
-- `next`. Between two messages, it is messages. Inside a segment, it is the missing `left` bytes of
-- the segment's data, and then messages. If there are fewer bytes, the stream ends inside the data.
-- After a fault, nothing more is read.
abbrev pub rest_after : ℕ → ℕ → End → List ℕ → Stream
rest_after next left Clean bytes = stream_at next bytes
rest_after next left (Cut offset message content) bytes =
    if nat_lt (length bytes) left
    then ended (Cut offset message (content ++ bytes))
    else with_entry (record {
      offset = offset;
      message = message;
      content = content ++ take left bytes;
    }) (stream_at (next + left) (drop left bytes))
rest_after next left (Fault offset fault) bytes = ended (Fault offset fault)

-- `left` bytes of data are to come after a reading with this end. Between two messages, `left` is
-- 0. Inside a segment, the segment is at `offset`, and `left` is the length of the rest of its
-- data. After a fault, this never holds.
abbrev pub IsSizeOfDataLeft : ℕ → ℕ → End → Type 0
IsSizeOfDataLeft offset left Clean = left ≡ 0
IsSizeOfDataLeft offset left (Cut at message content) =
    (0 < left) × (at ≡ offset) × (data_length message ≡ length content + left)
IsSizeOfDataLeft offset left (Fault at fault) = ⊥

-- The reading ends between two messages, or inside the contact header or the head of a message,
-- where a field is missing. More bytes may mend a missing field. The relation does not hold if the
-- reading ends inside the data of a segment.
abbrev pub IsEndBeforeOrInHead : End → Type 0
IsEndBeforeOrInHead Clean = Unit {0}
IsEndBeforeOrInHead (Cut offset message content) = ⊥
IsEndBeforeOrInHead (Fault offset fault) = fault ≡ wire.Truncated

-- These bytes are enough for what comes next. If `left` bytes of data are to come, one of them
-- comes next. Otherwise the head of a message does.
abbrev pub IsEnough : (left : ℕ) → List ℕ → Type 0
IsEnough zero bytes = IsEnoughFor message_at bytes
IsEnough (suc left) bytes = 0 < length bytes

-- both readings have the same contact header and messages
pub record AreSameUpToEnd (first second : Reading) : Type 0 where
  pub contact : second.contact ≡ first.contact
  pub entries : second.entries ≡ first.entries

-- After the history, a proper prefix of the bytes makes no message, and shows no fault.
abbrev pub AreNeededToDecide : (history bytes : List ℕ) → Type 0
AreNeededToDecide history bytes =
    (count : ℕ) → count < length bytes
    → AreSameUpToEnd (reading_of history) (reading_of (history ++ take count bytes))
    × IsEndBeforeOrInHead (reading_of (history ++ take count bytes)).end

-- `open` was not called
abbrev pub is_unopened : Phase → Bool
is_unopened phase.Unopened = true
is_unopened phase.Reading = false
is_unopened (phase.Stopped why) = false

-- `open` was called, and has returned a contact header or a stop
abbrev pub past_opening : Phase → Bool
past_opening phase.Unopened = false
past_opening phase.Reading = true
past_opening (phase.Stopped why) = true

-- `may_read`, by the phase of a session and the number of bytes of data that are to come
abbrev pub reads_next : Phase → ℕ → Bool
reads_next phase.Unopened left = false
reads_next phase.Reading left = left == 0
reads_next (phase.Stopped why) left = true

module _ {R : Type 0} where
  -- the source that the session reads
  abbrev pub source_of : Session R → Source R
  source_of session = session.source

  -- the number of bytes of the open segment's data that are to come; 0 between two messages
  abbrev pub left_of : Session R → ℕ
  left_of session = session.left

  -- The contact header may be read: `open` was not called, no data is to come, and the source has
  -- taken nothing.
  abbrev pub may_open : Session R → Bool
  may_open session = is_unopened session.phase && (session.left == 0 && is_fresh session.source)

  -- The next message may be read: the contact header was read and no data is to come, or the
  -- session has stopped. In the second case, `next` returns that stop again.
  abbrev pub may_read : Session R → Bool
  may_read session = reads_next session.phase session.left

  -- `open` was called, and has returned a contact header or a stop
  abbrev pub is_opened : Session R → Bool
  is_opened session = past_opening session.phase

  -- the session has stopped for this reason
  abbrev pub HasStopped : Session R → Stop → Type 0
  HasStopped session why = session.phase ≡ phase.Stopped why

  -- The input has ended, and the session has not stopped. An input that ends inside a message stops
  -- the session, so this one has ended between two messages.
  abbrev pub HasEndedBetween : Session R → Type 0
  HasEndedBetween session = (session.phase ≡ phase.Reading) × HasEnded session.source

  -- the data of the open segment that is at hand
  abbrev pub data_in : (R → Input) → Session R → List ℕ
  data_in look session = take session.left (front_of look session.source)

  -- The session was given exactly these bytes, which begin with a whole contact header, and it met
  -- no fault. It is at the end of their reading, and reads whatever bytes follow from there. If no
  -- data is to come, the window is not full.
  pub record IsSessionAt (look : R → Input) (session : Session R) (history : List ℕ) : Type 0 where
    pub at : IsSourceAt session.source history
    pub live : IsLive look session.source
    pub going : session.phase ≡ phase.Reading
    pub contact : Contact
    pub has_contact : (reading_of history).contact ≡ Some contact
    pub left : IsSizeOfDataLeft session.offset session.left (reading_of history).end
    pub few : session.left ≡ 0 → length (window_of session.source) < window_size
    pub goes_on : (more : List ℕ)
        → reading_of (history ++ more)
        ≡ joined (reading_of history)
        (rest_after (length history) session.left (reading_of history).end more)

  -- the bytes at hand are enough for the contact header
  abbrev pub HasEnoughForContact : (R → Input) → Session R → Type 0
  HasEnoughForContact look session = IsEnoughFor contact_at (at_hand look session.source)

  -- the bytes at hand are enough for what comes next
  abbrev pub HasEnoughForNext : (R → Input) → Session R → Type 0
  HasEnoughForNext look session = IsEnough session.left (at_hand look session.source)

  -- These bytes are read as `reading`, alone and with any bytes that may follow
  -- (`IfTruncatedNothingFollows`). If the fault is a missing field, no byte of the input is left.
  -- So the whole input is read as `reading`.
  pub record HasMetFault (look : R → Input) (source : Source R) (history : List ℕ) (fault : WireFault)
      (reading : Reading) : Type 0 where
    pub over : fault ≡ wire.Truncated → IsOver look source
    pub all : (more : List ℕ) → IfTruncatedNothingFollows fault more
        → reading_of (history ++ more) ≡ reading

-- The result of a call that reads a message, with the message beside its offset. The call itself
-- wrote the message into its caller's buffer.
abbrev pub with_message_read : Message → Result (Option ℕ) Stop → Result (Option (ℕ × Message)) Stop
with_message_read message (Ok None) = Ok None
with_message_read message (Ok (Some offset)) = Ok (Some (offset, message))
with_message_read message (Err why) = Err why

module _ {R : Type 0} where
  -- The results of the calls of a session that was given this history.

  -- the contact header was read
  pub record GivenContact (look : R → Input) (old new : Session R)
      (contact : Contact) : Type 0 where
    pub given : List ℕ
    pub takes : Takes look old.source new.source given
    pub reading : reading_of given ≡ record { contact = Some contact; entries = []; end = Clean }
    pub size : length given ≡ 6
    pub shown_last : AreNeededToDecide [] given
    pub at : IsSessionAt look new given
    pub between : left_of new ≡ 0

  -- The contact header has a fault. Of its six bytes, none is given after the one that shows the
  -- fault.
  pub record RefusedContact (look : R → Input) (old new : Session R) (offset : ℕ)
      (fault : WireFault) : Type 0 where
    pub given : List ℕ
    pub takes : Takes look old.source new.source given
    pub size : length given ≤ 6
    pub offset_is : offset ≡ 0
    pub is_read : HasMetFault look new.source given fault
        (record { contact = None; entries = []; end = Fault 0 fault })
    pub shown_last : AreNeededToDecide [] given
    pub stopped : HasStopped new (stop.Wire offset fault)

  -- A device failed before the end of the contact header, or the input passed its limit there. The
  -- given bytes are too few for a contact header. They show no fault except that they are too few.
  pub record FailedContact (look : R → Input) (old new : Session R)
      (fault : IoFault) : Type 0 where
    pub given : List ℕ
    pub stops : TakesThenStops look old.source new.source given fault
    pub size : length given < 6
    pub shown_last : AreNeededToDecide [] given
    pub reading : reading_of given
        ≡ record { contact = None; entries = []; end = Fault 0 wire.Truncated }
    pub stopped : HasStopped new (stop.Io fault)

  -- what holds after `open`, by its result
  abbrev pub AfterOpen : (R → Input) → Session R → Session R → Result Contact Stop → Type 0
  AfterOpen look old new (Ok contact) = GivenContact look old new contact
  AfterOpen look old new (Err (stop.Wire offset fault)) =
      RefusedContact look old new offset fault
  AfterOpen look old new (Err (stop.Io fault)) = FailedContact look old new fault

  -- the head of a message was read
  pub record GivenHead (look : R → Input) (old new : Session R) (history : List ℕ) (offset : ℕ)
      (message : Message) : Type 0 where
    pub given : List ℕ
    pub takes : Takes look old.source new.source given
    pub some : 0 < length given
    pub size : length given ≤ longest_head
    pub offset_is : offset ≡ length history
    pub left : left_of new ≡ data_length message
    pub shown_last : AreNeededToDecide history given
    pub reading : reading_of (history ++ given) ≡ with_message offset message (reading_of history)
    pub at : IsSessionAt look new (history ++ given)

  -- no message: the stream ends between two messages
  pub record ReachedEnd (look : R → Input) (old new : Session R) (history : List ℕ) : Type 0 where
    pub takes : Takes look old.source new.source []
    pub over : IsOver look new.source
    pub clean : (reading_of history).end ≡ Clean
    pub at : IsSessionAt look new history

  -- The message after the history has the first fault. At most `longest_head` bytes of the message
  -- are given, and none after the one that shows the fault.
  pub record RefusedMessage (look : R → Input) (old new : Session R) (history : List ℕ) (offset : ℕ)
      (fault : WireFault) : Type 0 where
    pub given : List ℕ
    pub takes : Takes look old.source new.source given
    pub size : length given ≤ longest_head
    pub offset_is : offset ≡ length history
    pub is_read : HasMetFault look new.source (history ++ given) fault
        (joined (reading_of history) (ended (Fault offset fault)))
    pub shown_last : AreNeededToDecide history given
    pub stopped : HasStopped new (stop.Wire offset fault)

  -- A failure before or inside a message. The bytes given of that message make no message, and show
  -- no fault.
  pub record FailedMessage (look : R → Input) (old new : Session R) (history : List ℕ)
      (fault : IoFault) : Type 0 where
    pub given : List ℕ
    pub stops : TakesThenStops look old.source new.source given fault
    pub size : length given < longest_head
    pub shown_last : AreNeededToDecide history given
    pub same : AreSameUpToEnd (reading_of history) (reading_of (history ++ given))
    pub undecided : IsEndBeforeOrInHead (reading_of (history ++ given)).end
    pub stopped : HasStopped new (stop.Io fault)

  -- what holds after a call that reads the next message, by its result
  abbrev pub AfterNext : (R → Input) → Session R → Session R → List ℕ
      → Result (Option (ℕ × Message)) Stop → Type 0
  AfterNext look old new history (Ok None) = ReachedEnd look old new history
  AfterNext look old new history (Ok (Some (offset, message))) =
      GivenHead look old new history offset message
  AfterNext look old new history (Err (stop.Wire offset fault)) =
      RefusedMessage look old new history offset fault
  AfterNext look old new history (Err (stop.Io fault)) = FailedMessage look old new history fault

  -- these bytes of the open segment's data were given
  pub record PassedBytes (look : R → Input) (old new : Session R)
      (history bytes : List ℕ) : Type 0 where
    pub takes : Takes look old.source new.source bytes
    pub left : left_of old ≡ length bytes + left_of new
    pub reading : reading_of (history ++ bytes) ≡ with_data (left_of new) bytes (reading_of history)
    pub at : IsSessionAt look new (history ++ bytes)

  -- `n` bytes of data were copied, at least one if some are to come and there is room
  pub record CopiedData (look : R → Input) (old new : Session R)
      (history buffer : List ℕ) (n : ℕ) : Type 0 where
    pub room : n ≤ length buffer
    pub gave : PassedBytes look old new history (take n buffer)
    pub some : 0 < left_of old → 0 < length buffer → 0 < n

  -- `n` bytes of the open segment's data are at hand, at least one if some are to come;
  -- nothing was given
  pub record LoadedData (look : R → Input) (old new : Session R)
      (history : List ℕ) (n : ℕ) : Type 0 where
    pub readies : Readies look old.source new.source
    pub left : left_of new ≡ left_of old
    pub at : IsSessionAt look new history
    pub size : n ≡ length (data_in look new)
    pub some : 0 < left_of old → 0 < n

  -- the input has ended inside the data of the segment at the offset
  pub record CutData (look : R → Input) (old new : Session R) (history : List ℕ) (offset : ℕ)
      (fault : WireFault) : Type 0 where
    pub kind : fault ≡ wire.Truncated
    pub takes : Takes look old.source new.source []
    pub over : IsOver look new.source
    pub message : Message
    pub content : List ℕ
    pub cut : (reading_of history).end ≡ Cut offset message content
    pub stopped : HasStopped new (stop.Wire offset fault)

  -- a failure inside the data: nothing was given
  pub record FailedData (look : R → Input) (old new : Session R) (fault : IoFault) : Type 0 where
    pub stops : TakesThenStops look old.source new.source [] fault
    pub stopped : HasStopped new (stop.Io fault)

  -- what holds after `data`, by its result; `buffer` is the slice after the call
  abbrev pub AfterData : (R → Input) → Session R → Session R → List ℕ
      → List ℕ → Result ℕ Stop → Type 0
  AfterData look old new history buffer (Ok n) = CopiedData look old new history buffer n
  AfterData look old new history buffer (Err (stop.Wire offset fault)) =
      CutData look old new history offset fault
  AfterData look old new history buffer (Err (stop.Io fault)) = FailedData look old new fault

  -- what holds after a call that makes data ready, by its result
  abbrev pub AfterLoad : (R → Input) → Session R → Session R → List ℕ → Result ℕ Stop → Type 0
  AfterLoad look old new history (Ok n) = LoadedData look old new history n
  AfterLoad look old new history (Err (stop.Wire offset fault)) =
      CutData look old new history offset fault
  AfterLoad look old new history (Err (stop.Io fault)) = FailedData look old new fault

  -- Each call that reads the next message into `message` ensures this.
  pub record ReadsNext (look : R → Input) (old new : Session R) (message : MessageBuffer)
      (result : Result (Option ℕ) Stop) : Type 0 where
    pub stops_with : IfErr result (HasStopped new)
    pub left : IfErr result (λ _. left_of new ≡ left_of old)
    pub again : HasEndedBetween old → (new ≡ old) × (result ≡ Ok None)
    pub gives : (history : List ℕ) → IsSessionAt look old history
        → AfterNext look old new history (with_message_read (message_of message) result)
    -- the items of a segment have their totals
    pub totals : IfOk result (λ got. IfSome got (λ offset. IfSegmentItemsHaveTotals message))
    pub opened : IsTrue (is_opened new)
    pub stopped : (why : Stop) → HasStopped old why → (new ≡ old) × (result ≡ Err why)

  -- Each call that makes data of the open segment ready ensures this.
  pub record LoadsData (look : R → Input) (old new : Session R)
      (result : Result ℕ Stop) : Type 0 where
    pub size : IfOk result (λ n. n ≡ length (data_in look new))
    pub stops_with : IfErr result (HasStopped new)
    pub left : IfErr result (λ _. left_of new ≡ left_of old)
    pub gives : (history : List ℕ) → IsSessionAt look old history
        → AfterLoad look old new history result
    pub opened : IsTrue (is_opened old) → IsTrue (is_opened new)
    -- if data is at hand already, nothing is read
    pub here : 0 < length (data_in look old) → new ≡ old
    pub none_left : left_of old ≡ 0 → ((why : Stop) → HasStopped old why → ⊥)
        → (new ≡ old) × (result ≡ Ok 0)
    pub stopped : (why : Stop) → HasStopped old why → (new ≡ old) × (result ≡ Err why)
