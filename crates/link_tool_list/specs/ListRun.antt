-- Relations, but for IsNewListing, IsListingAtBy, by_stage: the state of a run of `list`.
use Rattle.std.specs.Prelude.{◌≡◌, ℕ, ◌<◌, ◌≤◌, Bool, true, false, List, [], ◌++◌, length, Result}
use Rattle.link_wire.specs.Device.{Input}
use Rattle.link_wire.specs.Limits.{longest_head, window_size}
use Rattle.link_wire.specs.Stream.{End, Clean, Cut, Fault, reading_of}
use Rattle.link_wire.specs.MessageBuffer.{message_of}
use Rattle.link_wire.specs.Session.{source_of, IsSessionAt, may_open, may_read, is_opened}
use Rattle.link_wire.specs.Source.{Takes, window_of}
use Rattle.link_wire.specs.declared.{IoFault.IoFault, session.Session.Session}
use Rattle.link_report.specs.Message.{message_text}
use Rattle.link_run.specs.Run.{Texts, Looks, ◌then◌, Devices, DevicesInRun, EndingStep, ContinuedStep}
use Rattle.link_run.specs.Stages.{IsRunAt, AfterStage}
use Rattle.link_run.specs.Writers.{place_of, on_output, AfterWrite}
use Rattle.link_run.specs.declared.{next.Next.Next, run.Progress.Progress}
use Rattle.link_run.specs.declared.next.Next.TheVariants as next
use Rattle.link_run.specs.declared.writers.Writers.{Writers}
use Rattle.link_tool_list.specs.Listing.{list_tool, listing_of}
use Rattle.link_tool_list.specs.declared.listing.{Latest.Latest, Stage.Stage}
use Rattle.link_tool_list.specs.declared.listing.Stage.TheVariants as stage

-- one number for the contact header, one for the head of a message, and one for a piece of data
abbrev pub by_stage : (contact head piece : ℕ) → Stage → ℕ
by_stage contact head piece stage.Contact = contact
by_stage contact head piece stage.Message = head
by_stage contact head piece stage.Data = piece

-- the most bytes that a step at this stage is given: the 6 bytes of a contact header, the bytes of
-- the longest head, or `piece` bytes of data
abbrev pub most_by : (piece : ℕ) → Stage → ℕ
most_by piece now = by_stage 6 longest_head piece now

-- whether the session permits the call that a step at this stage makes
abbrev pub may_go_on : {R : Type 0} → Stage → Session R → Bool
may_go_on stage.Contact session = may_open session
may_go_on stage.Message session = may_read session
may_go_on stage.Data session = is_opened session

-- Whether the session permits the next call, once a step has read a head or a piece of data. That
-- call never reads the contact header. After the end of the run, no call comes, so any session will
-- do.
abbrev pub may_follow : {R : Type 0} → Next Stage → Session R → Bool
may_follow (next.Stage stage.Contact) session = false
may_follow (next.Stage stage.Message) session = may_read session
may_follow (next.Stage stage.Data) session = is_opened session
may_follow (next.Ended answer) session = true

-- the line of the message that was read last, whole or not
abbrev pub latest_line : Latest → List ℕ
latest_line latest = message_text latest.offset (message_of latest.message)

-- The stage and `line` agree with how the reading of the bytes so far ends. Between two messages, a
-- message comes next, and `line` may be anything. Inside the data of a segment, data comes next,
-- and `line` is the line of the segment, which is written after the data. If the reading ends with
-- a fault, no stage fits.
abbrev pub StageFits : Stage → List ℕ → End → Type 0
StageFits now line Clean = (now ≡ stage.Message)
StageFits now line (Cut offset message content) =
    (now ≡ stage.Data) × (line ≡ message_text offset message)
StageFits now line (Fault offset fault) = ⊥

-- After a step at the stage `Message`, the reading may end inside a segment. Then none of the
-- segment's data was given, since such a step reads only a head.
abbrev pub IfInSegmentNoDataGiven : Stage → End → Type 0
IfInSegmentNoDataGiven stage.Message (Cut offset message content) = content ≡ []
IfInSegmentNoDataGiven now end = Unit {0}

module _ {R : Type 0} (look : R → Input) where
  -- a run that begins was given nothing
  pub record IsNewListing (session : Session R) (history : List ℕ) : Type 0 where
    pub nothing : history ≡ []
    pub opens : may_open session ≡ true

  -- the state of a run that was given these bytes, the contact header among them
  pub record IsListingAtBy (now : Stage) (line : List ℕ) (session : Session R)
      (history : List ℕ) : Type 0 where
    pub session_at : IsSessionAt look session history
    pub fits : StageFits now line (reading_of history).end

  -- the state at each stage; `line` is the line of the message that was read last
  abbrev pub IsListingAtStage : Stage → (line : List ℕ) → Session R → (history : List ℕ) → Type 0
  IsListingAtStage stage.Contact line session history = IsNewListing session history
  IsListingAtStage stage.Message line session history = IsListingAtBy stage.Message line session
      history
  IsListingAtStage stage.Data line session history = IsListingAtBy stage.Data line session history

module _ {R W E : Type 0} (look : Looks R W E) (start : Devices R W E) (piece : ℕ) (now : Stage)
    (old new : Session R) (writers : Writers W E) (line history : List ℕ) where
  -- the message is whole, and only its line is still to be written
  pub record IsLineDue : Type 0 where
    pub given : List ℕ
    pub some : 0 < length given
    pub takes : Takes look.input (source_of old) (source_of new) given
    pub size : length given ≤ most_by piece now
    pub few : length (window_of (source_of new)) < window_size
    pub stood : IsRunAt look listing_of start true (place_of (source_of old) writers) history
    pub texts : (listing_of history).texts then on_output line
        ≡ (listing_of (history ++ given)).texts
    pub session_at : IsSessionAt look.input new (history ++ given)
    pub clean : (reading_of (history ++ given)).end ≡ Clean

  -- What holds once a step has read a head or a piece of data. If a message comes next, the line of
  -- the message before it is due. If more data comes next, the run is at the bytes so far. The
  -- contact header never comes next. Otherwise the run has ended.
  abbrev pub AfterRead : Next Stage → Type 0
  AfterRead (next.Stage stage.Contact) = ⊥
  AfterRead (next.Stage stage.Message) = IsLineDue
  AfterRead (next.Stage stage.Data) =
      ContinuedStep (source_of old) (source_of new)
      (λ bytes. IsRunAt look listing_of start true (place_of (source_of new) writers) bytes
      × (IsListingAtBy look.input stage.Data line new bytes
      × IfInSegmentNoDataGiven now (reading_of bytes).end)) (most_by piece now) history
  AfterRead (next.Ended answer) =
      EndingStep look list_tool start (place_of (source_of new) writers) (most_by piece now) history
      answer

module _ {R : Type 0} (look : R → Input) (first : Texts) where
  -- Between two messages, after the texts `first`, these lines make the texts of the bytes so far.
  pub record AreLinesTo (session : Session R) (lines history : List ℕ) : Type 0 where
    pub session_at : IsSessionAt look session history
    pub clean : (reading_of history).end ≡ Clean
    pub texts : first then on_output lines ≡ (listing_of history).texts

  -- Some whole messages were given after the history, or none. With these lines, the texts `first`
  -- become the texts of all bytes so far.
  pub record ListsOn (old new : Session R) (lines history : List ℕ) : Type 0 where
    pub given : List ℕ
    pub takes : Takes look (source_of old) (source_of new) given
    pub listed : AreLinesTo new lines (history ++ given)

-- Some whole messages were given after the history, or none. The lines were written with which the
-- texts `first` become the texts of all bytes so far, or a writer failed while writing them.
abbrev pub AfterMessageLines : {R W E : Type 0} → Looks R W E → (first : Texts)
    → (old new : Session R)
    → (before after : Writers W E) → (history : List ℕ) → Result (Unit {0}) IoFault → Type 0
AfterMessageLines look first old new before after history result =
    (lines : List ℕ) × AfterWrite look.output look.report before after (on_output lines) result
    × ListsOn look.input first old new lines history

-- What holds after a step, or after a stride if `far` is true. `size` bounds the bytes that were
-- given. For a step, it is `most_by`. For a stride, it may be any number.
abbrev pub AfterStepOrStride : {R W E : Type 0} → Looks R W E → Devices R W E → (piece : ℕ)
    → (far : Bool) → (now : Stage) → (old new : DevicesInRun R W E) → (knows : List ℕ → Type 0)
    → (history : List ℕ) → Result Progress IoFault → Type 0
AfterStepOrStride look start piece far now old new knows history result =
    (size : ℕ) × (far ≡ false → size ≡ most_by piece now) × (0 < size)
    × AfterStage look listing_of start true old new knows size history result

-- `left` is the number of data bytes to come. If it is 0, a message comes next, and else data. The
-- contact header does not come next, and the run does not end.
abbrev pub NextStageFits : (left : ℕ) → Next Stage → Type 0
NextStageFits left (next.Stage stage.Message) = left ≡ 0
NextStageFits left (next.Stage stage.Data) = 0 < left
NextStageFits left _ = ⊥
