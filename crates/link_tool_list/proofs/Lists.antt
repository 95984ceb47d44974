-- What holds after a step of `list`, by the result of its call of the session.
use Rattle.std.proofs.Common.{◌≡◌, ℕ, ◌+◌, ◌<◌, ◌≤◌, Bool, true, false, IsTrue, List, [], ◌∷◌, ◌++◌, length, length-append, inl, Result, Ok, refl, ap, sym, ◌∙◌, append-nil, append_assoc, arith}
use Rattle.std.proofs.lemmas.{Bool.{lt-ltb, le-ltb}, Grind.flat_map-append}
use Rattle.link_wire.specs.{Device.Input, Limits.{window_size, longest_head}, Message.data_length}
use Rattle.link_wire.specs.Source.{window_of, Takes, Readies}
use Rattle.link_wire.specs.Stream.{Entry, End, Clean, Cut, Fault, Stream, Reading, reading_of}
use Rattle.link_wire.specs.Whole.{GivenWholeMessage}
use Rattle.link_wire.specs.Session.{source_of, left_of, joined, GivenContact, GivenHead, ReachedEnd, PassedBytes}
use Rattle.link_wire.specs.declared.{IoFault.IoFault, message.Contact.Contact}
use Rattle.link_wire.specs.declared.{message.Message.Message, session.Session.Session}
use Rattle.link_wire.proofs.Contacts.{reading-none}
use Rattle.link_io.proofs.Sources.{Takes-none, Takes-then, Readies-takes}
use Rattle.link_report.specs.Message.{contact_text, message_text}
use Rattle.link_run.specs.Made.{HasLastingFaults, shows_fault, stop_of}
use Rattle.link_run.specs.Run.{Texts, no_texts, ◌then◌, Looks, Devices, DevicesInRun, EndingStep, progress_after}
use Rattle.link_run.specs.Stages.{IsRunAt, AfterStage, HasEmptyStartLastingFaults}
use Rattle.link_run.specs.Writers.{place_of, on_output, AfterWrite}
use Rattle.link_run.specs.declared.{next.Next.Next, run.Progress.Progress, run.Status.Status}
use Rattle.link_run.specs.declared.run.Progress.TheVariants.{More}
use Rattle.link_run.specs.declared.next.Next.TheVariants as next
use Rattle.link_run.specs.declared.writers.Writers.{Writers}
use Rattle.link_run.proofs.Continued.{reading_on}
use Rattle.link_run.proofs.Runs.{then_assoc, few_over, writes_none}
use Rattle.link_run.proofs.{Sessions.SameTexts, Stands.{ends, goes_on, written}, Strides.went_with}
use Rattle.link_tool_list.specs.Listing.{contact_lines, message_lines, listed_lines, listing_by, listing_of, list_tool}
use Rattle.link_tool_list.specs.ListRun.{most_by, may_go_on, may_follow, IfInSegmentNoDataGiven, IsListingAtBy, IsListingAtStage, IsLineDue, AreLinesTo, ListsOn, AfterRead, AfterMessageLines, AfterStepOrStride, NextStageFits}
use Rattle.link_tool_list.specs.declared.listing.Stage.{Stage}
use Rattle.link_tool_list.specs.declared.listing.Stage.TheVariants as stage

-- each step may be given a byte
pub most_some : (piece : ℕ) (now : Stage) → 0 < piece → 0 < most_by piece now
most_some piece stage.Data some = some
most_some piece others some = omega arith

-- the stage that is left
pub at_message : (now : Stage) → (now ≡ stage.Data → ⊥) → (now ≡ stage.Contact → ⊥)
    → now ≡ stage.Message
at_message stage.Contact no_data no_contact = absurd (no_contact refl)
at_message stage.Message no_data no_contact = refl
at_message stage.Data no_data no_contact = absurd (no_data refl)

-- ---- what `list` makes of a reading

pub by_reading : (bytes : List ℕ) → listing_of bytes ≡ listing_by (reading_of bytes)
unfolding listing_of
by_reading bytes = refl

-- the lines of a reading, followed by those of the stream after it
lines_joined : (reading : Reading) (more : Stream)
    → listed_lines (joined reading more) ≡ listed_lines reading ++ message_lines more.entries
unfolding message_lines
lines_joined reading more = rw flat_map-append (sym (append_assoc (contact_lines reading.contact) (message_lines reading.entries) (message_lines more.entries)))

one_line : (entry : Entry) → message_lines (entry ∷ []) ≡ message_text entry.offset entry.message
unfolding message_lines
one_line entry = append-nil (message_text entry.offset entry.message)

no_lines : message_lines [] ≡ []
unfolding message_lines
no_lines = refl

pub nothing_listed : (listing_of []).texts ≡ no_texts
nothing_listed = rw (by_reading, reading-none, no_lines) refl

lasting : HasLastingFaults listing_of
unfolding listing_of
lasting bytes more shown = rw ((reading_on bytes more).stays shown) shown

pub may_begin : HasEmptyStartLastingFaults listing_of true
may_begin = record {
  texts = nothing_listed;
  unshown = rw (by_reading, reading-none) refl;
  lasting = lasting;
}

-- a reading with the same messages has the same lines
pub same_texts : (reading : Reading) → SameTexts listing_by reading
same_texts reading = λ other same uncut.
    (rw (same.contact, same.entries) refl, refl)

module _ (history given : List ℕ) (more : Stream)
    (is : reading_of (history ++ given) ≡ joined (reading_of history) more) where
  texts_are : (listing_of (history ++ given)).texts ≡ on_output (listed_lines (reading_of history) ++ message_lines more.entries)
  texts_are = rw (by_reading, is, lines_joined) refl

  texts_were : (listing_of history).texts ≡ on_output (listed_lines (reading_of history))
  texts_were = rw by_reading refl

  -- the bytes that follow complete no message, so no line is added
  texts_same : more.entries ≡ [] → (listing_of history).texts then no_texts ≡ (listing_of (history ++ given)).texts
  texts_same none = rw (texts_were, texts_are, none, no_lines, append-nil) refl

  -- the bytes that follow complete one message, so its line is added
  texts_one : (entry : Entry) → more.entries ≡ entry ∷ []
      → (listing_of history).texts then on_output (message_text entry.offset entry.message) ≡ (listing_of (history ++ given)).texts
  texts_one entry one = rw (texts_were, texts_are, one, one_line) refl

  unshown_by : shows_fault (stop_of more.end) ≡ false → shows_fault (listing_of (history ++ given)).stop ≡ false
  unshown_by unshown = rw (by_reading, is) unshown

-- a reading that ends between two messages shows no fault
clean_unshown : (bytes : List ℕ) → (reading_of bytes).end ≡ Clean → shows_fault (listing_of bytes).stop ≡ false
clean_unshown bytes clean = rw (by_reading, clean) refl

-- ---- the contact header

module _ {R W E : Type 0} {look : Looks R W E} {start : Devices R W E} (old new : Session R)
    (mid after : Writers W E)
    (at : IsRunAt look listing_of start true (place_of (source_of old) mid) []) (contact : Contact)
    (got : GivenContact look.input old new contact) where
  contact_texts : (listing_of []).texts then on_output (contact_text contact) ≡ (listing_of got.given).texts
  contact_texts =
      rw (nothing_listed, by_reading, got.reading, no_lines, append-nil (contact_text contact)) refl

  pub contact_listed : (line : List ℕ) (result : Result (Unit {0}) IoFault)
      → AfterWrite look.output look.report mid after (on_output (contact_text contact)) result
      → AfterStage look listing_of start true (place_of (source_of old) mid) (place_of (source_of new) after) (IsListingAtBy look.input stage.Message line new) 6 [] (progress_after result)
  contact_listed line result gives =
      let size = got.size in
      let clean : (reading_of got.given).end ≡ Clean = rw got.reading refl in
      written 6 (source_of old) (source_of new) mid at got.takes (omega arith) (got.takes.window.less (omega arith)) after (on_output (contact_text contact)) contact_texts
      (clean_unshown got.given clean) (IsListingAtBy look.input stage.Message line new)
      (λ begun. omega arith) (record { session_at = got.at; fits = rw clean refl })
      (λ some. refl) result gives

-- ---- messages

module _ {R W E : Type 0} {look : Looks R W E} {start : Devices R W E} (old new : Session R)
    (w : Writers W E) {history : List ℕ}
    (at : IsRunAt look listing_of start true (place_of (source_of old) w) history) where
  module _ (offset : ℕ) (message : Message)
      (got : GivenHead look.input old new history offset message) where
    few : length (window_of (source_of new)) < window_size
    few = got.takes.window.less got.some

    pub message_read : (piece : ℕ) (later : Next Stage) → NextStageFits (left_of new) later
        → AfterRead look start piece stage.Message old new w (message_text offset message) history later
    message_read piece (next.Stage stage.Message) none =
        let left = got.left in
        let reading = rw (le-ltb 0 (data_length message) (omega arith)) at got.reading in
        record {
          given = got.given;
          some = got.some;
          takes = got.takes;
          size = got.size;
          few = few;
          stood = at;
          texts = texts_one history got.given _ reading _ refl;
          session_at = got.at;
          clean = rw reading refl;
        }
    message_read piece (next.Stage stage.Data) more =
        let left = got.left in
        let reading = rw (lt-ltb 0 (data_length message) (omega arith)) at got.reading in
        let end : (reading_of (history ++ got.given)).end ≡ Cut offset message [] =
        rw reading refl in
        goes_on longest_head (source_of old) (source_of new) w at got.takes got.size few w no_texts
        (texts_same history got.given _ reading refl) (unshown_by history got.given _ reading refl)
        (λ bytes. IsListingAtBy look.input stage.Data (message_text offset message) new bytes × IfInSegmentNoDataGiven stage.Message (reading_of bytes).end)
        (λ begun. got.some)
        (record { session_at = got.at; fits = rw end (refl, refl) }, rw end refl)
        (writes_none look.output look.report w) (λ some. refl)
    message_read piece others goes = absurd goes

  -- the stream has ended between two messages
  pub clean_ended : (status : Status) → status.0 ≡ 0 → ReachedEnd look.input old new history
      → EndingStep look list_tool start (place_of (source_of new) w) longest_head history (Ok status)
  clean_ended status zero got =
      let made_is : listing_of (history ++ []) ≡ listing_by (reading_of history) =
      rw append-nil (by_reading history) in
      let stop_is : (listing_of (history ++ [])).stop ≡ stop_of Clean =
      rw (made_is, got.clean) refl in
      ends longest_head (source_of old) (source_of new) w at got.takes (omega arith) (few_over look.input (source_of new) got.over) w no_texts
      (rw (stop_is, made_is, by_reading, append-nil) refl) (inl (got.over, rw stop_is refl))
      (Ok status)
      (writes_none look.output look.report w, rw (stop_is, made_is) zero)

-- ---- data

-- the reading ends inside the data of a segment, and the segment's line waits
pub record Inside (line history : List ℕ) (left : ℕ) : Type 0 where
  pub offset : ℕ
  pub message : Message
  pub content : List ℕ
  pub end : (reading_of history).end ≡ Cut offset message content
  pub shown : line ≡ message_text offset message
  pub some : 0 < left

by_end : {R : Type 0} {look : R → Input} (session : Session R) (line history : List ℕ)
    → IsListingAtBy look stage.Data line session history → (end : End) → (reading_of history).end ≡ end
    → Inside line history (left_of session)
by_end session line history at Clean is =
    let waiting : (let s : Stage = stage.Data in s) ≡ stage.Message = rw is at at.fits in
    absurd (cc)
by_end session line history at (Cut offset message content) is =
    let waiting = rw is at at.fits in
    let left = rw is at at.session_at.left in
    record { offset = offset; message = message; content = content; end = is; shown = waiting.1; some = left.0 }
by_end session line history at (Fault offset fault) is =
    absurd (rw is at at.fits)

pub inside : {R : Type 0} {look : R → Input} (session : Session R) (line history : List ℕ)
    → IsListingAtBy look stage.Data line session history → Inside line history (left_of session)
inside session line history at = by_end session line history at (reading_of history).end refl

module _ {R W E : Type 0} {look : Looks R W E} {start : Devices R W E} (old mid new : Session R)
    (w : Writers W E) {line history : List ℕ} (bytes : List ℕ)
    (at : IsRunAt look listing_of start true (place_of (source_of old) w) history)
    (within : Inside line history (left_of old))
    (ready : Readies look.input (source_of old) (source_of mid))
    (gave : PassedBytes look.input mid new history bytes) (some : 0 < length bytes)
    {piece : ℕ} (size : length bytes ≤ piece) where
  takes : Takes look.input (source_of old) (source_of new) bytes
  takes = Readies-takes look.input (source_of old) (source_of mid) (source_of new) bytes ready gave.takes some

  pub data_read : (later : Next Stage) → NextStageFits (left_of new) later
      → AfterRead look start piece stage.Data old new w line history later
  data_read (next.Stage stage.Message) none =
      let reading = rw (within.end, le-ltb 0 (left_of new) (omega arith)) at gave.reading in
      record {
        given = bytes;
        some = some;
        takes = takes;
        size = size;
        few = takes.window.less some;
        stood = at;
        texts = rw within.shown (texts_one history bytes _ reading _ refl);
        session_at = gave.at;
        clean = rw reading refl;
      }
  data_read (next.Stage stage.Data) more =
      let reading = rw (within.end, lt-ltb 0 (left_of new) more) at gave.reading in
      let end : (reading_of (history ++ bytes)).end
      ≡ Cut within.offset within.message (within.content ++ bytes) = rw reading refl in
      goes_on piece (source_of old) (source_of new) w at takes size (takes.window.less some) w no_texts
      (texts_same history bytes _ reading refl) (unshown_by history bytes _ reading refl)
      (λ given. IsListingAtBy look.input stage.Data line new given × IfInSegmentNoDataGiven stage.Data (reading_of given).end)
      (λ begun. some) (record { session_at = gave.at; fits = rw end (refl, within.shown) }, tt)
      (writes_none look.output look.report w) (λ begun. refl)
  data_read others goes = absurd goes

-- ---- the line that is due, and those of the messages after it

module _ {R : Type 0} (look : R → Input) (first : Texts) (old : Session R) {history : List ℕ} where
  -- nothing was given yet
  pub listed_none : (lines : List ℕ) → AreLinesTo look first old lines history
      → ListsOn look first old old lines history
  listed_none lines is = record {
    given = [];
    takes = Takes-none look (source_of old);
    listed = rw (append-nil history) is;
  }

  -- one more message was given
  pub listed_more : (mid new : Session R) (lines : List ℕ) (offset : ℕ) (message : Message)
      → (on : ListsOn look first old mid lines history)
      → GivenWholeMessage look mid new (history ++ on.given) offset message
      → ListsOn look first old new (lines ++ message_text offset message) history
  listed_more mid new lines offset message on got =
      let passed = got.passed in
      let line = message_text offset message in
      record {
        given = on.given ++ got.given;
        takes = Takes-then look (source_of old) (source_of mid) (source_of new) on.given got.given on.takes passed.takes;
        listed = rw (← append_assoc history on.given got.given) (record {
          session_at = passed.at;
          clean = rw passed.reading refl;
          texts = then_assoc first (on_output lines) (on_output line)
              ∙ ap (λ t. t then on_output line) on.listed.texts
              ∙ texts_one (history ++ on.given) got.given _ passed.reading _ refl;
        });
      }

module _ {R W E : Type 0} {look : Looks R W E} {start : Devices R W E} {piece : ℕ} {now : Stage}
    (old mid new : Session R) (before after : Writers W E) {line history : List ℕ}
    (due : IsLineDue look start piece now old mid before line history) where
  -- the message whose line is due is the latest of those so far
  pub due_listed : AreLinesTo look.input (listing_of history).texts mid line (history ++ due.given)
  due_listed = record { session_at = due.session_at; clean = due.clean; texts = due.texts }

  same_given : (given : List ℕ) → Takes look.input (source_of mid) (source_of new) given → new ≡ mid
      → length given ≡ 0
  same_given given takes same =
      let count = rw same at takes.count in omega (arith, count)

  pub lines_written : (far : Bool) (last : List ℕ) (result : Result (Unit {0}) IoFault)
      → (far ≡ false → new ≡ mid)
      → AfterMessageLines look (listing_of history).texts mid new before after (history ++ due.given) result
      → AfterStepOrStride look start piece far now (place_of (source_of old) before) (place_of (source_of new) after) (IsListingAtBy look.input stage.Message last new) history (progress_after result)
  lines_written far last result near gives =
      let on = gives.2 in
      let bytes = due.given ++ on.given in
      let all : (history ++ due.given) ++ on.given ≡ history ++ bytes = append_assoc history due.given on.given in
      let listed = rw all at on.listed in
      let size = most_by piece now + length on.given in
      let takes = Takes-then look.input (source_of old) (source_of mid) (source_of new) due.given on.given due.takes on.takes in
      let some : 0 < length bytes = omega (arith, due.some, length-append due.given on.given) in (
        size,
        λ is. omega (arith, same_given on.given on.takes (near is)),
        omega (arith, due.some, due.size),
        written size (source_of old) (source_of new) before due.stood takes (omega (arith, due.size, length-append due.given on.given)) (takes.window.less some) after (on_output gives.0) listed.texts
            (clean_unshown (history ++ bytes) listed.clean) (IsListingAtBy look.input stage.Message last new) (λ begun. some)
            (record { session_at = listed.session_at; fits = rw listed.clean refl })
            (λ some. refl) result gives.1,
      )

-- what holds after a step that did not go on
pub not_far : {R W E : Type 0} (look : Looks R W E) (start : Devices R W E) (piece : ℕ)
    (far : Bool) (now : Stage) (old new : DevicesInRun R W E) (knows : List ℕ → Type 0) (history : List ℕ)
    (result : Result Progress IoFault) → 0 < piece
    → AfterStage look listing_of start true old new knows (most_by piece now) history result
    → AfterStepOrStride look start piece far now old new knows history result
not_far look start piece far now old new knows history result some gives =
    (most_by piece now, λ is. refl, most_some piece now some, gives)

-- ---- what comes next, where no line is due

-- the session permits the step at the stage that comes next
pub goes_kept : {R : Type 0} (later : Stage) (session : Session R)
    → IsTrue (may_follow (next.Stage later) session) → IsTrue (may_go_on later session)
goes_kept stage.Contact session fits = absurd (cc)
goes_kept later session fits = fits

-- data comes next
pub step_kept : {R W E : Type 0} (look : Looks R W E) (start : Devices R W E) (piece : ℕ)
    (far : Bool) (now : Stage) (old new : Session R) (before after : Writers W E)
    (line history : List ℕ) → 0 < piece → (later : Stage) → (later ≡ stage.Message → ⊥)
    → AfterRead look start piece now old new after line history (next.Stage later)
    → AfterStepOrStride look start piece far now (place_of (source_of old) before)
    (place_of (source_of new) after) (IsListingAtStage look.input later line new) history (Ok More)
step_kept look start piece far now old new before after line history some stage.Contact undue went = absurd went
step_kept look start piece far now old new before after line history some stage.Message undue went = absurd (undue refl)
step_kept look start piece far now old new before after line history some stage.Data undue went =
    (most_by piece now, λ is. refl, most_some piece now some, went_with went (went.at.0, went.at.1.0))
