-- What a tool over transfers makes of a reading: where it stops, and that a fault at which it stops
-- stays.
use Rattle.std.proofs.Common.{arith, ◌≡◌, ℕ, ◌<◌, true, false, List, [], ◌∷◌, ◌++◌, Option, Some, None, refl, ap, sym, ◌∙◌, ⊎_elim, append_assoc}
use Rattle.std.specs.List.{fold}
use Rattle.std.proofs.lemmas.List.Folds.{fold_stays}
use Rattle.link_wire.specs.{Device.Input, Session.{IsSizeOfDataLeft, left_of}}
use Rattle.link_wire.specs.Stream.{Entry, End, Clean, Cut, Fault, Stream, Reading, reading_of, cut_heads}
use Rattle.link_wire.specs.declared.session.Session.{Session}
use Rattle.link_wire.proofs.Contacts.{reading-none}
use Rattle.link_transfer.specs.{declared.fault.OrderFault.OrderFault}
use Rattle.link_transfer.specs.declared.joiner.Joiner.{Joiner}
use Rattle.link_run.specs.Made.{Made, HasLastingFaults, shows_fault, stop_of}
use Rattle.link_run.proofs.Continued.{LastGoesOn, ReadingGoesOn, reading_on}
use Rattle.link_run.proofs.Sessions.{IsUncut, SameTexts}
use Rattle.link_run_over_transfers.specs.Walk.{WalkEvent, Walked, with_entry_unless, with_next, none_walked, walked_of, walked, Telling, stop_by, told_by, told_of}
use Rattle.link_run_over_transfers.specs.declared.consumer.Manner.{Manner}
use Rattle.link_run_over_transfers.specs.{WalkRun.{StageFits, IsWalkAt, walked_before}, declared.walk.Stage.Stage}
use Rattle.link_run_over_transfers.specs.declared.walk.Stage.TheVariants as stage
use Rattle.link_run_over_transfers.proofs.Heads.{entry}

-- what the tool makes of a reading
abbrev pub by_reading : Telling → Reading → Made
by_reading telling reading = told_by telling reading.end (walked telling.manner reading)

pub told_of-reading : (telling : Telling) (bytes : List ℕ)
    → told_of telling bytes ≡ by_reading telling (reading_of bytes)
unfolding told_of
told_of-reading telling bytes = refl

pub texts_are : (telling : Telling) (bytes : List ℕ)
    → (told_of telling bytes).texts
    ≡ telling.texts (walked telling.manner (reading_of bytes)).events
texts_are telling bytes = ap (λ (m : Made). m.texts) (told_of-reading telling bytes)

-- a run that has not been ended by a head stops where the reading does
pub stop_is : (telling : Telling) (reading : Reading)
    → (walked telling.manner reading).refused ≡ None
    → (by_reading telling reading).stop ≡ stop_of reading.end
stop_is telling reading none = ap (λ refused. stop_by refused reading.end) none

cut_heads-nil : (end : End) → IsUncut end → cut_heads end ≡ []
cut_heads-nil end is = grind arith

-- bytes that complete no head add no text
pub same_texts : (telling : Telling) (first : Reading)
    → (walked telling.manner first).refused ≡ None → cut_heads first.end ≡ [] → SameTexts (by_reading telling) first
same_texts telling first unrefused none = λ other same is.
    let walks : walked telling.manner other ≡ walked telling.manner first =
    rw (same.contact, same.entries, none, cut_heads-nil other.end is) refl in (
      ap (λ (w : Walked). telling.texts w.events) walks,
      stop_is telling other (ap (λ (w : Walked). w.refused) walks ∙ unrefused),
    )

-- ---- the state

waiting_unshown : (now : Stage) (before : Walked) (end : End) → StageFits now before end
    → shows_fault (stop_of end) ≡ false
waiting_unshown now before end fits = grind arith

-- between two messages, and inside data, no fault is shown
pub at_unshown : (telling : Telling) (now : Stage) (bytes : List ℕ)
    → (walked telling.manner (reading_of bytes)).refused ≡ None
    → StageFits now (walked_before telling.manner (reading_of bytes)) (reading_of bytes).end
    → shows_fault (told_of telling bytes).stop ≡ false
at_unshown telling now bytes unrefused fits =
    let reading = reading_of bytes in
    rw (told_of-reading telling bytes, stop_is telling reading unrefused)
    (waiting_unshown now (walked_before telling.manner reading) reading.end fits)

-- if the reading waits for data, some is to come
some_left : (now : Stage) (before : Walked) (offset left : ℕ) (end : End)
    → IsSizeOfDataLeft offset left end → StageFits now before end → (now ≡ stage.Message → ⊥) → 0 < left
some_left now before offset left Clean is fits in_segment = absurd (in_segment fits)
some_left now before offset left (Cut from sent content) is fits in_segment = is.0
some_left now before offset left (Fault from fault) is fits in_segment = absurd is

pub some_to_come : {R C : Type 0} {look : R → Input} {telling : Telling}
    {knows : C → List WalkEvent → Type 0} {now : Stage} {session : Session R} {joiner : Joiner}
    {consumer : C} {history : List ℕ} → IsWalkAt look telling knows now session joiner consumer history
    → (now ≡ stage.Message → ⊥) → 0 < left_of session
some_to_come {telling = telling} {now = now} {session = session} {history = history} walks
    in_segment =
    let reading = reading_of history in
    some_left now (walked_before telling.manner reading) session.offset session.left reading.end
    walks.session_at.left walks.at.fits in_segment

-- ---- no bytes

pub nothing_told : (manner : Manner) → walked manner (reading_of []) ≡ none_walked None
unfolding walked_of
nothing_told manner = ap (walked manner) reading-none

module _ (telling : Telling) where
  nothing_refused : (walked telling.manner (reading_of [])).refused ≡ None
  nothing_refused = ap (λ (w : Walked). w.refused) (nothing_told telling.manner)

  pub nothing_shown : shows_fault (told_of telling []).stop ≡ false
  nothing_shown =
      rw (told_of-reading telling [], stop_is telling (reading_of []) nothing_refused, reading-none) refl

  pub before_all : SameTexts (by_reading telling) (reading_of [])
  before_all =
      same_texts telling (reading_of []) nothing_refused
      (ap (λ (r : Reading). cut_heads r.end) reading-none)

-- ---- a run that ends at a head

abbrev with_all : Manner → Walked → List Entry → Walked
with_all manner told heads = fold (with_next manner) told heads

module _ (manner : Manner) where
  -- after the head at which the run ends, nothing changes
  all_same : (was : Walked) (stop : ℕ × OrderFault) (heads : List Entry)
      → was.refused ≡ Some stop → with_all manner was heads ≡ was
  all_same was stop heads is =
      fold_stays (with_next manner) was
      (λ head. ap (λ r. with_entry_unless r manner was head) is) heads

  module _ (was : Walked) (head : Entry) (content : List ℕ) (stop : ℕ × OrderFault) where
    abbrev grown : Entry
    grown = entry head.offset head.message content

    unless_same : (refused : Option (ℕ × OrderFault))
        → (with_entry_unless refused manner was head).refused ≡ Some stop
        → with_entry_unless refused manner was grown ≡ with_entry_unless refused manner was head
    unless_same refused is = grind arith

  -- the run ends at the last head, whatever comes of its data and after it
  last_same : (last more : List Entry) (was : Walked) (stop : ℕ × OrderFault)
      → LastGoesOn last more → (with_all manner was last).refused ≡ Some stop
      → with_all manner was more ≡ with_all manner was last
  last_same [] more was stop follows is = all_same was stop more is
  last_same (head ∷ []) more was stop follows is =
      let same : with_next manner was (grown was head (head.content ++ follows.piece) stop)
      ≡ with_next manner was head =
      unless_same was head (head.content ++ follows.piece) stop was.refused is in
      ap (with_all manner was) follows.are
      ∙ ap (λ (w : Walked). with_all manner w follows.others) same
      ∙ all_same (with_next manner was head) stop follows.others is
  last_same (head ∷ other ∷ rest) more was stop follows is = absurd follows

  parts_same : (front last more : List Entry) (was : Walked) (stop : ℕ × OrderFault)
      → LastGoesOn last more → (with_all manner was (front ++ last)).refused ≡ Some stop
      → with_all manner was (front ++ more) ≡ with_all manner was (front ++ last)
  parts_same [] last more was stop follows is = last_same last more was stop follows is
  parts_same (head ∷ front) last more was stop follows is =
      parts_same front last more (with_next manner was head) stop follows is

  -- the run ends at the same head, whatever bytes follow
  walked_stays : (before after : Reading) (stop : ℕ × OrderFault) → ReadingGoesOn before after
      → (walked manner before).refused ≡ Some stop
      → (before.contact ≡ None → cut_heads before.end ≡ [])
      → walked manner after ≡ walked manner before
  unfolding walked_of
  walked_stays before after stop on is none =
      let rest = on.messages.rest in
      let same : after.contact ≡ before.contact =
      ⊎_elim (λ same. same)
      (λ unread.
      let bad : ◌≡◌ {A = Option (ℕ × OrderFault)} None (Some stop) =
      rw (unread.1, none unread.0) at is in
      absurd (cc))
      on.contact in
      rw (
        same,
        ap (λ (s : Stream). s.entries ++ cut_heads s.end) on.messages.are,
        append_assoc before.entries rest.entries (cut_heads rest.end),
      )
      (parts_same before.entries (cut_heads before.end) (rest.entries ++ cut_heads rest.end)
      (none_walked before.contact) stop on.messages.follows is)

-- without a contact header no message is read
pub unread : (bytes : List ℕ) → (reading_of bytes).contact ≡ None
    → cut_heads (reading_of bytes).end ≡ []
unfolding reading_of
unread bytes is = grind arith

module _ (telling : Telling) (bytes more : List ℕ) where
  -- a run that has ended at a head makes the same of all longer inputs
  pub told_stays : (offset : ℕ) (fault : OrderFault)
      → (walked telling.manner (reading_of bytes)).refused ≡ Some (offset, fault)
      → told_of telling (bytes ++ more) ≡ told_of telling bytes
  unfolding told_of
  told_stays offset fault is =
      let after = reading_of (bytes ++ more) in
      ap (told_by telling after.end)
      (walked_stays telling.manner (reading_of bytes) after (offset, fault) (reading_on bytes more)
      is (unread bytes))
      ∙ rw is refl

  stays_by : (refused : Option (ℕ × OrderFault))
      → (walked telling.manner (reading_of bytes)).refused ≡ refused
      → shows_fault (told_of telling bytes).stop ≡ true
      → told_of telling (bytes ++ more) ≡ told_of telling bytes
  unfolding told_of
  stays_by (Some (offset, fault)) is shown = told_stays offset fault is
  stays_by None is shown =
      ap (by_reading telling)
      ((reading_on bytes more).stays
      (sym (ap shows_fault (stop_is telling (reading_of bytes) is)) ∙ shown))

  -- where a fault is shown, more bytes change nothing
  pub made_stays : shows_fault (told_of telling bytes).stop ≡ true
      → told_of telling (bytes ++ more) ≡ told_of telling bytes
  made_stays shown = stays_by (walked telling.manner (reading_of bytes)).refused refl shown

-- a fault that is shown stays the same
pub told_lasts : (telling : Telling) → HasLastingFaults (told_of telling)
told_lasts telling bytes more shown =
    ap (λ (m : Made). shows_fault m.stop) (made_stays telling bytes more shown) ∙ shown
