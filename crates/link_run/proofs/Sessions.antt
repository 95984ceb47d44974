-- How a run ends if its session stops. The tool depends only on the reading of its input.
use Rattle.std.proofs.Common.{◌≡◌, ℕ, ◌<◌, ◌≤◌, inl, inr, true, false, List, [], ◌++◌, length, take, Some, None, Result, Err, ⊎_elim, refl, ap, sym, ◌∙◌, append-nil, arith}
use Rattle.link_wire.specs.Limits.{window_size, longest_head}
use Rattle.link_wire.specs.Source.{window_of, Takes, TakesThenStops}
use Rattle.link_wire.specs.Stream.{End, Clean, Cut, Fault, Reading, reading_of, ended}
use Rattle.link_wire.specs.Session.{source_of, joined, IsSessionAt, HasMetFault, IsEndBeforeOrInHead, AreSameUpToEnd, AreNeededToDecide, AfterOpen, AfterNext, AfterLoad}
use Rattle.link_wire.specs.declared.{IoFault.IoFault, Source.Source, fault.Stop.Stop}
use Rattle.link_wire.specs.declared.fault.Stop.TheVariants as stop
use Rattle.link_wire.specs.declared.{fault.WireFault.WireFault, session.Session.Session}
use Rattle.link_wire.proofs.Contacts.{reading-none}
use Rattle.link_report.specs.{Fault.fault_text, declared.fault.Fault.Fault as ReportedFault}
use Rattle.link_report.specs.declared.fault.Fault.TheVariants.{Wire}
use Rattle.link_run.specs.Made.{Made, with_fault, whole_by, shows_fault, tool_of, is_lasting, stop_of}
use Rattle.link_run.specs.Reading.{NotHandedOn, AfterFetchContact, AfterFetchMessage, AfterFetchData}
use Rattle.link_run.specs.{Run.{Texts, ◌then◌, Looks, Devices, EndingStep}, Stages.IsRunAt}
use Rattle.link_run.specs.Writers.{place_of, on_report, AfterLastWrite, AfterStop}
use Rattle.link_run.specs.declared.{run.Status.Status, writers.Writers.Writers}
use Rattle.link_run.proofs.Ends.{lasts, few_at_fault, undecided_unshown, standing_unshown}
use Rattle.link_run.proofs.Runs.{few_over, texts_as}
use Rattle.link_run.proofs.Stands.{ends, read_fails, settled, not_handed_on}

-- the reading does not end inside the data of a segment
abbrev pub IsUncut : End → Type 0
IsUncut Clean = Unit {0}
IsUncut (Cut offset message content) = ⊥
IsUncut (Fault offset fault) = Unit {0}

undecided_uncut : (end : End) → IsEndBeforeOrInHead end → IsUncut end
undecided_uncut end is = grind arith

-- For every reading with the same messages the tool writes the same texts, and it stops where that
-- reading ends.
abbrev pub SameTexts : (Reading → Made) → Reading → Type 0
SameTexts of first =
    (other : Reading) → AreSameUpToEnd first other → IsUncut other.end
    → ((of other).texts ≡ (of first).texts) × ((of other).stop ≡ stop_of other.end)

-- the texts, followed by the line of a fault
pub then_fault : (fault : ReportedFault) (texts : Texts)
    → texts then on_report (fault_text fault) ≡ with_fault fault texts
then_fault fault texts = texts_as (append-nil texts.output) refl

-- a part of a message shows no fault before its last byte
pub part_unshown : (of : Reading → Made) (history given : List ℕ)
    → SameTexts of (reading_of history) → AreNeededToDecide history given
    → (count : ℕ) → count < length given
    → shows_fault (of (reading_of (history ++ take count given))).stop ≡ false
part_unshown of history given same last count less =
    let part = last count less in
    ap shows_fault (same (reading_of (history ++ take count given)) part.0 (undecided_uncut _ part.1)).1
    ∙ undecided_unshown _ part.1

module _ {R W E : Type 0} {look : Looks R W E} {made : List ℕ → Made} {start : Devices R W E}
    {history : List ℕ} (of : Reading → Made) (is : (bytes : List ℕ) → made bytes ≡ of (reading_of bytes))
    (most : ℕ) (old new : Source R) (before after : Writers W E)
    (at : IsRunAt look made start true (place_of old before) history) where
  -- a fault of the wire is reported
  wire_fault : {given : List ℕ} (offset : ℕ) (fault : WireFault) (reading : Reading)
      (answer : Result Status IoFault)
      → Takes look.input old new given → length given ≤ most → length (window_of new) < window_size
      → HasMetFault look.input new (history ++ given) fault reading
      → (of reading).texts ≡ (made history).texts
      → (of reading).stop ≡ Some (record { fault = Wire offset fault; lasts = is_lasting fault })
      → ((count : ℕ) → count < length given
      → shows_fault (of (reading_of (history ++ take count given))).stop ≡ false)
      → AfterLastWrite look.output look.report before after (on_report (fault_text (Wire offset fault))) 3 answer
      → EndingStep look (tool_of made) start (place_of new after) most history answer
  wire_fault {given} offset fault reading answer takes size few read texts stops shown_last gives =
      let bytes = history ++ given in
      let m_is : made bytes ≡ of reading =
      is bytes ∙ ap of (ap reading_of (sym (append-nil bytes)) ∙ read.all [] (λ e. refl)) in
      let stop_is : (made bytes).stop ≡ Some (record { fault = Wire offset fault; lasts = is_lasting fault }) =
      ap (λ (m : Made). m.stop) m_is ∙ stops in
      let whole : (made history).texts then on_report (fault_text (Wire offset fault))
      ≡ (whole_by (made bytes).stop (made bytes)).texts =
      rw (stop_is, m_is, texts) (then_fault (Wire offset fault) (made history).texts) in
      ends most old new before at takes size few after (on_report (fault_text (Wire offset fault))) whole
      (⊎_elim
      (λ e. inl (read.over e, ap shows_fault stop_is ∙ ap is_lasting e))
      (λ e. inr (
        ap shows_fault stop_is ∙ e.1,
        λ more. is (bytes ++ more) ∙ ap of (read.all more (λ cut. absurd (e.0 cut))) ∙ sym m_is,
        λ count less. ap (λ (m : Made). shows_fault m.stop) (is (history ++ take count given)) ∙ shown_last count less,
      ))
      (lasts fault))
      answer (rw stop_is gives)

  -- the reader failed
  reader_fault : {given : List ℕ} (fault : IoFault) (answer : Result Status IoFault)
      → TakesThenStops look.input old new given fault → length given ≤ most
      → (of (reading_of (history ++ given))).texts ≡ (made history).texts
      → shows_fault (of (reading_of (history ++ given))).stop ≡ false
      → answer ≡ Err fault → after ≡ before
      → EndingStep look (tool_of made) start (place_of new after) most history answer
  reader_fault {given} fault answer stops size texts unshown gives same =
      let m_is = is (history ++ given) in
      read_fails most old new before at given after fault answer stops size (sym (ap (λ (m : Made). m.texts) m_is ∙ texts)) (ap (λ (m : Made). shows_fault m.stop) m_is ∙ unshown) gives same

module _ {R W E : Type 0} {look : Looks R W E} {made : List ℕ → Made} {start : Devices R W E}
    {history : List ℕ} (of : Reading → Made) (is : (bytes : List ℕ) → made bytes ≡ of (reading_of bytes)) where
  module _ (old new : Session R) (before : Writers W E)
      (at : IsRunAt look made start true (place_of (source_of old) before) history) where
    here : (made history).texts ≡ (of (reading_of history)).texts
    here = ap (λ (m : Made). m.texts) (is history)

    -- the session stopped before a message or inside its head
    pub message_stops : (after : Writers W E) → IsSessionAt look.input old history
        → SameTexts of (reading_of history)
        → (why : Stop) (answer : Result Status IoFault)
        → AfterNext look.input old new history (Err why)
        → AfterStop look.output look.report why before after answer
        → EndingStep look (tool_of made) start (place_of (source_of new) after) longest_head history answer
    message_stops after session same (stop.Wire offset fault) answer got gives =
        let kept = same (joined (reading_of history) (ended (Fault offset fault))) (record { contact = refl; entries = append-nil _ }) tt in
        wire_fault of is longest_head (source_of old) (source_of new) before after at offset fault _ answer got.takes got.size
        (few_at_fault look.input (source_of old) (source_of new) history got.given offset fault _ got.takes got.is_read refl (standing_unshown old.offset old.left _ session.left))
        got.is_read (kept.0 ∙ sym here) kept.1 (part_unshown of history got.given same got.shown_last) gives
    message_stops after session same (stop.Io fault) answer got gives =
        let kept = same (reading_of (history ++ got.given)) got.same (undecided_uncut _ got.undecided) in
        let size = got.size in
        reader_fault of is longest_head (source_of old) (source_of new) before after at fault answer got.stops (omega arith)
        (kept.0 ∙ sym here) (ap shows_fault kept.1 ∙ undecided_unshown _ got.undecided) gives.0 gives.1

    -- the session stopped inside the data of a segment
    pub data_stops : (most : ℕ) (after : Writers W E) → IsSessionAt look.input old history
        → (of (reading_of history)).stop ≡ stop_of (reading_of history).end
        → (why : Stop) (answer : Result Status IoFault)
        → AfterLoad look.input old new history (Err why)
        → AfterStop look.output look.report why before after answer
        → EndingStep look (tool_of made) start (place_of (source_of new) after) most history answer
    data_stops most after session stops (stop.Wire offset fault) answer got gives =
        let cut : (of (reading_of history)).stop ≡ Some (record { fault = Wire offset fault; lasts = is_lasting fault }) =
        stops ∙ ap stop_of got.cut ∙ ap (λ f. Some (record { fault = Wire offset f; lasts = is_lasting f })) (sym got.kind) in
        wire_fault of is most (source_of old) (source_of new) before after at offset fault (reading_of history) answer got.takes (omega arith)
        (few_over look.input (source_of new) got.over)
        (record { over = λ e. got.over; all = λ more may. rw (may got.kind, append-nil, append-nil) refl })
        (sym here) cut (λ count less. absurd (omega arith)) gives
    data_stops most after session stops (stop.Io fault) answer got gives =
        reader_fault of is most (source_of old) (source_of new) before after at fault answer got.stops (omega arith)
        (ap (λ b. (of (reading_of b)).texts) (append-nil history) ∙ sym here)
        (ap (λ b. shows_fault (of (reading_of b)).stop) (append-nil history) ∙ ap shows_fault stops ∙ standing_unshown old.offset old.left _ session.left) gives.0 gives.1

  module _ (old new : Session R) (before mid after : Writers W E)
      (at : IsRunAt look made start true (place_of (source_of old) before) history)
      (session : IsSessionAt look.input old history) where
    -- a writer failed to hand on what was written before the read
    lost : (most : ℕ) (why : Stop) (answer : Result Status IoFault)
        → NotHandedOn look old new before mid why
        → AfterStop look.output look.report why mid after answer
        → EndingStep look (tool_of made) start (place_of (source_of new) after) most history answer
    lost most why answer not_on gives =
        let as_failed = rw not_on.is at gives in
        rw (not_on.unread, as_failed.0, as_failed.1) (not_handed_on (source_of old) before mid at most not_on.fault not_on.few not_on.unsettled)

    pub message_ended : SameTexts of (reading_of history) → (why : Stop) (answer : Result Status IoFault)
        → AfterFetchMessage look old new before mid history (Err why)
        → AfterStop look.output look.report why mid after answer
        → EndingStep look (tool_of made) start (place_of (source_of new) after) longest_head history answer
    message_ended same why answer got gives =
        ⊎_elim
        (λ read. message_stops old new mid (settled (source_of old) before mid at read.0) after session same why answer read.1 gives)
        (λ not_on. lost longest_head why answer not_on gives)
        got

    pub data_ended : (most : ℕ) → (of (reading_of history)).stop ≡ stop_of (reading_of history).end
        → (why : Stop) (answer : Result Status IoFault)
        → AfterFetchData look old new before mid history (Err why)
        → AfterStop look.output look.report why mid after answer
        → EndingStep look (tool_of made) start (place_of (source_of new) after) most history answer
    data_ended most stops why answer got gives =
        ⊎_elim
        (λ read. data_stops old new mid (settled (source_of old) before mid at read.0) most after session stops why answer read.1 gives)
        (λ not_on. lost most why answer not_on gives)
        got

module _ {R W E : Type 0} {look : Looks R W E} {made : List ℕ → Made} {start : Devices R W E}
    (of : Reading → Made) (is : (bytes : List ℕ) → made bytes ≡ of (reading_of bytes))
    (old new : Session R) (before after : Writers W E)
    (at : IsRunAt look made start true (place_of (source_of old) before) []) where
  none : (made []).texts ≡ (of (reading_of [])).texts
  none = ap (λ (m : Made). m.texts) (is [])

  -- the contact header has a fault, or the reader failed inside it
  contact_stops : SameTexts of (reading_of []) → (why : Stop) (answer : Result Status IoFault)
      → AfterOpen look.input old new (Err why)
      → AfterStop look.output look.report why before after answer
      → EndingStep look (tool_of made) start (place_of (source_of new) after) 6 [] answer
  contact_stops same (stop.Wire offset fault) answer got gives =
      let kept = same (record { contact = None; entries = []; end = Fault 0 fault }) (rw reading-none (record { contact = refl; entries = refl })) tt in
      wire_fault of is 6 (source_of old) (source_of new) before after at offset fault _ answer got.takes got.size
      (few_at_fault look.input (source_of old) (source_of new) [] got.given 0 fault _ got.takes got.is_read refl (ap (λ (r : Reading). shows_fault (stop_of r.end)) reading-none))
      got.is_read (kept.0 ∙ sym none) (kept.1 ∙ ap (λ n. Some (record { fault = Wire n fault; lasts = is_lasting fault })) (sym got.offset_is)) (part_unshown of [] got.given same got.shown_last) gives
  contact_stops same (stop.Io fault) answer got gives =
      let kept = same (reading_of got.given) (rw (got.reading, reading-none) (record { contact = refl; entries = refl })) (rw got.reading tt) in
      let size = got.size in
      reader_fault of is 6 (source_of old) (source_of new) before after at fault answer got.stops (omega arith)
      (kept.0 ∙ sym none) (ap shows_fault kept.1 ∙ ap (λ (r : Reading). shows_fault (stop_of r.end)) got.reading) gives.0 gives.1

module _ {R W E : Type 0} {look : Looks R W E} {made : List ℕ → Made} {start : Devices R W E}
    (of : Reading → Made) (is : (bytes : List ℕ) → made bytes ≡ of (reading_of bytes))
    (old new : Session R) (before mid after : Writers W E)
    (at : IsRunAt look made start true (place_of (source_of old) before) []) where
  -- the contact header was not read, or a writer failed to hand on what was written before
  pub contact_ended : SameTexts of (reading_of []) → (why : Stop) (answer : Result Status IoFault)
      → AfterFetchContact look old new before mid (Err why)
      → AfterStop look.output look.report why mid after answer
      → EndingStep look (tool_of made) start (place_of (source_of new) after) 6 [] answer
  contact_ended same why answer got gives =
      ⊎_elim
      (λ read. contact_stops of is old new mid after (settled (source_of old) before mid at read.0) same why answer read.1 gives)
      (λ not_on.
      let as_failed = rw not_on.is at gives in
      rw (not_on.unread, as_failed.0, as_failed.1)
      (not_handed_on (source_of old) before mid at 6 not_on.fault not_on.few not_on.unsettled))
      got
