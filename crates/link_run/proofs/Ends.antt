-- Where a recorded stream stops, and which texts of a tool have the line of its fault.
use Rattle.std.proofs.Common.{◌≡◌, ℕ, ◌+◌, ◌-◌, ◌<◌, ◌≤◌, ◌⊎◌, inl, inr, true, false, List, [], ◌∷◌, ◌++◌, length, take, Option, Some, None, ⊎_elim, refl, ap, sym, ◌∙◌, length-append, append-nil, take_all, arith}
use Rattle.std.proofs.{Math.Seq.take-append-add, lemmas.Bool.{cases_Bool, cases_lt, false≢true, false_from_ne_true}}
use Rattle.std.proofs.lemmas.List.{take-append-le}
use Rattle.link_wire.specs.{Device.Input, Limits.window_size, Source.{window_of, Takes}}
use Rattle.link_wire.specs.Stream.{End, Fault, Reading, reading_of}
use Rattle.link_wire.specs.{Session.{IsSizeOfDataLeft, IsEndBeforeOrInHead, HasMetFault}, declared.Source.Source}
use Rattle.link_wire.specs.declared.fault.WireFault.{WireFault}
use Rattle.link_wire.specs.declared.fault.WireFault.TheVariants as wire
use Rattle.link_report.specs.{Fault.fault_text}
use Rattle.link_report.proofs.Faults.{some_fault}
use Rattle.link_run.specs.Made.{StreamStop, Made, HasLastingFaults, whole_by, so_far_by, shows_fault, tool_of, is_lasting, stop_of}
use Rattle.link_run.specs.Run.{Texts, HasNoEarlierFault}
use Rattle.link_run.proofs.Runs.{ReportsFaults, few_over}

-- ---- where a recorded stream stops

-- an end that more bytes may change shows no fault
pub undecided_unshown : (end : End) → IsEndBeforeOrInHead end → shows_fault (stop_of end) ≡ false
undecided_unshown end is = grind arith

-- an end at which a session goes on shows no fault
pub standing_unshown : (offset left : ℕ) (end : End) → IsSizeOfDataLeft offset left end
    → shows_fault (stop_of end) ≡ false
standing_unshown offset left end is = grind arith

-- every fault except `Truncated` lasts
pub lasts : (fault : WireFault)
    → (fault ≡ wire.Truncated) ⊎ ((fault ≡ wire.Truncated → ⊥) × (is_lasting fault ≡ true))
lasts wire.Truncated = inl refl
lasts fault = inr (λ is. cc, refl)

-- if the history showed no fault, at least one byte was given to show this one
shown_by : (history given : List ℕ) (offset : ℕ) (fault : WireFault) (reading : Reading)
    → is_lasting fault ≡ true → reading_of (history ++ given) ≡ reading
    → reading.end ≡ Fault offset fault → shows_fault (stop_of (reading_of history).end) ≡ false
    → 0 < length given
shown_by history [] offset fault reading lasting is ends unshown =
    let shown : shows_fault (stop_of (reading_of history).end) ≡ true =
    ap (λ bytes. shows_fault (stop_of (reading_of bytes).end)) (sym (append-nil history)) ∙ ap (λ (r : Reading). shows_fault (stop_of r.end)) is ∙ ap (λ e. shows_fault (stop_of e)) ends ∙ lasting
    in absurd (cc)
shown_by history (b ∷ given) offset fault reading lasting is ends unshown = omega arith

-- at a fault of the wire, bytes were given or the input is over, so less than a window is left
pub few_at_fault : {R : Type 0} (look : R → Input) (old new : Source R) (history given : List ℕ)
    (offset : ℕ) (fault : WireFault) (reading : Reading)
    → Takes look old new given → HasMetFault look new (history ++ given) fault reading
    → reading.end ≡ Fault offset fault → shows_fault (stop_of (reading_of history).end) ≡ false
    → length (window_of new) < window_size
few_at_fault look old new history given offset fault reading takes read ends unshown =
    let here : (fault ≡ wire.Truncated → ⊥) → reading_of (history ++ given) ≡ reading =
    λ other. ap reading_of (sym (append-nil (history ++ given))) ∙ read.all [] (λ is. absurd (other is)) in
    ⊎_elim
    (λ is. few_over look new (read.over is))
    (λ is. takes.window.less (shown_by history given offset fault reading is.1 (here is.0) ends unshown))
    (lasts fault)

-- ---- the texts and the status of a tool

-- if no fault is shown, the texts so far have no line of a fault
pub unshown_sofar : (stop : Option StreamStop) (texts : Texts) → shows_fault stop ≡ false
    → so_far_by stop texts ≡ texts
unshown_sofar stop texts is = grind arith

-- if a fault is shown, the texts so far and the whole texts are the same
pub shown_sofar : (stop : Option StreamStop) (made : Made) → shows_fault stop ≡ true
    → so_far_by stop made.texts ≡ (whole_by stop made).texts
shown_sofar stop made is = grind arith

by_stop : (stop : Option StreamStop) (made : Made) → (whole_by stop made).status ≡ 3
    → ((shows_fault stop ≡ true) × (so_far_by stop made.texts ≡ (whole_by stop made).texts))
    ⊎ (length (so_far_by stop made.texts).report < length (whole_by stop made).texts.report)
by_stop None made is = absurd (grind arith)
by_stop (Some stop) made is =
    ⊎_elim (λ shown. inl (shown, rw shown))
    (λ hidden. rw hidden (inr (omega (
      arith,
      length-append made.texts.report (fault_text stop.fault),
      some_fault stop.fault,
    )))) (cases_Bool stop.lasts)

-- the report of an input that a fault stops has the line of that fault
pub made_reports : (made : List ℕ → Made) → ReportsFaults (tool_of made)
made_reports made given is = by_stop (made given).stop (made given) is

-- ---- nothing is given after a fault is shown

-- a prefix of joined bytes, if it is at least as long as the first of them
pub take-append : (count : ℕ) (front back : List ℕ) → length front ≤ count
    → take count (front ++ back) ≡ front ++ take (count - length front) back
take-append count front back enough =
    ap (λ n. take n (front ++ back)) {y = length front + (count - length front)} (omega arith)
    ∙ take-append-add front back (count - length front)

-- of two ways to part the same bytes, the shorter first part is in the longer one
front_in : (front rest history given : List ℕ) → history ++ given ≡ front ++ rest
    → length front ≤ length history
    → history ≡ front ++ take (length history - length front) rest
front_in front rest history given parts within =
    let count = length history in
    sym (take-append-le count history given (omega arith) ∙ take_all count history (omega arith))
    ∙ ap (take count) parts ∙ take-append count front rest within

unshown_front : (made : List ℕ → Made) → HasLastingFaults made → (front more : List ℕ)
    → shows_fault (made (front ++ more)).stop ≡ false → shows_fault (made front).stop ≡ false
unshown_front made lasting front more unshown =
    false_from_ne_true _ (λ shown. false≢true (sym unshown ∙ lasting front more shown))

-- bytes that show no fault
pub ends_unshown : (made : List ℕ → Made) → HasLastingFaults made → (bytes : List ℕ)
    → shows_fault (made bytes).stop ≡ false → HasNoEarlierFault (tool_of made) bytes
ends_unshown made lasting bytes unshown = λ front rest parts some.
    unshown_front made lasting front rest
    (ap (λ (all : List ℕ). shows_fault (made all).stop) (sym parts) ∙ unshown)

-- If no proper prefix of the bytes given shows a fault after the history, no proper prefix of all
-- bytes does.
pub ends_shown : (made : List ℕ → Made) → HasLastingFaults made → (history given : List ℕ)
    → shows_fault (made history).stop ≡ false
    → ((count : ℕ) → count < length given
    → shows_fault (made (history ++ take count given)).stop ≡ false)
    → HasNoEarlierFault (tool_of made) (history ++ given)
ends_shown made lasting history given unshown shown_last = λ front rest parts some.
    let sizes = ap length parts in
    ⊎_elim
    (λ more.
    let past = front_in history given front rest (sym parts) (omega (arith, more)) in
    ap (λ (all : List ℕ). shows_fault (made all).stop) past
    ∙ shown_last (length front - length history)
    (omega (arith, more, sizes, length-append history given, length-append front rest)))
    (λ less.
    let first = front_in front rest history given parts less in
    unshown_front made lasting front (take (length history - length front) rest)
    (ap (λ (all : List ℕ). shows_fault (made all).stop) (sym first) ∙ unshown))
    (cases_lt (length history) (length front))
