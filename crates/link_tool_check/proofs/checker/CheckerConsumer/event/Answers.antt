use Rattle.std.proofs.Common.{◌≡◌, Bool, Option, Some, ◌+◌, ◌<◌, ◌≤◌, ◌^◌, ◌++◌, ◌∷◌, [], length, List, true, false, refl, ap, sym, ◌∙◌, arith}
use Rattle.std.proofs.lemmas.Bool.{false≢true}
use Rattle.link_session_rules.specs.Remembered.{IsMessageHistoryAt}
use Rattle.link_report_broken_rules.specs.declared.line.RuleText.{RuleText}
use Rattle.link_run_over_transfers.specs.Telling.{HeadComes, data_ends, viewed_head}
use Rattle.link_run_over_transfers.specs.Walk.{Head, WalkEvent, ContactHeader, LeftOpen, MessageHead, closes, has_open, is_beginning}
use Rattle.link_tool_check.specs.Checker.{IsCheckedTransferAtLatest, IsCheckerAt, kept_of}
use Rattle.link_session_rules.specs.Heads.{HeadWithOrder}
use Rattle.link_tool_check.specs.Checking.{BegunTransfer, begun_by, broken_by, head_rules, judged, with_bytes}
use Rattle.link_tool_check.specs.declared.checker.Checker.{Checker}
use Rattle.link_tool_option_types.specs.declared.check.CheckOptions.{CheckOptions}
use Rattle.link_run_over_bundle_files.proofs.Told.{on_ok_by}
use Rattle.link_tool_check.proofs.Writing.{part_written, quiet_written, then_written}
use Rattle.link_tool_check.proofs.Kept.{IsLatestRead, closes_read, due, data_said, inner_said, known_data, known_inner, known_one, opens_read, read_after, said_one, tells}
use Rattle.link_tool_check.proofs.checker.CheckerConsumer.event.Given.{Over}
use Rattle.link_tool_check.proofs.checker.CheckerConsumer.event.Goals as goal
use Rattle.link_tool_check.proofs.checker.CheckerConsumer.event.Goals.{After-close, then-begins, else-begins}

pub returns-in-Contact : goal.returns-in-Contact
returns-in-Contact g c = rw c.in-Contact.is (λ before knows none.
    let options = c.args.options.now in
    let event = ContactHeader c.in-Contact.contact.now in
    let old = c.args.self.now in
    let now : Checker = record old { good = c.write_contact.new.good } in
    let broken = broken_by options (kept_of options before) event in
    tells options before now (event ∷ []) broken (said_one options before event)
    c.write_contact.ensures
    (on_ok_by c.write_contact.result
    (λ good. known_one options before event now knows.size (rw knows.good at good) knows.history
    knows.at_open)
    c.write_contact.ensures.counted))

-- ---- a head

module _ (options : CheckOptions) (before : List WalkEvent) (head : Head) where
  -- the rules that the head breaks, and those of the transfer that it closes
  abbrev own : List RuleText
  own = head_rules options (kept_of options before).heads head

  abbrev latest : Option BegunTransfer
  latest = begun_by head (kept_of options before).latest

  abbrev heads : List HeadWithOrder
  heads = (kept_of options before).heads ++ judged head ∷ []

  abbrev closed : List RuleText
  closed = due options before (closes head) heads latest

-- the state after the head, which may have begun a transfer
record AtHead (now old : Checker) (written : Bool) (options : CheckOptions) (before : List WalkEvent) (head : Head)
    : Type 0 where
  read : IsLatestRead options.own.items now.latest (latest options before head) (is_beginning head.turn) (has_open before)
  size : now.latest.judge.size ≤ old.latest.judge.size
  history : IsMessageHistoryAt now.history ((kept_of options before).heads ++ judged head ∷ [])
  good : now.good ≡ written

at_head : (g : Over) (c : After-close g) (before : List WalkEvent)
    → IsCheckerAt c.args.options.now c.args.self.now before
    → HeadComes before (viewed_head c.in-Head.head)
    → AtHead c.if-begins.self c.args.self.now c.judge-written.new.good c.args.options.now before (viewed_head c.in-Head.head)
at_head g c before knows comes =
    let options = c.args.options.now in
    let head = viewed_head c.in-Head.head in
    let old = c.args.self.now in
    let kept = kept_of options before in
    let history = c.judge-written.ensures.history kept.heads knows.history in
    elim c.if-begins.branch [
      | then-begins w ↦ rw w.self-is (record {
        read = read_after before head comes options.own.items kept.latest old.latest
            w.begin.new.self knows.at_open
            (λ first begins is starts. w.begin.ensures.follows first is starts options.own.items)
            (λ none. absurd (false≢true (sym none ∙ (sym c.begins.ensures ∙ w.if-begins.true))));
        size = w.begin.ensures.size;
        history = history;
        good = refl;
      })
      | else-begins w ↦ rw w.self-is (record {
        read = read_after before head comes options.own.items kept.latest old.latest old.latest
            knows.at_open
            (λ first begins is starts.
            absurd (false≢true (sym (sym c.begins.ensures ∙ w.if-begins.false) ∙ begins)))
            (λ none. refl);
        size = omega arith;
        history = history;
        good = refl;
      })
    ]

pub returns-in-Err : goal.returns-in-Err
returns-in-Err g c = rw c.in-Head.is (λ before knows comes.
    let options = c.args.options.now in
    let head = viewed_head c.in-Head.head in
    let both =
    part_written {other = true} (own options before head) (closed options before head)
    (c.in-Err.ensures.gives (kept_of options before).heads knows.history) in
    tells options before _ (MessageHead head ∷ [])
    (broken_by options (kept_of options before) (MessageHead head))
    (said_one options before (MessageHead head)) both tt)

pub returns-in_default : goal.returns-in_default
returns-in_default g c = rw c.in-Head.is (λ before knows comes.
    let options = c.args.options.now in
    let head = viewed_head c.in-Head.head in
    let kept = kept_of options before in
    let latest = latest options before head in
    let mid = c.if-begins.self in
    let state = at_head g c before knows comes in
    let closing = λ (is : c.closes.result ≡ true).
    state.read (closes_read before head comes (sym c.closes.ensures ∙ is)) in
    let now : Checker = record mid { good = c.close.new.good } in
    let both =
    then_written (own options before head) (closed options before head)
    (rw (← state.good) at (c.in_default.ensures.gives kept.heads knows.history))
    (rw (c.closes.ensures, c.node.ensures _ state.history) at (c.close.ensures latest closing)) in
    tells options before now (MessageHead head ∷ []) (broken_by options kept (MessageHead head))
    (said_one options before (MessageHead head)) both
    (on_ok_by c.close.result
    (λ good. known_one options before (MessageHead head) now
    (omega (arith, state.size, knows.size)) (rw knows.good at good) state.history
    (λ opened. state.read (opens_read before head comes opened)))
    both.counted))

-- ---- an inner segment

pub returns-in-Err-take : goal.returns-in-Err-take
returns-in-Err-take g c = rw c.in-Inner.is (λ before knows may.
    let options = c.args.options.now in
    let head = viewed_head c.in-Inner.head in
    let bytes = c.in-Inner.bytes.now in
    let fits : c.args.self.now.latest.judge.size + length bytes < 2 ^ 63 =
    let few = may.few in omega (arith, knows.size) in
    let at = knows.at_open may.opened in
    let turn = ap (λ (h : Head). h.turn) may.is in
    tells options before _ (MessageHead head ∷ data_ends bytes false) (own options before head)
    (inner_said options before head turn bytes)
    (part_written {other = true} [] _ (quiet_written {good = true}
    (c.in-Err-take.ensures.gives at.begun fits at.checks))) tt)

pub returns-in_default-take : goal.returns-in_default-take
returns-in_default-take g c = rw c.in-Inner.is (λ before knows may.
    let options = c.args.options.now in
    let old = c.args.self.now in
    let head = viewed_head c.in-Inner.head in
    let bytes = c.in-Inner.bytes.now in
    let kept = kept_of options before in
    let fits : old.latest.judge.size + length bytes < 2 ^ 63 =
    let few = may.few in omega (arith, knows.size) in
    let at = knows.at_open may.opened in
    let turn = ap (λ (h : Head). h.turn) may.is in
    let told = c.in_default-take.ensures.gives at.begun fits at.checks in
    let now : Checker = record {
      history = c.judge_inner.new.history;
      latest = c.take.new.self;
      good = c.judge_inner.new.good;
    } in
    let writes = then_written [] _ (quiet_written told)
    (c.judge_inner.ensures.gives may.id kept.heads may.is knows.history) in
    tells options before now (MessageHead head ∷ data_ends bytes false) (own options before head)
    (inner_said options before head turn bytes) writes
    (on_ok_by c.judge_inner.result
    (λ good. known_inner options before head turn bytes now at.begun at.is
    (omega (arith, c.take.ensures.size, knows.size))
    (rw knows.good at good)
    (c.judge_inner.ensures.history may.id kept.heads may.is knows.history) told.known)
    writes.counted))

-- ---- data

pub returns-in-Err-take-2 : goal.returns-in-Err-take-2
returns-in-Err-take-2 g c = rw c.in-Data.is (λ before knows may.
    let options = c.args.options.now in
    let bytes = c.in-Data.bytes.now in
    let whole = c.in-Data.whole in
    let fits : c.args.self.now.latest.judge.size + length bytes < 2 ^ 63 =
    let few = may.1 in omega (arith, knows.size) in
    let at = knows.at_open may.0 in
    tells options before _ (data_ends bytes whole)
    (due options before whole (kept_of options before).heads (Some (with_bytes bytes at.begun)))
    (rw at.is at (data_said options before bytes whole))
    (part_written {other = true} [] _ (quiet_written {good = true}
    (c.in-Err-take-2.ensures.gives at.begun fits at.checks))) tt)

pub returns-in_default-take-2 : goal.returns-in_default-take-2
returns-in_default-take-2 g c = rw c.in-Data.is (λ before knows may.
    let options = c.args.options.now in
    let old = c.args.self.now in
    let bytes = c.in-Data.bytes.now in
    let whole = c.in-Data.whole in
    let kept = kept_of options before in
    let fits : old.latest.judge.size + length bytes < 2 ^ 63 =
    let few = may.1 in omega (arith, knows.size) in
    let at = knows.at_open may.0 in
    let begun = with_bytes bytes at.begun in
    let told = c.in_default-take-2.ensures.gives at.begun fits at.checks in
    let read : IsCheckedTransferAtLatest options.own.items c.take-in-Data.new.self (Some begun) =
    record { begun = begun; is = refl; checks = told.known } in
    let now : Checker = record {
      history = old.history;
      latest = c.take-in-Data.new.self;
      good = c.close-in-Data.new.good;
    } in
    let writes = then_written [] _ (quiet_written told)
    (rw (c.node-sender.ensures _ knows.history) at (c.close-in-Data.ensures (Some begun) (λ is. read))) in
    tells options before now (data_ends bytes whole)
    (due options before whole kept.heads (Some begun))
    (rw at.is at (data_said options before bytes whole)) writes
    (on_ok_by c.close-in-Data.result
    (λ good. known_data options before bytes whole now at.begun at.is
    (omega (arith, c.take-in-Data.ensures.size, knows.size))
    (rw knows.good at good) knows.history told.known)
    writes.counted))

-- ---- the end of the stream

pub returns-in-LeftOpen : goal.returns-in-LeftOpen
returns-in-LeftOpen g c = rw c.in-LeftOpen.is (λ before knows opened.
    let options = c.args.options.now in
    let old = c.args.self.now in
    let kept = kept_of options before in
    let at = knows.at_open opened in
    let now : Checker = record old { good = c.write_open.new.good } in
    let writes = c.write_open.ensures options.own.items at.begun at.checks in
    tells options before {good = old.good} {later = c.write_open.new.good} now (LeftOpen ∷ [])
    (broken_by options kept LeftOpen) (said_one options before LeftOpen) (rw at.is writes)
    (on_ok_by c.write_open.result
    (λ good. known_one options before LeftOpen now knows.size (rw (at.is, ← knows.good) good)
    knows.history (λ none. absurd (cc)))
    writes.counted))
