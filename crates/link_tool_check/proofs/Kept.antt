-- What is kept after more events, and what is said of them.
use Rattle.std.proofs.Common.{◌≡◌, ℕ, ◌+◌, ◌≤◌, ◌⊎◌, inl, inr, Bool, true, false, ◌&&◌, List, [], ◌∷◌, ◌++◌, length, Option, Some, None, option_map, Result, OnOk, refl, ap, sym, ◌∙◌, ⊎_elim, append-nil, append_assoc, arith}
use Rattle.std.proofs.{Math.Bool.and-true, lemmas.Grind.fold-append}
use Rattle.link_wire.specs.{Codes.is_start, Device.Output}
use Rattle.link_wire.specs.declared.IoFault.{IoFault}
use Rattle.link_wire.specs.declared.message.Message.TheVariants as message
use Rattle.link_wire.specs.declared.message.SegmentHead.{SegmentHead}
use Rattle.link_transfer.specs.declared.joiner.Turn.TheVariants.{Continue}
use Rattle.link_run.specs.{Writers.on_output, declared.writers.Writers.Writers}
use Rattle.link_run.proofs.Runs.{then_none}
use Rattle.link_run_over_transfers.specs.Saying.{kept_after, said_from, keeps_telling}
use Rattle.link_run_over_transfers.specs.Telling.{HeadComes, Tells, data_ends}
use Rattle.link_run_over_transfers.specs.Walk.{Head, WalkEvent, MessageHead, Data, closes, is_beginning, open_after_event, data_size, has_open}
use Rattle.link_run_judge.proofs.Counts.{size_then, open_then, size_with_data}
use Rattle.link_run_judge.proofs.Effects.{Does, Strays, Passes, Begins, Continues, comes_does}
use Rattle.link_session_rules.specs.Remembered.{IsMessageHistoryAt}
use Rattle.link_report_broken_rules.specs.declared.line.RuleText.{RuleText}
use Rattle.link_tool_check.specs.Checker.{IsCheckedTransferAtLatest, IsCheckedTransferAt, IsCheckerAt, closed_due, kept_of}
use Rattle.link_tool_check.specs.Checking.{BegunTransfer, Kept, begun_by, broken_by, check_telling, checking, head_rules, judged, kept_with, none_kept, sender_of, with_bytes}
use Rattle.link_session_rules.specs.Heads.{HeadWithOrder}
use Rattle.link_tool_check.specs.{Lines.{lines_of, none_counts}, Writing.WritesRules}
use Rattle.link_tool_check.specs.declared.checker.Checker.{Checker}
use Rattle.link_tool_option_types.specs.declared.check.CheckOptions.{CheckOptions}
use Rattle.link_tool_check.specs.declared.transfer.CheckedTransfer.{CheckedTransfer}
use Rattle.link_tool_check.proofs.Appends.{no_lines, none_count}

-- a head that begins no transfer leaves the latest one as it is
begun_same : (head : Head) (read : Option BegunTransfer) → is_beginning head.turn ≡ false
    → begun_by head read ≡ read
begun_same head read none = rw none refl

-- ---- events, one after another

module _ (options : CheckOptions) (before : List WalkEvent) where
  abbrev pub was : Kept
  was = kept_of options before

  -- the rules of the latest transfer, if it is closed after these heads
  abbrev pub due : (whole : Bool) → List HeadWithOrder → Option BegunTransfer → List RuleText
  due whole heads latest = closed_due whole options.own.items (sender_of heads) latest

  kept_then : (added : List WalkEvent)
      → kept_of options (before ++ added) ≡ kept_after (checking options) was added
  kept_then added = fold-append (kept_with options) none_kept before added

  -- what holds after these events was written, or a writer failed
  pub tells : {W E : Type 0} {out_look : W → Output} {report_look : E → Output}
      {old new : Writers W E} {good later : Bool} {result : Result (Unit {0}) IoFault}
      (now : Checker) (added : List WalkEvent) (broken : List RuleText)
      → on_output (lines_of options.must broken) ≡ said_from (checking options) was added
      → WritesRules out_look report_look options.must old new good later result broken
      → OnOk result (IsCheckerAt options now (before ++ added))
      → Tells out_look report_look (check_telling options) (IsCheckerAt options now) before
      added old new result
  tells {out_look = out_look} {report_look = report_look} {old = old} {new = new} {result = result}
      now added broken said writes known =
      let told = keeps_telling (checking options) (check_telling options).manner out_look
      report_look before added old new was (kept_after (checking options) was added)
      (on_output (lines_of options.must broken)) result refl writes.wrote said refl in
      record { texts = told.texts; said = told.said; wrote = told.wrote; known = known }

  -- ---- one event

  module _ (event : WalkEvent) where
    pub said_one : on_output (lines_of options.must (broken_by options was event))
        ≡ said_from (checking options) was (event ∷ [])
    said_one = sym (then_none (on_output (lines_of options.must (broken_by options was event))))

    pub known_one : (now : Checker) → now.latest.judge.size ≤ data_size before
        → now.good ≡ (kept_with options was event).good
        → IsMessageHistoryAt now.history (kept_with options was event).heads
        → (open_after_event (has_open before) event ≡ true
        → IsCheckedTransferAtLatest options.own.items now.latest (kept_with options was event).latest)
        → IsCheckerAt options now (before ++ event ∷ [])
    known_one now size good history at_open = record {
      size = omega (arith, size_then before event);
      good = rw (kept_then (event ∷ [])) good;
      history = rw (kept_then (event ∷ [])) history;
      at_open = λ opened. rw (kept_then (event ∷ [])) (at_open (sym (open_then before event) ∙ opened));
    }

  -- ---- data

  with_none : (latest : Option BegunTransfer) → option_map (with_bytes []) latest ≡ latest
  with_none None = refl
  with_none (Some begun) = rw (append-nil begun.content) refl

  with_more : (byte : ℕ) (bytes : List ℕ) (latest : Option BegunTransfer)
      → option_map (with_bytes bytes) (option_map (with_bytes (byte ∷ [])) latest)
      ≡ option_map (with_bytes (byte ∷ bytes)) latest
  with_more byte bytes None = refl
  with_more byte bytes (Some begun) =
      rw (append_assoc begun.content (byte ∷ []) bytes) refl

  good_same : (good : Bool) → (good && none_counts options.must []) ≡ good
  good_same good = ap (λ b. good && b) (none_count options.must) ∙ and-true good

  -- what is kept after data
  abbrev pub with_data : (bytes : List ℕ) (whole : Bool) → Kept → Kept
  with_data bytes whole kept =
      let latest = option_map (with_bytes bytes) kept.latest in
      record {
        heads = kept.heads;
        latest = latest;
        good = kept.good && none_counts options.must (due whole kept.heads latest);
      }

  data_kept : (bytes : List ℕ) (whole : Bool) (kept : Kept)
      → kept_after (checking options) kept (data_ends bytes whole) ≡ with_data bytes whole kept
  data_kept [] true kept = rw with_none refl
  data_kept [] false kept = rw (with_none, good_same) refl
  data_kept (byte ∷ bytes) whole kept =
      rw (data_kept bytes whole, good_same, with_more) refl

  data_said_from : (bytes : List ℕ) (whole : Bool) (kept : Kept)
      → on_output (lines_of options.must (due whole kept.heads (option_map (with_bytes bytes) kept.latest)))
      ≡ said_from (checking options) kept (data_ends bytes whole)
  data_said_from [] true kept = rw (with_none, then_none) refl
  data_said_from [] false kept = rw no_lines refl
  data_said_from (byte ∷ bytes) whole kept =
      rw (no_lines, ← with_more byte bytes kept.latest)
      (data_said_from bytes whole (kept_with options kept (Data byte)))

  module _ (bytes : List ℕ) (whole : Bool) where
    pub data_said : on_output (lines_of options.must
        (due whole was.heads (option_map (with_bytes bytes) was.latest)))
        ≡ said_from (checking options) was (data_ends bytes whole)
    data_said = data_said_from bytes whole was

    pub known_data : (now : Checker) (begun : BegunTransfer) → was.latest ≡ Some begun
        → now.latest.judge.size ≤ data_size before + length bytes
        → now.good ≡ (was.good && none_counts options.must (due whole was.heads (Some (with_bytes bytes begun))))
        → IsMessageHistoryAt now.history was.heads
        → IsCheckedTransferAt options.own.items now.latest (with_bytes bytes begun)
        → IsCheckerAt options now (before ++ data_ends bytes whole)
    known_data now begun is size good history checks =
        let kept = kept_then (data_ends bytes whole) ∙ data_kept bytes whole was in
        record {
          size = omega (arith, size_with_data before bytes whole);
          good = rw (kept, is) good;
          history = rw kept history;
          at_open = λ opened. record {
            begun = with_bytes bytes begun;
            is = rw (kept, is) refl;
            checks = checks;
          };
        }

  -- ---- an inner segment

  module _ (head : Head) (turn : head.turn ≡ Some (Continue false)) (bytes : List ℕ) where
    abbrev broken : List RuleText
    broken = head_rules options was.heads head

    inner_broken : broken_by options was (MessageHead head) ≡ broken
    inner_broken = rw (turn, append-nil) refl

    pub inner_said : on_output (lines_of options.must broken)
        ≡ said_from (checking options) was (MessageHead head ∷ data_ends bytes false)
    inner_said =
        rw (
          ← data_said_from bytes false (kept_with options was (MessageHead head)),
          inner_broken,
          no_lines,
          append-nil,
        ) refl

    pub known_inner : (now : Checker) (begun : BegunTransfer) → was.latest ≡ Some begun
        → now.latest.judge.size ≤ data_size before + length bytes
        → now.good ≡ (was.good && none_counts options.must broken)
        → IsMessageHistoryAt now.history (was.heads ++ judged head ∷ [])
        → IsCheckedTransferAt options.own.items now.latest (with_bytes bytes begun)
        → IsCheckerAt options now (before ++ MessageHead head ∷ data_ends bytes false)
    known_inner now begun is size good history checks =
        let parts = append_assoc before (MessageHead head ∷ []) (data_ends bytes false) in
        let kept = rw (inner_broken, begun_same head was.latest (ap is_beginning turn))
        at (kept_then (MessageHead head ∷ data_ends bytes false)
        ∙ data_kept bytes false (kept_with options was (MessageHead head))) in
        record {
          size = omega (
            arith,
            ap data_size parts,
            size_with_data (before ++ MessageHead head ∷ []) bytes false,
            size_then before (MessageHead head),
          );
          good = rw (kept, good_same) good;
          history = rw kept history;
          at_open = λ opened. record {
            begun = with_bytes bytes begun;
            is = rw (kept, is) refl;
            checks = checks;
          };
        }

-- ---- a head

-- The latest transfer was read, also after a head, if the head begins it or it was open before.
abbrev pub IsLatestRead : (own : List ℕ) → (now : CheckedTransfer)
    → (latest : Option BegunTransfer) → (begins opened : Bool) → Type 0
IsLatestRead own now latest begins opened =
    (begins ≡ true) ⊎ (opened ≡ true) → IsCheckedTransferAtLatest own now latest

module _ (before : List WalkEvent) (head : Head) (comes : HeadComes before head) where
  pub read_after : (own : List ℕ) (read : Option BegunTransfer) (old now : CheckedTransfer)
      → (has_open before ≡ true → IsCheckedTransferAtLatest own old read)
      → ((first : SegmentHead) → is_beginning head.turn ≡ true
      → head.message ≡ message.Segment first → is_start first.flags ≡ true
      → IsCheckedTransferAt own now (record { offset = head.offset; first = first; content = [] }))
      → (is_beginning head.turn ≡ false → now ≡ old)
      → IsLatestRead own now (begun_by head read) (is_beginning head.turn) (has_open before)
  read_after own read old now at begins same = by_effect (comes_does before head comes)
    where
      passes : is_beginning head.turn ≡ false
          → IsLatestRead own now (begun_by head read) (is_beginning head.turn) (has_open before)
      passes none = rw (begun_same head read none, same none) (λ some. at (⊎_elim
          (λ begins. absurd (cc (sym none ∙ begins)))
          (λ opened. opened) some))

      by_effect : Does head.turn head.message (has_open before)
          → IsLatestRead own now (begun_by head read) (is_beginning head.turn) (has_open before)
      by_effect (Strays is) = passes (ap is_beginning is)
      by_effect (Passes is other) = passes (ap is_beginning is)
      by_effect (Continues first is starts does also) = passes (ap is_beginning does)
      by_effect (Begins first abandoned is starts does also) = λ some. record {
        begun = record { offset = head.offset; first = first; content = [] };
        is = rw (ap is_beginning does, is) refl;
        checks = begins first (ap is_beginning does) is starts;
      }

  -- a head that closes a transfer begins it, or the transfer was open before
  pub closes_read : closes head ≡ true → (is_beginning head.turn ≡ true) ⊎ (has_open before ≡ true)
  closes_read closing = by_effect (comes_does before head comes)
    where
      by_effect : Does head.turn head.message (has_open before)
          → (is_beginning head.turn ≡ true) ⊎ (has_open before ≡ true)
      by_effect (Strays is) = let none = rw is at closing in absurd (cc)
      by_effect (Passes is other) = let none = rw is at closing in absurd (cc)
      by_effect (Continues first is starts does also) = inr also
      by_effect (Begins first abandoned is starts does also) = inl (ap is_beginning does)

  -- so does a head after which one is open
  pub opens_read : open_after_event (has_open before) (MessageHead head) ≡ true
      → (is_beginning head.turn ≡ true) ⊎ (has_open before ≡ true)
  opens_read opened = by_effect (comes_does before head comes)
    where
      by_effect : Does head.turn head.message (has_open before)
          → (is_beginning head.turn ≡ true) ⊎ (has_open before ≡ true)
      by_effect (Strays is) = inr (rw is at opened)
      by_effect (Passes is other) = inr (rw is at opened)
      by_effect (Continues first is starts does also) = inr also
      by_effect (Begins first abandoned is starts does also) = inl (ap is_beginning does)

none_open : has_open [] ≡ true → ⊥
unfolding has_open
none_open is = cc

pub knows_nothing : (options : CheckOptions) (now : Checker) → now.latest.judge.size ≡ 0
    → now.good ≡ true → IsMessageHistoryAt now.history [] → IsCheckerAt options now []
knows_nothing options now size good history = record {
  size = omega (arith, size);
  good = good;
  history = history;
  at_open = λ opened. absurd (none_open opened);
}
