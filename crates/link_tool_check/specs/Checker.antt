-- Relations: what is kept of the events of a stream.
use Rattle.std.specs.Prelude.{◌≡◌, ℕ, ◌≤◌, Bool, true, false, List, [], Option, Some, if◌then◌else◌}
use Rattle.link_run_over_transfers.specs.Saying.{kept_after}
use Rattle.link_run_over_transfers.specs.Walk.{WalkEvent, data_size, has_open}
use Rattle.link_run_judge.specs.TransferJudge.{IsTransferJudgeAt}
use Rattle.link_run_judge.specs.Transfers.{Transfer}
use Rattle.link_session_rules.specs.TransferRules.{opening_of}
use Rattle.link_session_rules.specs.Remembered.{IsMessageHistoryAt}
use Rattle.link_report_broken_rules.specs.declared.line.RuleText.{RuleText}
use Rattle.link_tool_check.specs.BundleReader.{IsBundleReaderAt}
use Rattle.link_tool_check.specs.Checking.{BegunTransfer, Kept, none_kept, checking, texts_at, closed_texts}
use Rattle.link_tool_check.specs.declared.checker.Checker.{Checker}
use Rattle.link_tool_option_types.specs.declared.check.CheckOptions.{CheckOptions}
use Rattle.link_tool_check.specs.declared.transfer.CheckedTransfer.{CheckedTransfer}

-- The transfer as its judge needs it. The judge does not use `closed`.
abbrev pub transfer_of : BegunTransfer → Transfer
transfer_of begun = record { first = begun.first; content = begun.content; closed = false }

-- exactly this transfer was read so far, with the security blocks of `own`
pub record IsCheckedTransferAt (own : List ℕ) (now : CheckedTransfer) (begun : BegunTransfer)
    : Type 0 where
  pub offset : now.offset ≡ begun.offset
  pub opening : now.opening ≡ opening_of begun.first
  pub judging : IsTransferJudgeAt now.judge (transfer_of begun)
  pub reading : IsBundleReaderAt own now.bundle begun.content

-- There is a latest transfer, and `now` has read exactly its data so far.
pub record IsCheckedTransferAtLatest (own : List ℕ) (now : CheckedTransfer)
    (latest : Option BegunTransfer) : Type 0 where
  pub begun : BegunTransfer
  pub is : latest ≡ Some begun
  pub checks : IsCheckedTransferAt own now begun

-- what `check` keeps of these events, from the first
abbrev pub kept_of : CheckOptions → List WalkEvent → Kept
kept_of options events = kept_after (checking options) none_kept events

-- The checker has had exactly these events. While no transfer is open, only the size of `latest`
-- matters.
pub record IsCheckerAt (options : CheckOptions) (now : Checker) (events : List WalkEvent)
    : Type 0 where
  pub size : now.latest.judge.size ≤ data_size events
  pub good : now.good ≡ (kept_of options events).good
  pub history : IsMessageHistoryAt now.history (kept_of options events).heads
  pub at_open : has_open events ≡ true
      → IsCheckedTransferAtLatest options.own.items now.latest (kept_of options events).latest

-- the rules that the latest transfer breaks, if it is closed now (`due`), and else none
abbrev pub closed_due : (due : Bool) → (own sender : List ℕ) → Option BegunTransfer
    → List RuleText
closed_due due own sender latest =
    if due then texts_at (closed_texts own sender) latest else []
