-- Relations: what is kept of the events of a stream.
use Rattle.std.specs.Prelude.{◌≡◌, ℕ, ◌≤◌, Bool, true, false, not, List, [], ◌∷◌, Option, if◌then◌else◌}
use Rattle.link_run_over_transfers.specs.Walk.{WalkEvent, data_size, has_open}
use Rattle.link_run_judge.specs.Transfers.{Transfer}
use Rattle.link_run_judge.specs.Unpacking.{is_selected, told_after}
use Rattle.link_tool_blocks.specs.Showing.{end_line, unpacking_by}
use Rattle.link_tool_blocks.specs.TransferBlocks.{IsTransferBlocksAt}
use Rattle.link_tool_blocks.specs.declared.lister.BlockLister.{BlockLister}
use Rattle.link_tool_option_types.specs.declared.blocks.BlockOptions.{BlockOptions}
use Rattle.link_tool_blocks.specs.declared.transfer.TransferBlocks.{TransferBlocks}

-- The line of the end of the latest transfer, if it is due and the transfer is selected. If not, or
-- if there is no transfer, there is no text.
abbrev pub end_due : (only : Option ℕ) → (due : Bool) → List Transfer → List ℕ
end_due only false transfers = []
end_due only true [] = []
end_due only true (latest ∷ earlier) =
    if is_selected only latest.first.id then end_line latest else []

-- There is a latest transfer, and `latest` has taken exactly its data so far. `is_open` is whether
-- the transfer is not closed.
pub record IsTransferBlocksAtLatest (only : Option ℕ) (latest : TransferBlocks) (is_open : Bool)
    (transfers : List Transfer) : Type 0 where
  pub transfer : Transfer
  pub earlier : List Transfer
  pub are : transfers ≡ transfer ∷ earlier
  pub opened : is_open ≡ not transfer.closed
  pub shows : IsTransferBlocksAt only latest transfer

-- The lister has had exactly these events. While no transfer is open, nothing of `latest` matters
-- but the size of its judge.
pub record IsBlockListerAt (options : BlockOptions) (now : BlockLister) (events : List WalkEvent)
    : Type 0 where
  pub size : now.latest.judge.size ≤ data_size events
  pub good : now.good ≡ (told_after (unpacking_by options) events).good
  pub at_open : has_open events ≡ true
      → IsTransferBlocksAtLatest options.only now.latest true
      (told_after (unpacking_by options) events).transfers
