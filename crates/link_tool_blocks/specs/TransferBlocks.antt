-- Relations: what is known about the latest transfer.
use Rattle.std.specs.Prelude.{◌≡◌, ℕ, true, Option}
use Rattle.link_run_judge.specs.Transfers.{Transfer}
use Rattle.link_run_judge.specs.TransferJudge.{IsTransferJudgeAt}
use Rattle.link_run_judge.specs.Unpacking.{is_selected}
use Rattle.link_bundle_data_in_pieces.specs.DataReader.{IsDataReaderAt}
use Rattle.link_tool_blocks.specs.declared.transfer.TransferBlocks.{TransferBlocks}

-- the judge has taken this transfer's data so far, and so has the reader, if the transfer is
-- selected
pub record IsTransferBlocksAt (only : Option ℕ) (now : TransferBlocks)
    (transfer : Transfer) : Type 0 where
  pub judging : IsTransferJudgeAt now.judge transfer
  pub reading : is_selected only transfer.first.id ≡ true
      → IsDataReaderAt now.reader transfer.content
