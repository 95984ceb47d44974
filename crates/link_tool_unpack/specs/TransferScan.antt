-- Relations: what is known about the latest transfer.
use Rattle.std.specs.Prelude.{◌≡◌, List, length}
use Rattle.link_run_judge.specs.Transfers.{Transfer}
use Rattle.link_run_judge.specs.TransferJudge.{IsTransferJudgeAt}
use Rattle.link_run_judge.specs.Unpacking.{part_of, parts_of}
use Rattle.link_tool_unpack.specs.declared.transfer.TransferScan.{TransferScan}
use Rattle.link_tool_option_types.specs.declared.wanted.Wanted.{Wanted}

-- The scan has taken the data of `transfer` so far, after the transfers `earlier`. `start` is the
-- number of bytes in the output of `earlier`, and `written` in the output of `transfer`.
pub record IsTransferScanAt (wanted : Wanted) (now : TransferScan) (transfer : Transfer)
    (earlier : List Transfer) : Type 0 where
  pub judging : IsTransferJudgeAt now.judge transfer
  pub start : now.start ≡ length (parts_of wanted earlier)
  pub written : now.written ≡ length (part_of wanted transfer)
