-- Relations: what is kept of the events of a stream.
use Rattle.std.specs.Prelude.{◌≡◌, ◌+◌, ◌≤◌, Bool, true, not, List, ◌∷◌, length}
use Rattle.link_run_over_transfers.specs.Walk.{WalkEvent, data_size, has_open}
use Rattle.link_run_judge.specs.Transfers.{Transfer}
use Rattle.link_run_judge.specs.Unpacking.{parts_of, told_after}
use Rattle.link_tool_unpack.specs.TransferScan.{IsTransferScanAt}
use Rattle.link_tool_unpack.specs.declared.transfer.TransferScan.{TransferScan}
use Rattle.link_tool_unpack.specs.declared.unpacker.Unpacker.{Unpacker}
use Rattle.link_tool_option_types.specs.declared.wanted.Wanted.{Wanted}

-- the scan has taken the latest of these transfers so far, and `is_open` is whether it is open
pub record IsTransferScanAtLatest (wanted : Wanted) (latest : TransferScan) (is_open : Bool)
    (transfers : List Transfer) : Type 0 where
  pub transfer : Transfer
  pub earlier : List Transfer
  pub are : transfers ≡ transfer ∷ earlier
  pub opened : is_open ≡ not transfer.closed
  pub follows : IsTransferScanAt wanted latest transfer earlier

-- The unpacker has had exactly these events. Its scan has counted the bytes of the output (`sum`),
-- and no more data than has come (`total`). The rest of the scan matters only while a transfer is
-- open.
pub record IsUnpackerAt (wanted : Wanted) (now : Unpacker) (events : List WalkEvent) : Type 0 where
  pub sum : now.latest.start + now.latest.written
      ≡ length (parts_of wanted (told_after wanted events).transfers)
  pub total : now.latest.total ≤ data_size events
  pub good : now.good ≡ (told_after wanted events).good
  pub at_open : has_open events ≡ true
      → IsTransferScanAtLatest wanted now.latest true (told_after wanted events).transfers
