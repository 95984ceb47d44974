-- Relations: what is known about the transfer that is judged.
use Rattle.std.specs.Prelude.{◌≡◌, ℕ, Bool, List, [], ◌++◌, length}
use Rattle.link_bundle.specs.Scan.{HasJudged}
use Rattle.link_transfer.specs.Announced.{announced_of}
use Rattle.link_wire.specs.declared.message.SegmentHead.{SegmentHead}
use Rattle.link_run_judge.specs.Transfers.{Transfer}
use Rattle.link_run_judge.specs.declared.judge.TransferJudge.{TransferJudge}

-- A transfer before any of its data has come. `closed` is whether it is closed already.
abbrev pub begun : SegmentHead → Bool → Transfer
begun head closed = record { first = head; content = []; closed = closed }

-- A transfer with more data. `closed` is whether it is closed after this data.
abbrev pub grown : Transfer → List ℕ → Bool → Transfer
grown transfer content closed =
    record { first = transfer.first; content = transfer.content ++ content; closed = closed }

-- the judge has taken this transfer's data so far; whether it is closed makes no difference
pub record IsTransferJudgeAt (now : TransferJudge) (transfer : Transfer) : Type 0 where
  pub id : now.id ≡ transfer.first.id
  pub announced : now.announced ≡ announced_of transfer.first.items.items
  pub size : now.size ≡ length transfer.content
  pub judged : HasJudged now.scan transfer.content
