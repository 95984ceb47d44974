-- What the judge of a transfer finds.
use Rattle.std.proofs.Common.{◌≡◌, ℕ, Bool, true, not, List, [], length, Result, refl, ap, sym, ◌∙◌, append-nil}
use Rattle.link_bundle_types.specs.declared.fault.BundleFault.{BundleFault}
use Rattle.link_bundle_types.specs.declared.info.BundleInfo.{BundleInfo}
use Rattle.link_bundle_blocks.specs.Bundle.{verdict}
use Rattle.link_bundle.specs.Scan.{HasScanned}
use Rattle.link_bundle.proofs.Pieces.{verdict_judged}
use Rattle.link_report.specs.Judgement.{judged_transfer}
use Rattle.link_wire.specs.{Codes.is_start, MessageBuffer.{message_of, segment_items}}
use Rattle.link_wire.specs.declared.message.Fields.TheVariants as fields
use Rattle.link_wire.specs.declared.message.Message.TheVariants.{Segment}
use Rattle.link_wire.specs.declared.message.{MessageBuffer.MessageBuffer, SegmentHead.SegmentHead}
use Rattle.link_run_judge.specs.{Transfers.Transfer, TransferJudge.{IsTransferJudgeAt, grown}}
use Rattle.link_run_judge.specs.Unpacking.{judgement_of}
use Rattle.link_run_judge.specs.declared.judge.TransferJudge.{TransferJudge}

-- the judge's judgement is that on the transfer
pub judgement_is : (now : TransferJudge) (transfer : Transfer) → IsTransferJudgeAt now transfer
    → (abandoned : Bool) → abandoned ≡ not transfer.closed
    → (outcome : Result BundleInfo (BundleFault × ℕ))
    → ((seen : List ℕ) → HasScanned now.scan seen → outcome ≡ verdict seen)
    → judged_transfer abandoned now.announced now.size outcome ≡ judgement_of transfer
judgement_is now transfer judging abandoned over outcome seen =
    rw (
      over,
      judging.announced,
      judging.size,
      seen judging.judged.seen judging.judged.scanned,
      verdict_judged now.scan transfer.content judging.judged,
    ) refl

-- no data is added
pub judging_same : (now : TransferJudge) (transfer : Transfer) (closed : Bool)
    → IsTransferJudgeAt now transfer → IsTransferJudgeAt now (grown transfer [] closed)
judging_same now transfer closed judging = record {
  id = judging.id;
  announced = judging.announced;
  size = judging.size ∙ ap length (sym (append-nil transfer.content));
  judged = rw append-nil judging.judged;
}

-- ---- the head of a first segment

pub first_head : (buffer : MessageBuffer) (flags id size : ℕ) (head : SegmentHead)
    → buffer.fields ≡ fields.Segment flags id size → message_of buffer ≡ Segment head
    → is_start head.flags ≡ true → (head.id ≡ id) × (head.items ≡ buffer.items)
first_head buffer flags id size head kind is starts =
    let whole : SegmentHead =
    record { flags = flags; id = id; items = segment_items flags buffer.items; length = size } in
    let sent = rw kind at is in
    let same : head ≡ whole = cc in
    let start = rw same at starts in
    (rw same refl, rw (same, start) refl)
