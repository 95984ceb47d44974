-- What is written and reported for the latest transfer.
use Rattle.std.proofs.Common.{◌≡◌, ℕ, Bool, true, false, List, [], ◌∷◌, ◌++◌, length, refl, ap, sym, ◌∙◌, append-nil}
use Rattle.std.specs.Prelude.{if◌then◌else◌}
use Rattle.link_bundle_blocks.specs.Bundle.{judged_bundle as judged_bytes, bundle_at, opening_at, payload_in}
use Rattle.link_report.specs.Transfer.{transfer_text}
use Rattle.link_report.specs.declared.judgement.Judgement.{Judgement}
use Rattle.link_wire.specs.declared.message.SegmentHead.{SegmentHead}
use Rattle.link_run_judge.specs.{Transfers.Transfer, TransferJudge.{begun, grown}}
use Rattle.link_run_judge.specs.Unpacking.{is_selected, part_of, parts_of, judgement_of, entry_of}
use Rattle.link_run_judge.proofs.{Texts.parts_more, Judging.judging_same}
use Rattle.link_tool_unpack.specs.TransferScan.{IsTransferScanAt}
use Rattle.link_tool_unpack.specs.declared.transfer.TransferScan.{TransferScan}
use Rattle.link_tool_option_types.specs.declared.wanted.Wanted.{Wanted}

-- ---- a transfer begins

no_payload : payload_in [] ≡ []
unfolding payload_in judged_bytes bundle_at opening_at
no_payload = refl

nothing_chosen : (selected payload : Bool)
    → (if selected then (if payload then payload_in [] else []) else []) ≡ []
nothing_chosen false payload = refl
nothing_chosen true false = refl
nothing_chosen true true = no_payload

-- none of its bytes are written yet
pub part_of-begun : (wanted : Wanted) (head : SegmentHead) (closed : Bool)
    → part_of wanted (begun head closed) ≡ []
part_of-begun wanted head closed = nothing_chosen (is_selected wanted.only head.id) wanted.payload

-- ---- one more piece

pub part_of-payload : (wanted : Wanted) (transfer : Transfer) (piece more : List ℕ) (closed : Bool)
    → is_selected wanted.only transfer.first.id ≡ true → wanted.payload ≡ true
    → payload_in (transfer.content ++ piece) ≡ payload_in transfer.content ++ more
    → part_of wanted (grown transfer piece closed) ≡ part_of wanted transfer ++ more
part_of-payload wanted transfer piece more closed selected payload is = rw (selected, payload) is

-- ---- the line of a transfer

pub line_is : (wanted : Wanted) (now : TransferScan) (transfer : Transfer) (earlier : List Transfer)
    → IsTransferScanAt wanted now transfer earlier → (judgement : Judgement)
    → judgement ≡ judgement_of transfer
    → transfer_text
    (record {
      id = now.judge.id;
      start = now.start;
      written = now.written;
      length = now.judge.size;
      judgement = judgement;
    })
    ≡ transfer_text (entry_of wanted transfer (length (parts_of wanted earlier)))
line_is wanted now transfer earlier follows judgement is =
    rw (follows.judging.id, follows.start, follows.written, follows.judging.size, is) refl

-- ---- more of a transfer, without data

-- if no data is added, the written bytes stay the same
same_part : (wanted : Wanted) (transfer : Transfer) (closed : Bool)
    → part_of wanted (grown transfer [] closed) ≡ part_of wanted transfer
same_part wanted transfer closed = rw (append-nil transfer.content) refl

pub follows_same : (wanted : Wanted) (now : TransferScan) (transfer : Transfer) (closed : Bool)
    (earlier : List Transfer) → IsTransferScanAt wanted now transfer earlier
    → IsTransferScanAt wanted now (grown transfer [] closed) earlier
follows_same wanted now transfer closed earlier follows = record {
  judging = judging_same now.judge transfer closed follows.judging;
  start = follows.start;
  written = follows.written ∙ ap length (sym (same_part wanted transfer closed));
}

pub same_parts : (wanted : Wanted) (transfer : Transfer) (closed : Bool) (earlier : List Transfer)
    → parts_of wanted (transfer ∷ earlier) ≡ parts_of wanted (grown transfer [] closed ∷ earlier)
same_parts wanted transfer closed earlier =
    rw (parts_more wanted transfer earlier, parts_more wanted (grown transfer [] closed) earlier)
    (rw (append-nil transfer.content) refl)
