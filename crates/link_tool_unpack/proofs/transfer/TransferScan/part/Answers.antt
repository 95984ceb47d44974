use Rattle.std.proofs.Common.{◌≡◌, ◌<◌, ◌-◌, ◌^◌, ◌++◌, true, length, sym, ap, ◌∙◌, length-append, arith}
use Rattle.link_bundle_blocks.specs.Bundle.{payload_in}
use Rattle.link_bundle.specs.Part.{part_in}
use Rattle.link_run_judge.specs.Unpacking.{is_selected}
use Rattle.link_tool_unpack.proofs.{Payloads.{part_some, part_none}, Transfers.part_of-payload}
use Rattle.link_tool_unpack.proofs.transfer.TransferScan.part.Goals as goal

pub returns-in-Some-clause-part : goal.returns-in-Some-clause-part
returns-in-Some-clause-part c = λ transfer closed judging.
    let now = c.args.self.now.judge in
    let wanted = c.args.wanted.now in
    let piece = c.args.piece.now in
    let count = c.in-Some.count in
    let offset = c.in-Some.offset in
    let selected : is_selected wanted.only transfer.first.id ≡ true =
    ap (is_selected wanted.only) (sym judging.id) ∙ sym c.if-not-is_selected.ensures in
    let bytes : length (transfer.content ++ piece) < 2 ^ 64 = omega (arith, judging.size) in
    let more = part_some now.scan transfer.content piece judging.judged offset count (2 ^ 64) c.in-Some.ensures bytes in
    let before : now.size - length piece ≡ length transfer.content = omega (arith, judging.size, length-append transfer.content piece) in
    part_of-payload wanted transfer piece _ closed selected c.if-not-wanted.false
    (more.1 ∙ ap (λ start. payload_in transfer.content ++ part_in piece start offset count) (sym before)
    ∙ ap (λ xs. payload_in transfer.content ++ xs) (sym (c.part_in.ensures.part more.0)))

pub returns-in-None-clause-part : goal.returns-in-None-clause-part
returns-in-None-clause-part c = λ transfer closed judging.
    let now = c.args.self.now.judge in
    let wanted = c.args.wanted.now in
    let selected : is_selected wanted.only transfer.first.id ≡ true =
    ap (is_selected wanted.only) (sym judging.id) ∙ sym c.if-not-is_selected.ensures in
    part_of-payload wanted transfer c.args.piece.now _ closed selected c.if-not-wanted.false
    (part_none now.scan transfer.content c.args.piece.now judging.judged c.in-None.ensures)
