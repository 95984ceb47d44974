use Rattle.std.proofs.Common.{[], ◌∙◌}
use Rattle.link_bundle.proofs.Pieces.{all_judged}
use Rattle.tcpclkit_c.proofs.Primaries.{primary_judged}
use Rattle.tcpclkit_c.proofs.bundle.tcpclkit_raw_describe_bundle.Goals as goal

pub returns : goal.returns
returns c =
    let new = all_judged c.new-scan.result [] c.new-scan.ensures.seen in
    let judged = c.judge_piece.ensures.judged [] new in
    rw (c.primary.ensures judged.seen judged.scanned ∙ primary_judged _ _ judged)
    at (c.give_info.ensures c.args.bytes.now judged)
