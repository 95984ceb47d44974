use Rattle.std.proofs.Common.{[]}
use Rattle.link_bundle.proofs.Pieces.{all_judged}
use Rattle.tcpclkit_c.proofs.bundle.tcpclkit_raw_judge_bundle.Goals as goal

pub returns-clause-status : goal.returns-clause-status
returns-clause-status c =
    let scanned = all_judged c.new-scan.result [] c.new-scan.ensures.seen in
    (c.give_verdict.ensures c.args.bytes.now (c.judge_piece.ensures.judged [] scanned)).answers

pub returns-clause-answer : goal.returns-clause-answer
returns-clause-answer c =
    let scanned = all_judged c.new-scan.result [] c.new-scan.ensures.seen in
    (c.give_verdict.ensures c.args.bytes.now (c.judge_piece.ensures.judged [] scanned)).numbers
