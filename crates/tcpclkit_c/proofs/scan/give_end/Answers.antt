use Rattle.std.proofs.Common.{◌≡◌, ◌<◌, ◌++◌, length, length-append, arith}
use Rattle.link_bundle.proofs.Pieces.{all_judged}
use Rattle.tcpclkit_c.proofs.Ends.{none_after, ends_before}
use Rattle.tcpclkit_c.proofs.scan.give_end.Goals as goal

pub returns-then-count : goal.returns-then-count
returns-then-count c = λ seen rest come may size.
    let more : length seen < c.args.count =
    omega (arith, c.if-count.true, c.count.ensures.seen seen come) in
    c.give_late.ensures seen rest come (ends_before seen c.args.count more may)
    (omega (arith, length-append seen rest, size, more))

pub returns : goal.returns
returns c = λ seen rest come may size.
    let same : seen ++ rest ≡ seen =
    none_after seen rest (omega (arith, size, c.if-count.false, c.count.ensures.seen seen come)) in
    rw same (c.give_verdict.ensures seen (all_judged _ seen come))
