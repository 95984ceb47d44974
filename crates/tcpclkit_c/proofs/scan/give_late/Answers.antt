use Rattle.std.proofs.Common.{◌++◌, sym}
use Rattle.tcpclkit_c.proofs.Ends.{judged_late, trailing}
use Rattle.tcpclkit_c.proofs.scan.give_late.Goals as goal

pub returns-in-Ok : goal.returns-in-Ok
returns-in-Ok c = λ seen rest come stops some.
    let good = rw c.in-Ok.is at (c.view.ensures.seen seen come) in
    rw (
      c.with_span.ensures,
      c.of_bundle-fault.ensures,
      c.count.ensures.seen seen come,
      c.payload_seen.ensures seen come,
    ) (trailing seen _ rest some (sym good))

pub returns-in-Err : goal.returns-in-Err
returns-in-Err c = λ seen rest come stops some.
    let bad = rw c.in-Err.is at (c.view.ensures.seen seen come) in
    c.give_verdict.ensures (seen ++ rest) (judged_late _ seen rest _ _ come (sym bad) stops)
