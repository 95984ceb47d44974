use Rattle.std.proofs.lemmas.Result.{IfOk-weaker}
use Rattle.link_tools_command.proofs.Builds.{in_range, joined, one_more}
use Rattle.link_tools_command.proofs.command.with_judged.Goals as goal

pub returns : goal.returns
returns c =
    let segment = in_range c.number-segment.ensures c.any_u64.ensures in
    let transfer = in_range c.number-transfer.ensures c.any_u64-2.ensures in
    let two = joined (one_more c.flag-must.ensures c.in_ok-one.ensures) (one_more c.own.ensures c.in_ok-two.ensures) in
    let three = joined two (one_more segment c.in_ok-three.ensures) in
    IfOk-weaker c.arg-4.result _ _ (λ four adds. joined three (one_more transfer adds)) c.arg-4.ensures
