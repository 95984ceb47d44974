use Rattle.std.proofs.lemmas.Result.{IfOk-weaker}
use Rattle.link_tools_command.proofs.Builds.{joined, one_more}
use Rattle.link_tools_command.proofs.command.with_sender.Goals as goal

pub returns : goal.returns
returns c =
    let two = joined (one_more c.node.ensures c.in_ok-one.ensures) (one_more c.keepalive.ensures c.in_ok-two.ensures) in
    IfOk-weaker c.arg-3.result _ _ (λ three adds. joined two (one_more c.segment_mru.ensures adds)) c.arg-3.ensures
