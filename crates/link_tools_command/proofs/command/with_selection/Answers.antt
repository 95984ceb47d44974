use Rattle.std.proofs.lemmas.Result.{IfOk-weaker}
use Rattle.link_tools_command.proofs.Builds.{joined, one_more}
use Rattle.link_tools_command.proofs.command.with_selection.Goals as goal

pub returns : goal.returns
returns c =
    let one = one_more c.transfer-transfer.ensures c.in_ok-one.ensures in
    IfOk-weaker c.arg-2.result _ _ (λ two adds. joined one (one_more c.flag-payload.ensures adds)) c.arg-2.ensures
