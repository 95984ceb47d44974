use Rattle.std.proofs.lemmas.Result.{IfOk-weaker}
use Rattle.link_tools_command.proofs.Builds.{in_range, joined, one_more, with_default}
use Rattle.link_tools_command.proofs.command.with_form.Goals as goal

pub returns : goal.returns
returns c =
    let announce = with_default (in_range c.number-announce.ensures c.up_to_1048576.ensures) c.default_value.ensures in
    let two = joined (one_more announce c.in_ok-one.ensures) (one_more c.flag-end.ensures c.in_ok-two.ensures) in
    IfOk-weaker c.arg-3.result _ _ (λ three adds. joined two (one_more c.file.ensures adds)) c.arg-3.ensures
