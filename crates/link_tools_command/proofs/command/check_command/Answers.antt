use Rattle.std.proofs.lemmas.Result.{IfOk-weaker}
use Rattle.link_tools_command.specs.Table.{check_words}
use Rattle.link_tools_command.proofs.Builds.{joined, one_more, whole_tool}
use Rattle.link_tools_command.proofs.command.check_command.Goals as goal

pub returns : goal.returns
unfolding check_words
returns c =
    let two = joined c.in_ok-one.ensures (one_more c.bundles.ensures c.in_ok-two.ensures) in
    IfOk-weaker c.arg-2.result _ _ (λ three adds. whole_tool c.tool-tool.ensures (joined two (one_more c.file.ensures adds))) c.arg-2.ensures
