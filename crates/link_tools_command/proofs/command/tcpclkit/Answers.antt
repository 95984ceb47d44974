use Rattle.std.proofs.{Common.{◌∙◌, ap₂}, lemmas.Result.IfOk-weaker}
use Rattle.clap.specs.Words.{with_subcommand}
use Rattle.link_tools_command.specs.Table.{table}
use Rattle.link_tools_command.proofs.command.tcpclkit.Goals as goal

pub returns : goal.returns
unfolding table
returns c =
    let one = c.in_ok-one.ensures.shape c.in_ok-list.ensures.local ∙ ap₂ with_subcommand c.program.ensures c.in_ok-list.ensures.shape in
    let two = c.in_ok-two.ensures.shape c.in_ok-unpack.ensures.local ∙ ap₂ with_subcommand one c.in_ok-unpack.ensures.shape in
    let three = c.in_ok-three.ensures.shape c.in_ok-blocks.ensures.local ∙ ap₂ with_subcommand two c.in_ok-blocks.ensures.shape in
    let four = c.in_ok-four.ensures.shape c.in_ok-check.ensures.local ∙ ap₂ with_subcommand three c.in_ok-check.ensures.shape in
    IfOk-weaker c.subcommand-5.result _ _
    (λ all adds. adds.shape c.in_ok-pack.ensures.local ∙ ap₂ with_subcommand four c.in_ok-pack.ensures.shape)
    c.subcommand-5.ensures
