use Rattle.std.proofs.Common.{◌∙◌, ap, codes}
use Rattle.std.specs.Prelude.{unwrap_or}
use Rattle.clap.specs.Words.{found_of}
use Rattle.link_tools_command.specs.Invoked.{number_of}
use Rattle.link_tools_command.proofs.Numbers.{number_got}
use Rattle.link_tools_command.proofs.reading.keepalive.Goals as goal

pub returns : goal.returns
unfolding number_of
returns c =
    let read = number_got 16 (found_of c.args.tool.now) (codes "keepalive") c.get_one.result c.get_one.ensures.none c.get_one.ensures.value in
    c.unwrap_or.ensures ∙ ap (λ o. unwrap_or o 0) read
