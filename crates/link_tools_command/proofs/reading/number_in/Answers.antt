use Rattle.clap.specs.Words.{found_of}
use Rattle.link_tools_command.proofs.Numbers.{number_got}
use Rattle.link_tools_command.proofs.reading.number_in.Goals as goal

pub returns : goal.returns
returns c = number_got 64 (found_of c.args.tool.now) c.args.name.now c.get_one.result c.get_one.ensures.none c.get_one.ensures.value
