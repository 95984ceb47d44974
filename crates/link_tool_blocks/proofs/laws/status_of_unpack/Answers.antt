use Rattle.link_tool_blocks.proofs.Statuses.{HasStatusOfUnpack-holds}
use Rattle.link_tool_blocks.proofs.laws.status_of_unpack.Goals as goal

pub returns : goal.returns
returns c = HasStatusOfUnpack-holds
