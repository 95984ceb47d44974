use Rattle.link_tools_laws.proofs.Same.{same_tool}
use Rattle.link_tools_laws.proofs.laws.unpack_by_transfers.Goals as goal

pub returns : goal.returns
returns c = same_tool
