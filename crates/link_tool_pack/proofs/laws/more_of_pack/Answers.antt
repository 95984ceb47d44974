use Rattle.link_tool_pack.proofs.{Packs.is_packed, Moved.is_moved}
use Rattle.link_tool_pack.proofs.laws.more_of_pack.Goals as goal

pub returns-clause-packed : goal.returns-clause-packed
returns-clause-packed c = is_packed

pub returns-clause-moved : goal.returns-clause-moved
returns-clause-moved c = is_moved
