use Rattle.link_tool_pack.proofs.Packs.{has_few, has_lines}
use Rattle.link_tool_pack.proofs.laws.more_ids.Goals as goal

pub returns-clause-few : goal.returns-clause-few
returns-clause-few c = has_few

pub returns-clause-lines : goal.returns-clause-lines
returns-clause-lines c = has_lines
