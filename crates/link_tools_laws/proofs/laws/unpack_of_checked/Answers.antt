use Rattle.link_tools_laws.proofs.Checked.{only_allowed}
use Rattle.link_tools_laws.proofs.laws.unpack_of_checked.Goals as goal

pub returns : goal.returns
returns c = only_allowed
