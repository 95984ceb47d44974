use Rattle.link_transfer.proofs.Joining.{IsJoinerAt-none}
use Rattle.link_transfer.proofs.joiner.Joiner.new.Goals as goal

pub returns : goal.returns
returns c = IsJoinerAt-none
