use Rattle.link_wire_writer.proofs.NewItems.{items_back}
use Rattle.link_wire_writer.proofs.laws.items_read_back.Goals as goal

pub returns : goal.returns
returns c = items_back
