use Rattle.link_wire_writer.proofs.Messages.{message_there}
use Rattle.link_wire_writer.proofs.laws.message_reads_back.Goals as goal

pub returns : goal.returns
returns c = message_there
