use Rattle.link_wire_writer.proofs.Streams.{stream_back}
use Rattle.link_wire_writer.proofs.laws.stream_reads_back.Goals as goal

pub returns : goal.returns
returns c = stream_back
