use Rattle.link_bundle_writer.proofs.HeadsBack.{head_back}
use Rattle.link_bundle_writer.proofs.Shortest.{head_shortest}
use Rattle.link_bundle_writer.proofs.laws.heads.Goals as goal

pub returns-clause-reads_back : goal.returns-clause-reads_back
returns-clause-reads_back c = head_back

pub returns-clause-shortest : goal.returns-clause-shortest
returns-clause-shortest c = head_shortest
