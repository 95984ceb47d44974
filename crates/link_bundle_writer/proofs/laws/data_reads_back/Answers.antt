use Rattle.link_bundle_writer.proofs.EidsBack.{node_back, age_back, hop_count_back}
use Rattle.link_bundle_writer.proofs.laws.data_reads_back.Goals as goal

pub returns-clause-node : goal.returns-clause-node
returns-clause-node c = node_back

pub returns-clause-age : goal.returns-clause-age
returns-clause-age c = age_back

pub returns-clause-hop_count : goal.returns-clause-hop_count
returns-clause-hop_count c = hop_count_back
