use Rattle.std.proofs.Common.{refl}
use Rattle.link_bundle_data_in_pieces.proofs.Reading.{read_none, none_cut}
use Rattle.link_bundle_data_in_pieces.proofs.data.DataReader.restart.Goals as goal

pub returns-clause-reads : goal.returns-clause-reads
returns-clause-reads c = read_none _ refl none_cut
