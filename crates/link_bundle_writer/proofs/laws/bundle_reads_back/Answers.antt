use Rattle.link_bundle_writer.proofs.BundleBack.{bundle_back}
use Rattle.link_bundle_writer.proofs.laws.bundle_reads_back.Goals as goal

pub returns : goal.returns
returns c = bundle_back
