use Rattle.std.proofs.Common.{refl}
use Rattle.link_bundle_data.proofs.Steps.{begun}
use Rattle.link_bundle_data.proofs.scan.DataScan.new.Goals as goal

pub returns-clause-seen : goal.returns-clause-seen
returns-clause-seen c = record {
  state = begun c.new-2.result c.first.ensures c.new.ensures.seen;
  long = λ more. refl;
}
