use Rattle.std.proofs.Common.{refl}
use Rattle.link_bundle_data.proofs.Steps.{begun}
use Rattle.link_bundle_data.proofs.scan.DataScan.restart.Goals as goal

pub returns-clause-seen : goal.returns-clause-seen
returns-clause-seen c = record {
  state = begun c.args.self.now.draft c.first.ensures c.new-self.ensures.seen;
  long = λ more. refl;
}
