use Rattle.std.proofs.Common.{None, rules}
use Rattle.link_bundle_rules.specs.History.{bundle_of}
use Rattle.link_bundle_rules.specs.Targets.{if_counted, first_target, has_fault}
use Rattle.link_bundle_rules.proofs.history.BundleHistory.first_target_that.Goals as goal

pub returns : goal.returns
returns c =
    let bundle = bundle_of c.args.self.now None 0 in
    rw c.as_slice.ensures.value at
    (c.first_found.ensures (if_counted bundle (first_target (has_fault c.args.fault bundle)))
    (λ block judged is. search rules))
