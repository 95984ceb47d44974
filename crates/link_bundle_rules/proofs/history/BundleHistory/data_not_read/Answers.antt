use Rattle.std.proofs.Common.{sym, ◌∙◌}
use Rattle.link_bundle_rules.specs.History.{bundle_of}
use Rattle.link_bundle_rules.proofs.Plain.{blocks_keep}
use Rattle.link_bundle_rules.proofs.history.BundleHistory.data_not_read.Goals as goal

pub returns-then-plain : goal.returns-then-plain
returns-then-plain c = λ byte size is.
    sym ((blocks_keep (bundle_of c.args.self.now byte size) (sym is ∙ c.if-plain.true)).unread
    c.args.source)
