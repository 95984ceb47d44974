use Rattle.std.proofs.Common.{sym, ap, ◌∙◌, arith}
use Rattle.link_bundle_rules.specs.History.{bundle_of}
use Rattle.link_bundle_rules.specs.declared.block.Counts.{Counts}
use Rattle.link_bundle_rules.proofs.Plain.{blocks_keep, one_hop_count}
use Rattle.link_bundle_rules.proofs.history.BundleHistory.hop_count.Goals as goal

pub returns-then-blocks-le1 : goal.returns-then-blocks-le1
returns-then-blocks-le1 c = λ byte size is counted.
    let bundle = bundle_of c.args.self.now byte size in
    let here = ap (λ (counts : Counts). counts.hop_counts) counted in
    sym (one_hop_count bundle (omega (arith, here, c.if-blocks-le1.true))
    (blocks_keep bundle (sym is ∙ c.if-plain.true)).limit)
