use Rattle.std.proofs.Common.{◌≡◌, None, rules, sym, ◌∙◌}
use Rattle.link_bundle_rules.specs.History.{bundle_of}
use Rattle.link_bundle_rules.proofs.Plain.{none_broken}
use Rattle.link_bundle_rules.proofs.history.BundleHistory.keeps_rules.Goals as goal

pub returns-then-is_none : goal.returns-then-is_none
returns-then-is_none c = λ size source is.
    let byte = c.args.first_long_head in
    let none : byte ≡ None = search rules in
    none_broken (bundle_of c.args.self.now byte size) source none (sym (c.is_plain.ensures byte size) ∙ is)
