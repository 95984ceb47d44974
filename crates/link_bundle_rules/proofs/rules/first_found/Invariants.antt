use Rattle.std.proofs.Common.{◌≡◌, Option, drop}
use Rattle.std.specs.Fn.{FnReturnsAt}
use Rattle.link_bundle_rules.specs.BundleFacts.{find_map}
use Rattle.link_bundle_rules.proofs.rules.first_found.Given as goal

abbrev pub invariant-loop-element : goal.invariant-loop-element
invariant-loop-element g l =
    (found : g.row.T.Denot → Option g.row.U.Denot)
    → ((element : g.row.T.Denot) (result : Option g.row.U.Denot) → FnReturnsAt g.F.Fn l.find element result
    → result ≡ found element)
    → find_map found l.elements ≡ find_map found (drop l.element-index l.elements)
