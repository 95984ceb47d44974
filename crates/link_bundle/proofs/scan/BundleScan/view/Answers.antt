use Rattle.std.proofs.Common.{sym, refl}
use Rattle.link_bundle.proofs.Verdicts.{verdict-seen}
use Rattle.link_bundle.proofs.scan.BundleScan.view.Goals as goal

pub returns-in-Going-clause-seen : goal.returns-in-Going-clause-seen
returns-in-Going-clause-seen c = λ seen come.
    rw (verdict-seen come, sym c.state.ensures, c.in-Going.is) refl

pub returns-in-Ended-clause-seen : goal.returns-in-Ended-clause-seen
returns-in-Ended-clause-seen c = λ seen come.
    rw (verdict-seen come, sym c.state.ensures, c.in-Ended.is, c.view.ensures.view) refl

pub returns-in-Failed-clause-seen : goal.returns-in-Failed-clause-seen
returns-in-Failed-clause-seen c = λ seen come.
    rw (verdict-seen come, sym c.state.ensures, c.in-Failed.is) refl
