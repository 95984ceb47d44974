use Rattle.std.proofs.Common.{◌∙◌}
use Rattle.link_bundle.proofs.Pieces.{verdict_judged, span_judged}
use Rattle.tcpclkit_c.proofs.bundle.found.Goals as goal

pub returns : goal.returns
returns c = λ bytes judged.
    let outcome = c.view.ensures.seen judged.seen judged.scanned ∙ verdict_judged _ _ judged in
    let span = c.payload_seen.ensures judged.seen judged.scanned ∙ span_judged _ _ judged in
    rw (c.with_span.ensures, c.fault_of.ensures, outcome, span)
