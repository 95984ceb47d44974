use Rattle.std.proofs.Common.{drop, length-take, length-drop, refl}
use Rattle.link_bundle_blocks.specs.Bundle.{payload_in, payload_seen}
use Rattle.link_bundle.proofs.Verdicts.{payload_of-seen}
use Rattle.link_bundle.proofs.scan.BundleScan.payload_seen.Goals as goal

pub returns-in_err-offset : goal.returns-in_err-offset
unfolding payload_seen
returns-in_err-offset c = λ seen come.
    rw (c.from_residual.ensures, payload_of-seen come, c.in_err-offset.was) refl

pub returns : goal.returns
unfolding payload_seen payload_in
returns c = λ seen come.
    rw (
      c.min.ensures,
      c.saturating_sub.ensures,
      payload_of-seen come,
      c.in_ok-offset.was,
      come.come.count,
      length-take c.in_ok-offset.size (drop c.in_ok-offset.offset seen),
      length-drop c.in_ok-offset.offset seen,
    ) refl
