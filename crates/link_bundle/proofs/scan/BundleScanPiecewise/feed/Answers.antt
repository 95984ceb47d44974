use Rattle.std.proofs.Common.{ap, sym}
use Rattle.std.proofs.Common.{length}
use Rattle.link_bundle.proofs.{Feeding.all_taken}
use Rattle.link_bundle.proofs.scan.BundleScanPiecewise.feed.Goals as goal

pub returns-in-BlockData-clause-seen : goal.returns-in-BlockData-clause-seen
returns-in-BlockData-clause-seen c = λ seen come.
    let taken = c.data_run.ensures in
    rw (sym (all_taken taken.taken taken.may_step come)) (taken.taken.seen seen come)

pub returns-in-BlockData-clause-count : goal.returns-in-BlockData-clause-count
returns-in-BlockData-clause-count c = λ seen come.
    ap length (all_taken c.data_run.ensures.taken c.data_run.ensures.may_step come)
