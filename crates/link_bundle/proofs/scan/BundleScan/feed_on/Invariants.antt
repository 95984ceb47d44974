use Rattle.std.proofs.Common.{length, ◌-◌}
use Rattle.link_bundle.proofs.Taking.{HasFed}
use Rattle.link_bundle.proofs.scan.BundleScan.feed_on.Given as goal

abbrev pub invariant-loop-taken : goal.invariant-loop-taken
invariant-loop-taken l = HasFed l.fn.self l.self l.bytes l.taken

abbrev pub decreases-loop-taken : goal.decreases-loop-taken
decreases-loop-taken l = length l.bytes - l.taken
