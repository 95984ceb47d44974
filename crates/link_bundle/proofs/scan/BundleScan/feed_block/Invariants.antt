use Rattle.std.proofs.Common.{length, ◌-◌, ◌<◌}
use Rattle.link_bundle.specs.Scan.{EndsBlockOnlyAtLastByte}
use Rattle.link_bundle.proofs.Taking.{HasFed}
use Rattle.link_bundle.proofs.scan.BundleScan.feed_block.Given as goal

abbrev pub invariant-loop-taken : goal.invariant-loop-taken
invariant-loop-taken l = record {
  some : 0 < l.taken;
  fed : HasFed l.fn.self l.self l.piece l.taken;
  blocks : EndsBlockOnlyAtLastByte l.fn.self l.self l.piece l.taken;
}

abbrev pub decreases-loop-taken : goal.decreases-loop-taken
decreases-loop-taken l = length l.piece - l.taken
