use Rattle.std.proofs.Common.{◌≡◌, take}
use Rattle.link_bundle_rules.specs.BundleFacts as block
use Rattle.link_bundle_rules.specs.BundleFacts.{count_of_type}
use Rattle.link_bundle_rules.proofs.block.Counts.of.Given as goal

abbrev pub invariant-loop-block : goal.invariant-loop-block
invariant-loop-block l =
    let so_far = take l.block-index l.blocks in
    record {
      previous_nodes : l.counts.previous_nodes ≡ count_of_type block.previous_node so_far;
      ages : l.counts.ages ≡ count_of_type block.bundle_age so_far;
      hop_counts : l.counts.hop_counts ≡ count_of_type block.hop_count so_far;
    }
