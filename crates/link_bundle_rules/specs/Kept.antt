-- Relations: bundles that are known to keep all rules, by cheap tests. The promises need only that
-- such a bundle breaks no rule.
use Rattle.std.specs.Prelude.{ℕ, Bool, true, false, not, ◌&&◌, ◌||◌, ◌==◌, nat_lt, nat_le, is_none, List, length}
use Rattle.std.specs.List.{list_all}
use Rattle.link_rules_shared.specs.Flags.{has_other_flags}
use Rattle.link_bundle_rules.specs.Extensions.{if_reserved}
use Rattle.link_bundle_rules.specs.Flags.{bundle_flags_defined, record_flag, is_set, requests_reports, if_reporting, if_other_block_flags}
use Rattle.link_bundle_rules.specs.BundleFacts as block
use Rattle.link_bundle_rules.specs.BundleFacts.{BundleFacts, count_of_type}
use Rattle.link_bundle_rules.specs.declared.block.{BlockFacts.BlockFacts, Counts.Counts, DataFacts.DataFacts}
use Rattle.link_bundle_rules.specs.declared.block.DataFacts.TheVariants.{Nothing, PreviousNode, BundleAge, HopCount}
use Rattle.link_bundle_rules.specs.declared.primary.PrimaryFacts.{PrimaryFacts}

-- whether this data is known to break no rule of data; other kinds than these are never plain
abbrev pub is_plain_data : (lifetime : ℕ) → DataFacts → Bool
is_plain_data lifetime Nothing = true
is_plain_data lifetime (PreviousNode node) = not node.has_bad_name && is_none node.level
is_plain_data lifetime (BundleAge age) = nat_le age lifetime
is_plain_data lifetime (HopCount limit count) =
    nat_lt 0 limit && (nat_lt limit 256 && nat_le count limit)
is_plain_data lifetime _ = false

-- whether this block can break no rule of single blocks
abbrev pub is_plain_block : (lifetime : ℕ) → BlockFacts → Bool
is_plain_block lifetime read =
    is_none (if_reporting read)
    && (is_none (if_other_block_flags read)
    && (is_none (if_reserved read)
    && (is_none read.long_head && is_plain_data lifetime read.data)))

-- whether this primary block can break no rule of primary blocks, whatever the other blocks are
abbrev pub is_plain_primary : PrimaryFacts → Bool
is_plain_primary primary =
    primary.has_check
    && (not primary.is_anonymous
    && (is_none primary.bad_name
    && (not primary.has_group_source
    && (is_none primary.fragment
    && (not (has_other_flags bundle_flags_defined primary.flags)
    && not (is_set record_flag primary.flags && requests_reports primary.flags))))))

-- how many previous node, bundle age and hop count blocks there are
abbrev pub counts_of : List BlockFacts → Counts
counts_of blocks = record {
  previous_nodes = count_of_type block.previous_node blocks;
  ages = count_of_type block.bundle_age blocks;
  hop_counts = count_of_type block.hop_count blocks;
}

-- Whether the numbers of previous node, hop count and bundle age blocks break no rule. They break
-- none if there is at most one of each, and a bundle age block if the creation time is 0.
abbrev pub has_plain_counts : BundleFacts → Bool
has_plain_counts bundle =
    let ages = count_of_type block.bundle_age bundle.blocks in
    nat_le (count_of_type block.previous_node bundle.blocks) 1
    && (nat_le (count_of_type block.hop_count bundle.blocks) 1
    && ((ages == 1) || ((ages == 0) && not bundle.primary.has_zero_time)))

-- Whether the bundle is known to break no rule other than long-head. It can break this rule only by
-- a head outside the data of blocks.
abbrev pub is_plain : BundleFacts → Bool
is_plain bundle =
    is_plain_primary bundle.primary
    && (list_all (is_plain_block bundle.primary.lifetime) bundle.blocks
    && (has_plain_counts bundle && (length bundle.security == 0)))
