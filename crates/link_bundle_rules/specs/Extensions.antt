-- Rules of extension blocks (RFC 9171 sections 4.3.2 and 4.4), and of data that is not read.
use Rattle.std.specs.Prelude.{ℕ, Bool, false, not, ◌&&◌, ◌||◌, ◌==◌, nat_le, nat_lt, Option, Some, None, option_map, if◌then◌else◌}
use Rattle.std.specs.Option.{option_and_then}
use Rattle.link_rules_shared.specs.declared.level.Level.TheVariants.{Must}
use Rattle.link_bundle_rules.specs.Fragments.{level_in}
use Rattle.link_bundle_rules.specs.Hidden.{is_hidden_block, first_readable}
use Rattle.link_bundle_rules.specs.Sources.{is_judged}
use Rattle.link_bundle_rules.specs.declared.source.KnownSource.{KnownSource}
use Rattle.link_bundle_rules.specs.BundleFacts as block
use Rattle.link_bundle_rules.specs.BundleFacts.{BundleFacts, is_of_type, has_readable_type, count_of_type, find_map}
use Rattle.link_bundle_rules.specs.declared.block.BlockFacts.{BlockFacts}
use Rattle.link_bundle_rules.specs.declared.block.DataFacts.{DataFacts}
use Rattle.link_bundle_rules.specs.declared.block.DataFacts.TheVariants.{PreviousNode, BundleAge, HopCount, Malformed, NotRead}
use Rattle.link_bundle_rules.specs.declared.{extensions.Hops.Hops, rule.BundleRule.BundleRule}
use Rattle.link_bundle_rules.specs.declared.rule.BundleRule.TheVariants as rule

-- age: a bundle has at most one bundle age block, and has one if its creation time is 0 (section
-- 4.4.2)
unfoldable pub age : BundleFacts → Option BundleRule
age bundle =
    let blocks = count_of_type block.bundle_age bundle.blocks in
    if nat_lt 1 blocks then Some (rule.Age blocks Must)
    else if (blocks == 0) && bundle.primary.has_zero_time
    then Some (rule.Age blocks (level_in bundle))
    else None

-- previous-node: a bundle has at most one previous node block (section 4.4.1)
unfoldable pub previous_node : BundleFacts → Option BundleRule
previous_node bundle =
    let blocks = count_of_type block.previous_node bundle.blocks in
    if nat_lt 1 blocks then Some (rule.PreviousNode blocks) else None

-- ---- the previous node and the age

-- the rule that a previous node block breaks if its node is forbidden as a node ID; `None` for data
-- of another kind
abbrev pub node_rule : (number : ℕ) → DataFacts → Option BundleRule
node_rule number (PreviousNode node) = option_map (λ level. rule.PreviousNodeId number level) node.level
node_rule number _ = None

-- the rule that a previous node block breaks if its node is forbidden as a node ID; `None` for a
-- block of another type
abbrev pub if_no_node_id : BlockFacts → Option BundleRule
if_no_node_id read = node_rule read.number read.data

-- previous-node-id: the first previous node block contains a node ID (section 4.4.1). This is the
-- endpoint ID of a singleton (section 4.2.5.2). So it is neither dtn:none nor a dtn name whose
-- demux begins with `~` (must). Another demux that is not empty, or a service number other than 0,
-- names no node (should).
unfoldable pub previous_node_id : BundleFacts → Option BundleRule
previous_node_id bundle = option_and_then if_no_node_id (first_readable block.previous_node bundle)

-- the rule that an age above the lifetime breaks; `None` for data of another kind
abbrev pub age_rule : (lifetime : ℕ) → DataFacts → Option BundleRule
age_rule lifetime (BundleAge age) =
    if nat_lt lifetime age then Some (rule.Expired lifetime age) else None
age_rule lifetime _ = None

-- the rule that a block breaks by an age above the lifetime; `None` for a block of another type
abbrev pub if_expired : (lifetime : ℕ) → BlockFacts → Option BundleRule
if_expired lifetime read = age_rule lifetime read.data

-- expired: the age of the first bundle age block does not exceed the lifetime (sections 4.3.1 and
-- 5.5)
unfoldable pub expired : BundleFacts → Option BundleRule
expired bundle =
    option_and_then (if_expired bundle.primary.lifetime) (first_readable block.bundle_age bundle)

-- ---- the hop limit and the hop count (section 4.4.3)

-- what the data of a hop count block says; `None` for data of another kind
abbrev pub hops_in : DataFacts → Option Hops
hops_in (HopCount limit count) = Some (record { limit = limit; count = count })
hops_in _ = None

-- what a hop count block says; `None` for a block of another type, or if the data is malformed or
-- not read
abbrev pub hops_of : BlockFacts → Option Hops
hops_of read = hops_in read.data

-- what the first hop count block says, unless its data is malformed, is not read, or may be
-- ciphertext
unfoldable pub first_hops : BundleFacts → Option Hops
first_hops bundle = option_and_then hops_of (first_readable block.hop_count bundle)

-- whether there is a hop limit, and it is not from 1 to 255
abbrev pub has_bad_limit : Option Hops → Bool
has_bad_limit None = false
has_bad_limit (Some hops) = (hops.limit == 0) || nat_lt 255 hops.limit

-- hop-count: a bundle has at most one hop count block, and the first one has a hop limit from 1 to
-- 255 (section 4.4.3)
unfoldable pub hop_count : BundleFacts → Option BundleRule
hop_count bundle =
    let blocks = count_of_type block.hop_count bundle.blocks in
    let first = first_hops bundle in
    if nat_lt 1 blocks || has_bad_limit first
    then Some (rule.HopCount blocks (option_map (λ hops. hops.limit) first))
    else None

-- the rule that is broken if the hop count is above the hop limit, and else `None`
abbrev pub if_exceeded : Hops → Option BundleRule
if_exceeded hops =
    if nat_lt hops.limit hops.count then Some (rule.Hops hops.limit hops.count) else None

-- hops: the hop count of the first hop count block is within its hop limit (section 4.4.3)
unfoldable pub hops : BundleFacts → Option BundleRule
hops bundle = option_and_then if_exceeded (first_hops bundle)

-- ---- block types

-- whether a block type is reserved: 0, a type that only version 6 of the protocol has (2 to 5, 8
-- and 9, section 9.1), or a type above 255
abbrev pub is_reserved : (type : ℕ) → Bool
is_reserved type =
    (type == 0) || ((nat_le 2 type && nat_le type 5)
    || ((type == 8) || ((type == 9) || nat_lt 255 type)))

-- the rule that a block breaks by a type that is reserved
abbrev pub if_reserved : BlockFacts → Option BundleRule
if_reserved read =
    if is_reserved read.block_type then Some (rule.BlockType read.number read.block_type) else None

-- block-type: a block has no type that is reserved (sections 4.3.2 and 9.1). The first block with
-- a reserved type is reported.
unfoldable pub block_type : BundleFacts → Option BundleRule
block_type bundle = find_map if_reserved bundle.blocks

-- ---- data that is malformed or not read, if it cannot be ciphertext

-- the rule that malformed data breaks; data that exceeds a limit of this toolkit does not break it
abbrev pub malformed_rule : (number : ℕ) → DataFacts → Option BundleRule
malformed_rule number (Malformed byte) = Some (rule.BlockData number byte)
malformed_rule number _ = None

-- the rule that an extension block or a security block breaks by malformed data, if the data cannot
-- be ciphertext; a block of another type does not break it
abbrev pub if_malformed_extension : BundleFacts → BlockFacts → Option BundleRule
if_malformed_extension bundle read =
    if has_readable_type read && not (is_hidden_block bundle read.block_type read.number)
    then malformed_rule read.number read.data
    else None

-- block-data: the data of previous node, bundle age, hop count and security blocks is well formed
-- (sections 4.4.1, 4.4.2 and 4.4.3, RFC 9172 section 3.6), as far as it is read. The first block
-- with malformed data is reported.
unfoldable pub block_data : BundleFacts → Option BundleRule
block_data bundle = find_map (if_malformed_extension bundle) bundle.blocks

-- the rule that data breaks if it exceeds a limit of this toolkit
abbrev pub unread_rule : (number : ℕ) → DataFacts → Option BundleRule
unread_rule number (NotRead byte) = Some (rule.DataNotRead number byte)
unread_rule number _ = None

-- whether the data of a block is judged by its limits: that of an extension block or a security
-- block, or an administrative record, which binds the source
abbrev pub is_judged_by_limits : KnownSource → BlockFacts → Bool
is_judged_by_limits source read =
    has_readable_type read || (is_of_type block.payload read && is_judged source)

-- the rule that a block breaks by data that exceeds a limit of this toolkit, if the data cannot be
-- ciphertext
abbrev pub if_unread : KnownSource → BundleFacts → BlockFacts → Option BundleRule
if_unread source bundle read =
    if is_judged_by_limits source read
    && not (is_hidden_block bundle read.block_type read.number)
    then unread_rule read.number read.data
    else None

-- data-not-read: the data of extension and security blocks, and an administrative record, exceed no
-- limit of this toolkit. RFC 9171 permits data that does (section 4.1). The first block with such
-- data is reported.
unfoldable pub data_not_read : KnownSource → BundleFacts → Option BundleRule
data_not_read source bundle = find_map (if_unread source bundle) bundle.blocks
