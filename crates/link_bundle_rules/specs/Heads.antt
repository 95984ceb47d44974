-- The rule of long heads (RFC 9171 section 4.1).
use Rattle.std.specs.Prelude.{ℕ, Bool, min, Option, Some, None, option_map, if◌then◌else◌}
use Rattle.std.specs.Option.{option_and_then, option_or}
use Rattle.link_rules_shared.specs.declared.level.{Level.Level, Level.TheVariants.{Must, Should}}
use Rattle.link_bundle_rules.specs.Hidden.{unless_hidden}
use Rattle.link_bundle_rules.specs.BundleFacts.{BundleFacts, has_readable_type, has_unknown_block, is_security_block, find_map}
use Rattle.link_bundle_rules.specs.declared.block.BlockFacts.{BlockFacts}
use Rattle.link_bundle_rules.specs.declared.rule.BundleRule.{BundleRule}
use Rattle.link_bundle_rules.specs.declared.rule.BundleRule.TheVariants.{LongHead}

-- the lesser of two offsets, or the only one, or `None`
abbrev pub least : (one other : Option ℕ) → Option ℕ
least None other = other
least one None = one
least (Some byte) (Some other) = Some (min byte other)

-- the first long head in the data of a block, unless the data may be ciphertext; malformed data has
-- none
abbrev pub readable_head : BundleFacts → BlockFacts → Option ℕ
readable_head bundle read = option_and_then (λ read. read.long_head) (unless_hidden bundle read)

-- the first long head in the data of the blocks that pass a test; they are in the order of offsets
abbrev pub data_head : (BlockFacts → Bool) → BundleFacts → Option ℕ
data_head test bundle =
    find_map (λ read. if test read then readable_head bundle read else None) bundle.blocks

-- the rule that a long head at this offset breaks; `None` without a long head
abbrev pub of_level : Level → Option ℕ → Option BundleRule
of_level level byte = option_map (λ byte. LongHead byte level) byte

-- the first long head in the data of security blocks, unless a block of an unknown type may have
-- encrypted the data
abbrev pub sure_security_head : BundleFacts → Option ℕ
sure_security_head bundle =
    if has_unknown_block bundle then None else data_head is_security_block bundle

-- long-head: each head is the shortest for its number. This is a `must` outside the data of blocks
-- (RFC 9171 section 4.1), and in the data of security blocks, as far as it is read (RFC 9172
-- section 3.6). It is a `should` in the data of previous node, bundle age and hop count blocks, and
-- in all data if a block of an unknown type may have encrypted it. The head of the bundle's own
-- array is not judged. The first longer head is reported, and a `must` goes before a `should`.
unfoldable pub long_head : BundleFacts → Option BundleRule
long_head bundle =
    option_or (of_level Must (least bundle.long_head (sure_security_head bundle)))
    (of_level Should (data_head has_readable_type bundle))
