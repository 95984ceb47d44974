-- Rules of single security blocks (RFC 9171 section 4.3.1, RFC 9172).
use Rattle.std.specs.Prelude.{ℕ, Bool, not, ◌&&◌, ◌||◌, ◌==◌, Option, Some, None, if◌then◌else◌}
use Rattle.std.specs.List.{list_any}
use Rattle.link_rules_shared.specs.Flags.{has_other_flags}
use Rattle.link_rules_shared.specs.declared.level.{Level.Level, Level.TheVariants.Should}
use Rattle.link_bundle_rules.specs.Flags.{is_set}
use Rattle.link_bundle_rules.specs.Fragments.{level_in}
use Rattle.link_bundle_rules.specs.Hidden.{is_hidden}
use Rattle.link_bundle_rules.specs.BundleFacts.{BundleFacts, block_integrity, block_confidentiality, find_map}
use Rattle.link_bundle_rules.specs.Targets.{is_confidentiality, has_target, first_counted}
use Rattle.link_bundle_rules.specs.declared.rule.BundleRule.{BundleRule}
use Rattle.link_bundle_rules.specs.declared.rule.BundleRule.TheVariants.{PrimaryCheck, ConfidentialPrimary, SecurityFlags, SecurityContext, ConfidentialFlags, ConfidentialContext}
use Rattle.link_bundle_rules.specs.declared.security.SecurityFacts.{SecurityFacts}
use Rattle.link_bundle_rules.specs.declared.source.{KnownSource.KnownSource, KnownSource.TheVariants.Own}

-- Whether a block integrity block may have the primary block as a target. If its data is malformed
-- or hidden, its targets are not known.
abbrev pub may_protect_primary : BundleFacts → SecurityFacts → Bool
may_protect_primary bundle block =
    (block.block_type == block_integrity)
    && (block.targets_primary || (block.is_malformed || is_hidden bundle block.number))

-- The level of primary-check. It is a `should` in a later fragment, and if another node than the
-- source may have sent the bundle. Such a node may be a security acceptor: it removes the block
-- integrity block (RFC 9172 section 5.1.2), and may not change the primary block (RFC 9171 section
-- 4.3.1).
abbrev pub check_level : KnownSource → BundleFacts → Level
check_level Own bundle = level_in bundle
check_level _ bundle = Should

-- primary-check: the primary block has a check, or a block integrity block has it as a target (RFC
-- 9171 section 4.3.1)
unfoldable pub primary_check : KnownSource → BundleFacts → Option BundleRule
primary_check source bundle =
    if bundle.primary.has_check || list_any (may_protect_primary bundle) bundle.security
    then None
    else Some (PrimaryCheck (check_level source bundle))

-- the rule that a block confidentiality block breaks by having the primary block as a target
abbrev pub if_confidential_primary : SecurityFacts → Option BundleRule
if_confidential_primary block =
    if (block.block_type == block_confidentiality) && (block.targets_primary && block.is_judged)
    then Some (ConfidentialPrimary block.number)
    else None

-- confidential-primary: no block confidentiality block has the primary block as a target (RFC 9172
-- section 3.8). The first block with this target is reported.
unfoldable pub confidential_primary : BundleFacts → Option BundleRule
confidential_primary bundle = find_map if_confidential_primary bundle.security

-- ---- flags and contexts of security blocks that count

-- the only flag of a security context that is defined: its parameters are present (RFC 9172 section
-- 3.6)
abbrev pub context_flags_defined : ℕ
context_flags_defined = 0x01

-- the rule that a security block breaks by a flag of its context that is not defined
abbrev pub if_other_context_flags : SecurityFacts → Option BundleRule
if_other_context_flags block =
    if has_other_flags context_flags_defined block.context_flags
    then Some (SecurityFlags block.number block.context_flags)
    else None

-- security-flags: a security context has no flag but the one that is defined (RFC 9172 section 3.6)
unfoldable pub security_flags : BundleFacts → Option BundleRule
security_flags bundle = first_counted bundle if_other_context_flags

-- the rule that a security block breaks by a context whose ID is reserved: 0 or negative
abbrev pub if_reserved_context : SecurityFacts → Option BundleRule
if_reserved_context block =
    if block.context.negative || (block.context.argument == 0)
    then Some (SecurityContext block.number block.context)
    else None

-- security-context: the ID of a security context is above 0, since the others are reserved (RFC
-- 9172 sections 3.6 and 11.3)
unfoldable pub security_context : BundleFacts → Option BundleRule
security_context bundle = first_counted bundle if_reserved_context

-- the flag that asks for a copy of the block in every fragment (RFC 9171 section 4.2.4)
abbrev pub copied : ℕ
copied = 0x01

-- the flag that discards the block if it cannot be processed
abbrev pub discarded : ℕ
discarded = 0x10

-- Whether the flags of a security block permit its loss. A node may discard the block, or may leave
-- it out of a fragment although the payload is one of its targets. The payload has number 1.
abbrev pub may_be_lost : SecurityFacts → Bool
may_be_lost block =
    is_set discarded block.flags
    || (has_target 1 block && not (is_set copied block.flags))

-- the rule that a block confidentiality block breaks if its flags permit its loss
abbrev pub if_may_be_lost : SecurityFacts → Option BundleRule
if_may_be_lost block =
    if is_confidentiality block && may_be_lost block
    then Some (ConfidentialFlags block.number block.flags)
    else None

-- confidential-flags: a block confidentiality block is not discarded if it cannot be processed, and
-- is copied into every fragment if it has the payload as a target (RFC 9172 section 3.8)
unfoldable pub confidential_flags : BundleFacts → Option BundleRule
confidential_flags bundle = first_counted bundle if_may_be_lost

-- the context BIB-HMAC-SHA2 (RFC 9173 section 5.1), which has no cipher (section 3.1)
abbrev pub hmac_sha2 : ℕ
hmac_sha2 = 1

-- the rule that a block confidentiality block breaks by the context BIB-HMAC-SHA2, which has no
-- cipher
abbrev pub if_no_cipher : SecurityFacts → Option BundleRule
if_no_cipher block =
    if is_confidentiality block
    && (not block.context.negative && (block.context.argument == hmac_sha2))
    then Some (ConfidentialContext block.number)
    else None

-- confidential-context: the context of a block confidentiality block has a cipher (RFC 9172 section
-- 3.8, RFC 9173 sections 3.1 and 5.1)
unfoldable pub confidential_context : BundleFacts → Option BundleRule
confidential_context bundle = first_counted bundle if_no_cipher
