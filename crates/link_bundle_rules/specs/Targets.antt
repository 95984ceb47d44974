-- Rules of security blocks (RFC 9172), and of their targets. They look at the first 64 targets.
use Rattle.std.specs.Prelude.{ℕ, Bool, false, not, ◌&&◌, ◌==◌, List, [], ◌∷◌, ◌++◌, is_none, Option, Some, None, option_map, if◌then◌else◌}
use Rattle.std.specs.{Bool.then_some, List.list_any, Option.option_or}
use Rattle.link_rules_shared.specs.declared.level.Level.TheVariants.{Must, Should}
use Rattle.link_bundle_rules.specs.Hidden.{is_hidden_block}
use Rattle.link_bundle_rules.specs.BundleFacts.{BundleFacts, block_integrity, block_confidentiality, find_map}
use Rattle.link_bundle_rules.specs.declared.rule.BundleRule.{BundleRule}
use Rattle.link_bundle_rules.specs.declared.rule.BundleRule.TheVariants as rule
use Rattle.link_bundle_rules.specs.declared.security.SecurityFacts.{SecurityFacts}
use Rattle.link_bundle_rules.specs.declared.targets.TargetFault.{TargetFault}
use Rattle.link_bundle_rules.specs.declared.targets.TargetFault.TheVariants as fault

-- ---- security blocks that count, and their targets

abbrev pub is_integrity : SecurityFacts → Bool
is_integrity block = block.block_type == block_integrity

abbrev pub is_confidentiality : SecurityFacts → Bool
is_confidentiality block = block.block_type == block_confidentiality

-- Whether a security block counts. It counts if it is judged, and its data is neither malformed nor
-- unread, and cannot be ciphertext.
abbrev pub counts : BundleFacts → SecurityFacts → Bool
counts bundle block =
    block.is_judged
    && (not block.is_malformed && not (is_hidden_block bundle block.block_type block.number))

-- the result of `judge` for a block that counts; `None` for any other block
abbrev pub if_counted : {A : Type 0} → BundleFacts → (SecurityFacts → Option A) → SecurityFacts
    → Option A
if_counted bundle judge block = if counts bundle block then judge block else None

-- the first result that `judge` has for a block that counts
abbrev pub first_counted : {A : Type 0} → BundleFacts → (SecurityFacts → Option A) → Option A
first_counted bundle judge = find_map (if_counted bundle judge) bundle.security

-- the number of a block and its first target of which a test holds; `None` without such a target
abbrev pub first_target : (SecurityFacts → ℕ → Bool) → SecurityFacts → Option (ℕ × ℕ)
first_target test block =
    find_map (λ target. then_some (test block target) (block.number, target)) block.targets.items

-- whether the block with number `target` is among the first 64 targets of a security block
abbrev pub has_target : (target : ℕ) → SecurityFacts → Bool
has_target target block = list_any (λ other. other == target) block.targets.items

-- whether a block is of this type, has this target, and counts
abbrev pub is_target_of : BundleFacts → (type target : ℕ) → SecurityFacts → Bool
is_target_of bundle type target block =
    (block.block_type == type) && (has_target target block && counts bundle block)

-- ---- security-targets

-- the first of `targets` that is also in `before`, or earlier in `targets`
abbrev pub first_repeated : (before targets : List ℕ) → Option ℕ
first_repeated before [] = None
first_repeated before (target ∷ more) =
    if list_any (λ other. other == target) before
    then Some target
    else first_repeated (before ++ target ∷ []) more

-- the rule that a block breaks if it has no target, or names one twice; in the rule, `None` stands
-- for no target
abbrev pub if_bad_targets : SecurityFacts → Option BundleRule
if_bad_targets block =
    if block.count == 0
    then Some (rule.SecurityTargets block.number None Must)
    else option_map (λ target. rule.SecurityTargets block.number (Some target) Must)
    (first_repeated [] block.targets.items)

-- whether no block has this number; the primary block has number 0
abbrev pub is_missing : BundleFacts → (target : ℕ) → Bool
is_missing bundle target =
    not (target == 0) && not (list_any (λ read. read.number == target) bundle.blocks)

-- the rule that a security block breaks by a target that is no block of the bundle; a fragment may
-- lack blocks, so this is not judged in a fragment
abbrev pub missing_target : BundleFacts → Option BundleRule
missing_target bundle =
    if is_none bundle.primary.fragment
    then option_map (λ (block, target). rule.SecurityTargets block (Some target) Should)
    (first_counted bundle (first_target (λ block target. is_missing bundle target)))
    else None

-- security-targets: a security block has a target, and names none twice (must, section 3.6). In a
-- bundle that is no fragment, each target is the number of a block. This is only a `should`, since
-- a node may have removed the block.
unfoldable pub security_targets : BundleFacts → Option BundleRule
security_targets bundle = option_or (first_counted bundle if_bad_targets) (missing_target bundle)

-- ---- targets that two blocks have

-- the number of the first block of a type that has this target, and counts
abbrev pub first_with : BundleFacts → (type target : ℕ) → Option ℕ
first_with bundle type target =
    find_map (λ block. then_some (is_target_of bundle type target block) block.number)
    bundle.security

-- Whether an earlier block of the same type has this target: the first block that has it is
-- another. No two blocks have the same number.
abbrev pub is_target_of_earlier_block : BundleFacts → SecurityFacts → (target : ℕ) → Bool
is_target_of_earlier_block bundle block target =
    elim (first_with bundle block.block_type target) [
      | None ↦ false
      | Some first ↦ not (first == block.number)
    ]

-- security-twice: no two security blocks of one type have a target in common (section 3.2). The
-- first block that shares a target with an earlier one is reported, with its first such target.
unfoldable pub security_twice : BundleFacts → Option BundleRule
security_twice bundle =
    option_map (λ (block, target). rule.SecurityTwice block target)
    (first_counted bundle (first_target (is_target_of_earlier_block bundle)))

-- whether a block confidentiality block that counts has this target
abbrev pub is_confidential : BundleFacts → (target : ℕ) → Bool
is_confidential bundle target =
    list_any (is_target_of bundle block_confidentiality target) bundle.security

-- whether `block` is a block integrity block, and a block confidentiality block has its target too
abbrev pub is_shared_by_both_types : BundleFacts → SecurityFacts → (target : ℕ) → Bool
is_shared_by_both_types bundle block target = is_integrity block && is_confidential bundle target

-- shared-target: a block integrity block has no target in common with a block confidentiality block
-- (section 3.9). Otherwise the block integrity block would be encrypted itself.
unfoldable pub shared_target : BundleFacts → Option BundleRule
shared_target bundle =
    option_map (λ (block, target). rule.SharedTarget block target)
    (first_counted bundle (first_target (is_shared_by_both_types bundle)))

-- ---- targets that are security blocks

-- whether `block` is a block integrity block, and its target is a security block
abbrev pub is_protected_security_block : BundleFacts → SecurityFacts → (target : ℕ) → Bool
is_protected_security_block bundle block target =
    is_integrity block && list_any (λ other. other.number == target) bundle.security

-- integrity-target: no security block is a target of a block integrity block (section 3.7)
unfoldable pub integrity_target : BundleFacts → Option BundleRule
integrity_target bundle =
    option_map (λ (block, target). rule.IntegrityTarget block target)
    (first_counted bundle (first_target (is_protected_security_block bundle)))

-- whether `block` is a block confidentiality block, and so is its target
abbrev pub is_encrypted_confidentiality_block : BundleFacts → SecurityFacts → (target : ℕ) → Bool
is_encrypted_confidentiality_block bundle block target =
    is_confidentiality block
    && list_any (λ other. (other.number == target) && is_confidentiality other) bundle.security

-- confidential-target: no block confidentiality block is a target of another or of itself (section
-- 3.8)
unfoldable pub confidential_target : BundleFacts → Option BundleRule
confidential_target bundle =
    option_map (λ (block, target). rule.ConfidentialTarget block target)
    (first_counted bundle (first_target (is_encrypted_confidentiality_block bundle)))

-- ---- the faults of a target

-- whether a target of a security block has this fault
abbrev pub has_fault : TargetFault → BundleFacts → SecurityFacts → (target : ℕ) → Bool
has_fault fault.IsMissing bundle block target = is_missing bundle target
has_fault fault.IsTargetOfEarlierBlock bundle block target =
    is_target_of_earlier_block bundle block target
has_fault fault.IsSharedByBothTypes bundle block target =
    is_shared_by_both_types bundle block target
has_fault fault.IsProtectedSecurityBlock bundle block target =
    is_protected_security_block bundle block target
has_fault fault.IsEncryptedConfidentialityBlock bundle block target =
    is_encrypted_confidentiality_block bundle block target
