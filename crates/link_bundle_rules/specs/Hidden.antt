-- Data that may be ciphertext (RFC 9172 section 3.8).
use Rattle.std.specs.Prelude.{ℕ, Bool, not, ◌&&◌, ◌||◌, ◌==◌, nat_lt, Option, Some, None, if◌then◌else◌}
use Rattle.std.specs.{List.{list_any, find}, Option.option_and_then}
use Rattle.link_bundle_rules.specs.BundleFacts.{BundleFacts, block_confidentiality, is_later, is_of_type}
use Rattle.link_bundle_rules.specs.declared.block.BlockFacts.{BlockFacts}
use Rattle.link_bundle_rules.specs.declared.security.SecurityFacts.{SecurityFacts}

-- whether the targets of a security block are all known: only the first 64 are kept
abbrev pub has_known_targets : SecurityFacts → Bool
has_known_targets block = not block.is_malformed && not (nat_lt 64 block.count)

-- Whether the block with this number is, or may be, a target of a block confidentiality block.
abbrev pub may_hide : (number : ℕ) → SecurityFacts → Bool
may_hide number block =
    (block.block_type == block_confidentiality)
    && (not (has_known_targets block)
    || list_any (λ target. target == number) block.targets.items)

-- Whether the data of the block with this number may be ciphertext. The block is of another type
-- than block confidentiality. A later fragment may lack a block confidentiality block that does not
-- have the payload as a target (RFC 9171 section 5.8). So each block of a later fragment may be a
-- target, except the payload, which has number 1.
abbrev pub is_hidden : BundleFacts → (number : ℕ) → Bool
is_hidden bundle number =
    (is_later bundle.primary.fragment && not (number == 1))
    || list_any (may_hide number) bundle.security

-- Whether the data of a block may be ciphertext. A block confidentiality block is never a target of
-- another one (RFC 9172 section 3.8), so its data is never ciphertext.
abbrev pub is_hidden_block : BundleFacts → (type number : ℕ) → Bool
is_hidden_block bundle type number =
    not (type == block_confidentiality) && is_hidden bundle number

-- a block, unless its data may be ciphertext
abbrev pub unless_hidden : BundleFacts → BlockFacts → Option BlockFacts
unless_hidden bundle read =
    if is_hidden_block bundle read.block_type read.number then None else Some read

-- the first block of a type, or `None` if there is none or its data may be ciphertext
unfoldable pub first_readable : (type : ℕ) → BundleFacts → Option BlockFacts
first_readable type bundle =
    option_and_then (unless_hidden bundle) (find (is_of_type type) bundle.blocks)
