-- Rules of fragments (RFC 9171 sections 3.1, 4.3.1, 5.8 and 5.9).
use Rattle.std.specs.Prelude.{ℕ, ◌+◌, Bool, not, ◌&&◌, ◌||◌, ◌==◌, nat_lt, Option, Some, None, if◌then◌else◌}
use Rattle.std.specs.Option.{option_and_then}
use Rattle.link_rules_shared.specs.declared.level.{Level.Level, Level.TheVariants.{Must, Should}}
use Rattle.link_bundle_rules.specs.Flags.{no_fragments, is_set}
use Rattle.link_bundle_rules.specs.Hidden.{is_hidden}
use Rattle.link_bundle_rules.specs.BundleFacts.{BundleFacts, has_unknown_block, is_later}
use Rattle.link_bundle_rules.specs.declared.rule.BundleRule.{BundleRule}
use Rattle.link_bundle_rules.specs.declared.rule.BundleRule.TheVariants.{Fragment, WholeFragment}

-- The level of a rule that asks for a block or a check: `Should` in a later fragment, and else
-- `Must`. The node that fragments a bundle copies the blocks into the first fragment, and into the
-- others only if a flag asks for it (section 5.8).
abbrev pub level_in : BundleFacts → Level
level_in bundle = if is_later bundle.primary.fragment then Should else Must

-- The level of a rule that rests on data: `Should` if a block of an unknown type may have encrypted
-- the data, and else `Must`.
abbrev pub data_level : BundleFacts → Level
data_level bundle = if has_unknown_block bundle then Should else Must

-- whether the payload may be ciphertext, and so have another length than its plaintext; its block
-- has number 1 (section 4.1)
abbrev pub has_hidden_payload : BundleFacts → Bool
has_hidden_payload bundle = is_hidden bundle 1

-- whether a fragment must not be one, or its payload is empty
abbrev pub is_no_fragment : BundleFacts → Bool
is_no_fragment bundle =
    is_set no_fragments bundle.primary.flags || (bundle.payload_length == 0)

-- whether the payload of a fragment ends after the total length, unless it may be ciphertext
abbrev pub ends_after_total : BundleFacts → (part : ℕ × ℕ) → Bool
ends_after_total bundle (offset, total) =
    not (has_hidden_payload bundle) && nat_lt total (offset + bundle.payload_length)

-- The rule that a fragment breaks if it must not be one, or if its payload is empty (must) or ends
-- after the total length. The end rests on data. `part` is the offset of the fragment and the total
-- length.
abbrev pub if_no_part : BundleFacts → (part : ℕ × ℕ) → Option BundleRule
if_no_part bundle (offset, total) =
    if is_no_fragment bundle then Some (Fragment offset bundle.payload_length total Must)
    else if ends_after_total bundle (offset, total)
    then Some (Fragment offset bundle.payload_length total (data_level bundle))
    else None

-- fragment: the flags of a fragment permit fragments, and its payload is some bytes of the original
-- one (sections 3.1, 4.3.1 and 5.8)
unfoldable pub fragment : BundleFacts → Option BundleRule
fragment bundle = option_and_then (if_no_part bundle) bundle.primary.fragment

-- the rule that a fragment breaks if its payload is all of the original one; a payload that may be
-- ciphertext is not judged
abbrev pub if_all : BundleFacts → (part : ℕ × ℕ) → Option BundleRule
if_all bundle (offset, total) =
    if (offset == 0) && ((bundle.payload_length == total) && not (has_hidden_payload bundle))
    then Some (WholeFragment total)
    else None

-- whole-fragment: the payload of a fragment is not all of the original one (sections 5.8 and 5.9).
-- This is only a `should`: a node may have reassembled the payload in the first fragment.
unfoldable pub whole_fragment : BundleFacts → Option BundleRule
whole_fragment bundle = option_and_then (if_all bundle) bundle.primary.fragment
