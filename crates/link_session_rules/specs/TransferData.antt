-- The rule that the data of a closed transfer breaks: it is one bundle (RFC 9171 section 4, RFC
-- 9174 section 5.2).
use Rattle.std.specs.Prelude.{ℕ, Bool, true, false, ◌||◌, ◌==◌, List, Option, Some, None, Result, Ok, Err, if◌then◌else◌}
use Rattle.link_bundle_types.specs.declared.fault.BundleFault.{BundleFault}
use Rattle.link_bundle_types.specs.declared.fault.BundleFault.TheVariants.{NotABundle, WrongKind, WrongDataKind, WrongCheckKind, BadScheme, BadSpecificPart, EidTooLong, TooManyBlocks}
use Rattle.link_bundle_types.specs.declared.info.BundleInfo.{BundleInfo}
use Rattle.link_rules_shared.specs.Heads.{unread_of}
use Rattle.link_rules_shared.specs.declared.unread.Unread.{Unread}
use Rattle.link_session_rules.specs.declared.rule.TransferRule.{TransferRule}
use Rattle.link_session_rules.specs.declared.rule.TransferRule.TheVariants.{Bundle, NotRead}

-- whether there is an offset, and it is `at`
abbrev pub is_offset : Option ℕ → (at : ℕ) → Bool
is_offset None at = false
is_offset (Some offset) at = offset == at

-- Whether data with a fault at offset `byte` may be a bundle that this toolkit does not read. Three
-- faults are limits of this toolkit: another endpoint scheme, a long dtn name and many blocks. Some
-- kinds of heads are read nowhere, and `unread` says where the first head of each kind is. RFC 9171
-- permits items of indefinite length (section 4.1), except the byte strings of data and of check
-- values (sections 4.3.2 and 4.2.2). Its appendix B permits tag 55799 before a bundle, and tag 24
-- before the data of a block.
abbrev pub may_be_bundle : Unread → BundleFault → (byte : ℕ) → Bool
may_be_bundle unread BadScheme byte = true
may_be_bundle unread EidTooLong byte = true
may_be_bundle unread TooManyBlocks byte = true
may_be_bundle unread NotABundle byte = unread.tagged
may_be_bundle unread WrongKind byte =
    is_offset unread.string byte || is_offset unread.item byte
may_be_bundle unread BadSpecificPart byte =
    is_offset unread.string byte || is_offset unread.item byte
may_be_bundle unread WrongDataKind byte =
    is_offset unread.item byte || is_offset unread.encoded byte
may_be_bundle unread WrongCheckKind byte = is_offset unread.item byte
may_be_bundle unread _ byte = false

-- bundle: the data of a transfer is a bundle. Data that may be a bundle that this toolkit does not
-- read breaks the rule not-read in place of this one.
unfoldable pub data_rule : (bytes : List ℕ) → Result BundleInfo (BundleFault × ℕ)
    → Option TransferRule
data_rule bytes (Ok info) = None
data_rule bytes (Err (fault, byte)) =
    Some (if may_be_bundle (unread_of bytes) fault byte then NotRead fault byte else Bundle fault byte)
