-- Rules of flags (RFC 9174). Only flags that are defined may be set.
use Rattle.std.specs.Prelude.{ℕ, Bool, not, ◌&&◌, ◌==◌, find, option_map, Option, Some, None, if◌then◌else◌, bit_and}
use Rattle.std.specs.List.{enumerate_from}
use Rattle.link_wire.specs.declared.message.{Contact.Contact, Item.Item, Message.Message}
use Rattle.link_wire.specs.declared.message.Message.TheVariants.{Segment, SessTerm}
use Rattle.link_rules_shared.specs.Flags.{has_other_flags}
use Rattle.link_session_rules.specs.Heads.{items_of}
use Rattle.link_session_rules.specs.declared.rule.MessageRule.{MessageRule}
use Rattle.link_session_rules.specs.declared.rule.MessageRule.TheVariants.{ContactFlags, ItemFlags, SegmentFlags, TermFlags}

-- CAN_TLS, the only flag that is defined for a contact header (section 4.2)
abbrev pub can_tls : ℕ
can_tls = 1

-- CRITICAL, the only flag that is defined for an extension item (sections 4.8 and 5.2.5)
abbrev pub critical : ℕ
critical = 1

-- START and END, the flags that are defined for an XFER_SEGMENT (section 5.2.2)
abbrev pub start_and_end : ℕ
start_and_end = 3

-- REPLY, the only flag that is defined for a SESS_TERM (section 6.1)
abbrev pub reply : ℕ
reply = 1

-- whether a SESS_TERM with these flags is a reply, which repeats the peer's flags and reason
abbrev pub is_reply : (flags : ℕ) → Bool
is_reply flags = bit_and flags reply == reply

-- contact-flags: a contact header has no flag but CAN_TLS (section 4.2)
unfoldable pub contact_flags : Contact → Option MessageRule
contact_flags contact =
    if has_other_flags can_tls contact.flags then Some (ContactFlags contact.flags) else None

-- item-flags: an extension item has no flag but CRITICAL (sections 4.8 and 5.2.5). The first item
-- with another flag is reported, by its number from 0.
unfoldable pub item_flags : Message → Option MessageRule
item_flags message =
    option_map (λ (numbered : ℕ × Item). ItemFlags numbered.0 numbered.1.flags)
    (find (λ (numbered : ℕ × Item). has_other_flags critical numbered.1.flags)
    (enumerate_from 0 (items_of message)))

-- segment-flags: an XFER_SEGMENT has no flag but START and END (section 5.2.2)
unfoldable pub segment_flags : Message → Option MessageRule
segment_flags (Segment segment) =
    if has_other_flags start_and_end segment.flags then Some (SegmentFlags segment.flags) else None
segment_flags message = None

-- term-flags: a SESS_TERM has no flag but REPLY (section 6.1). A reply is not judged, since it
-- repeats the flags of the SESS_TERM that it answers.
unfoldable pub term_flags : Message → Option MessageRule
term_flags (SessTerm flags reason) =
    if not (is_reply flags) && has_other_flags reply flags
    then Some (TermFlags flags)
    else None
term_flags message = None
