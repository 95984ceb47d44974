-- Rules of types and reasons that are neither assigned nor for private use (RFC 9174 section 8).
use Rattle.std.specs.Prelude.{ℕ, Bool, not, ◌&&◌, ◌||◌, ◌==◌, nat_lt, nat_le, find, option_map, Option, Some, None, if◌then◌else◌}
use Rattle.std.specs.List.{enumerate_from}
use Rattle.link_wire.specs.Codes.{transfer_length}
use Rattle.link_wire.specs.declared.message.{Item.Item, Message.Message}
use Rattle.link_wire.specs.declared.message.Message.TheVariants.{Segment, Refuse, SessTerm, MsgReject}
use Rattle.link_session_rules.specs.Flags.{is_reply}
use Rattle.link_session_rules.specs.Heads.{items_of, type_of}
use Rattle.link_session_rules.specs.declared.rule.MessageRule.{MessageRule}
use Rattle.link_session_rules.specs.declared.rule.MessageRule.TheVariants.{ItemType, RejectKnown, Reason}

-- ---- item-type

-- Whether the type of an item of this message is neither assigned nor for private use. Types from
-- 8000 (hexadecimal) on are for private use. The only assigned type is the one of Transfer Length
-- items, in segments (sections 8.3 and 8.4).
abbrev pub is_unassigned : Message → (type : ℕ) → Bool
is_unassigned (Segment segment) type = nat_lt type 0x8000 && not (type == transfer_length)
is_unassigned message type = nat_lt type 0x8000

-- item-type: an extension item has a type that is assigned, or for private use (sections 8.3 and
-- 8.4). The first item of another type is reported, by its number from 0.
unfoldable pub item_type : Message → Option MessageRule
item_type message =
    option_map (λ (numbered : ℕ × Item). ItemType numbered.0 numbered.1.kind)
    (find (λ (numbered : ℕ × Item). is_unassigned message numbered.1.kind)
    (enumerate_from 0 (items_of message)))

-- ---- reject-known

-- Whether a MSG_REJECT's reason (1 unknown, 2 unsupported, 3 unexpected) does not fit the type that
-- it rejects. Types 01 to 07 are known, and type 00 is reserved (section 8.5). Any other type may
-- be known, although it was not negotiated, or unknown.
abbrev pub does_not_fit : (reason header : ℕ) → Bool
does_not_fit reason header =
    if header == 0
    then (reason == 2) || (reason == 3)
    else nat_le header 7 && (reason == 1)

-- reject-known: a MSG_REJECT with reason 01 rejects no type from 01 to 07, and a MSG_REJECT with
-- reason 02 or 03 does not reject type 00 (section 5.1.2)
unfoldable pub reject_known : Message → Option MessageRule
reject_known (MsgReject reason header) =
    if does_not_fit reason header then Some (RejectKnown reason header) else None
reject_known message = None

-- ---- reason

-- Whether a reason of this message is neither assigned (sections 8.6 to 8.8) nor for private use.
-- The assigned reasons are 1 to 3 in a MSG_REJECT, 0 to 6 in an XFER_REFUSE, and 0 to 5 in a
-- SESS_TERM, which is the last case. Reasons from f0 (hexadecimal) on are for private use.
abbrev pub is_other_reason : Message → (reason : ℕ) → Bool
is_other_reason (MsgReject own header) reason =
    (reason == 0) || (nat_le 4 reason && nat_lt reason 0xf0)
is_other_reason (Refuse own id) reason = nat_le 7 reason && nat_lt reason 0xf0
is_other_reason message reason = nat_le 6 reason && nat_lt reason 0xf0

-- the rule that a message breaks by this reason, if it is neither assigned nor for private use
abbrev pub if_other_reason : Message → (reason : ℕ) → Option MessageRule
if_other_reason message reason =
    if is_other_reason message reason then Some (Reason (type_of message) reason) else None

-- reason: a reason is assigned, or for private use (sections 8.6 to 8.8). In a SESS_TERM that is a
-- reply, it is not judged: it repeats the reason of the peer.
unfoldable pub reason : Message → Option MessageRule
reason (MsgReject why header) = if_other_reason (MsgReject why header) why
reason (Refuse why id) = if_other_reason (Refuse why id) why
reason (SessTerm flags why) =
    if is_reply flags then None else if_other_reason (SessTerm flags why) why
reason message = None
