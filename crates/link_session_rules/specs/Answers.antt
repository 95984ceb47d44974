-- Rules of XFER_ACK and XFER_REFUSE, which answer the segments of the peer (RFC 9174 sections 5.2.3
-- and 5.2.4). The messages before are in a list, the newest first.
use Rattle.std.specs.Prelude.{ℕ, Bool, true, false, not, ◌&&◌, ◌||◌, ◌==◌, nat_lt, List, [], ◌∷◌, Option, Some, None, if◌then◌else◌}
use Rattle.std.specs.{List.list_any, Option.option_and_then}
use Rattle.link_wire.specs.Codes.{is_start, is_end}
use Rattle.link_wire.specs.declared.message.Message.{Message}
use Rattle.link_wire.specs.declared.message.Message.TheVariants as message
use Rattle.link_session_rules.specs.Heads.{HeadWithOrder, newest, is_sess_init}
use Rattle.link_session_rules.specs.declared.answers.Ack.{Ack}
use Rattle.link_session_rules.specs.declared.rule.{AnswerFault.AnswerFault, MessageRule.MessageRule}
use Rattle.link_session_rules.specs.declared.rule.AnswerFault.TheVariants.{NotTheLast, StartRepeats, AfterStop, AfterRefusal, RefusedAfterEnd}
use Rattle.link_session_rules.specs.declared.rule.MessageRule.TheVariants.{AckLength, AnswerOrder}

-- the latest XFER_ACK, if there is one; the list has the newest message first
abbrev pub last_ack : List Message → Option Ack
last_ack [] = None
last_ack (message.Ack flags id size ∷ older) =
    Some (record { id = id; length = size; ends = is_end flags })
last_ack (latest ∷ older) = last_ack older

-- the ID of the latest XFER_REFUSE, if there is one; the list has the newest message first
abbrev pub last_refused : List Message → Option ℕ
last_refused [] = None
last_refused (message.Refuse reason id ∷ older) = Some id
last_refused (latest ∷ older) = last_refused older

-- Whether an XFER_ACK of an ID came after the latest XFER_REFUSE. The list has the newest message
-- first, so the search ends at the first XFER_REFUSE in it.
abbrev pub is_acked_since : (id : ℕ) → List Message → Bool
is_acked_since id [] = false
is_acked_since id (message.Ack flags acked size ∷ older) = (acked == id) || is_acked_since id older
is_acked_since id (message.Refuse reason refused ∷ older) = false
is_acked_since id (latest ∷ older) = is_acked_since id older

-- ---- ack-length

-- the rule that an XFER_ACK of `size` bytes breaks, if the latest XFER_ACK has the same ID and more
-- bytes
abbrev pub if_less : (id size : ℕ) → Ack → Option MessageRule
if_less id size last =
    if (last.id == id) && nat_lt size last.length then Some (AckLength size last.length) else None

-- ack-length: within a transfer, the acknowledged length does not decrease (section 5.2.3). It may
-- decrease in an XFER_ACK of the first segment of a transfer, which has START, or of another
-- transfer.
unfoldable pub ack_length : List HeadWithOrder → Message → Option MessageRule
ack_length before (message.Ack flags id size) =
    if is_start flags then None else option_and_then (if_less id size) (last_ack (newest before))
ack_length before _ = None

-- ---- answer-order

-- whether the latest XFER_ACK has this ID
abbrev pub is_acked : Option Ack → (id : ℕ) → Bool
is_acked None id = false
is_acked (Some ack) id = ack.id == id

-- whether the latest XFER_ACK has this ID, and END
abbrev pub has_ended : Option Ack → (id : ℕ) → Bool
has_ended None id = false
has_ended (Some ack) id = (ack.id == id) && ack.ends

-- whether the latest XFER_REFUSE has this ID
abbrev pub is_refused : Option ℕ → (id : ℕ) → Bool
is_refused None id = false
is_refused (Some refused) id = refused == id

-- What is wrong with an XFER_ACK of `id` without START, or `None`. `acked_since` is whether an
-- XFER_ACK of `id` came after the latest XFER_REFUSE.
abbrev pub fault_of_later : (ack : Option Ack) → (refused : Option ℕ) → (acked_since : Bool)
    → (id : ℕ) → Option AnswerFault
fault_of_later ack refused acked_since id =
    if not (is_acked ack id || is_refused refused id) then Some NotTheLast
    else (if has_ended ack id then Some AfterStop
    else (if is_refused refused id && not acked_since then Some AfterRefusal else None))

-- What is wrong with an answer after these messages, which are in a list, the newest first. A
-- refusal with reason 04 (the bundle is not acceptable) may come after the end was acknowledged.
-- Messages that are no answers are in order.
abbrev pub answer_fault : List Message → Message → Option AnswerFault
answer_fault older (message.Ack flags id size) =
    if is_start flags
    then (if is_acked (last_ack older) id then Some StartRepeats else None)
    else fault_of_later (last_ack older) (last_refused older) (is_acked_since id older) id
answer_fault older (message.Refuse reason id) =
    if not (reason == 4) && has_ended (last_ack older) id then Some RefusedAfterEnd else None
answer_fault older _ = None

-- the ID of the transfer that a message answers, or 0 if it is no answer
abbrev pub answered_id : Message → ℕ
answered_id (message.Ack flags id size) = id
answered_id (message.Refuse reason id) = id
answered_id _ = 0

-- answer-order: transfers are acknowledged one after another, and each segment is acknowledged
-- once. A transfer is refused before its end is acknowledged, unless the reason is 04 (sections
-- 5.2.3 and 5.2.4). Answers before a SESS_INIT are not judged.
unfoldable pub answer_order : List HeadWithOrder → Message → Option MessageRule
answer_order before message =
    option_and_then
    (λ fault. if list_any is_sess_init (newest before)
    then Some (AnswerOrder (answered_id message) fault)
    else None)
    (answer_fault (newest before) message)
