-- Rules of what comes after the end of a session (RFC 9174 sections 5.1.2 and 6.1). The messages
-- before are in a list, the newest first.
use Rattle.std.specs.Prelude.{ℕ, Bool, true, false, not, ◌&&◌, ◌||◌, ◌==◌, List, Option, Some, None, if◌then◌else◌}
use Rattle.std.specs.List.{list_any}
use Rattle.link_wire.specs.declared.message.Message.{Message}
use Rattle.link_wire.specs.declared.message.Message.TheVariants as message
use Rattle.link_rules_shared.specs.declared.level.{Level.Level, Level.TheVariants.{Must, Should}}
use Rattle.link_session_rules.specs.Heads.{HeadWithOrder, newest, held, type_of, is_sess_init, is_sess_term, begins_transfer}
use Rattle.link_session_rules.specs.declared.rule.MessageRule.{MessageRule}
use Rattle.link_session_rules.specs.declared.rule.MessageRule.TheVariants.{AfterReject, TermOrder}

-- ---- after-reject

-- whether it is a MSG_REJECT that says that a type is unknown, which ends the connection
abbrev pub rejects_type : Message → Bool
rejects_type (message.MsgReject reason header) = reason == 1
rejects_type _ = false

-- whether a message begins or ends a session, or begins a transfer
abbrev pub begins_anew : Message → Bool
begins_anew message = is_sess_init message || (is_sess_term message || begins_transfer message)

-- whether a message, of any kind, comes after a MSG_REJECT that says that a type is unknown
abbrev pub follows : (older : List Message) → Message → Bool
follows older message = list_any rejects_type older

-- whether a message comes after a MSG_REJECT that says that a type is unknown, and begins or ends a
-- session, or begins a transfer
abbrev pub begins_after : (older : List Message) → Message → Bool
begins_after older message = list_any rejects_type older && begins_anew message

-- after-reject: no message comes after a MSG_REJECT that says that a type is unknown (sections
-- 5.1.2 and 8.5). The first message after it that begins or ends a session, or begins a transfer,
-- breaks the rule as a `must`. The first message after it, if it is no such message, breaks the
-- rule as a `should`. All others keep it.
unfoldable pub after_reject : List HeadWithOrder → Message → Option MessageRule
after_reject before message =
    let older = newest before in
    if begins_after older message && not (held begins_after older)
    then Some (AfterReject (type_of message) Must)
    else (if follows older message && not (held follows older)
    then Some (AfterReject (type_of message) Should)
    else None)

-- ---- term-order

-- whether a SESS_TERM came, and this is another one or the first SESS_INIT
abbrev pub is_late : (older : List Message) → Message → Bool
is_late older message =
    (is_sess_term message || (is_sess_init message && not (list_any is_sess_init older)))
    && list_any is_sess_term older

-- term-order: a session has one SESS_TERM, and its first SESS_INIT does not come after it (section
-- 6.1). `newest before` is all messages before, the newest first.
unfoldable pub term_order : List HeadWithOrder → Message → Option MessageRule
term_order before message =
    if is_late (newest before) message then Some (TermOrder (type_of message)) else None
