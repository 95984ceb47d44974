-- Rules of a session as a whole (RFC 9174 sections 4 to 6).
use Rattle.std.specs.Prelude.{ℕ, Bool, false, not, ◌&&◌, ◌||◌, ◌==◌, nat_le, List, [], ◌∷◌, is_some, option_map, Option, Some, None, if◌then◌else◌}
use Rattle.std.specs.{List.{list_any, after_first}, Option.option_or}
use Rattle.link_wire.specs.Codes as codes
use Rattle.link_wire.specs.declared.message.Message.{Message}
use Rattle.link_wire.specs.declared.message.Message.TheVariants as message
use Rattle.link_transfer.specs.declared.fault.{OrderFault.OrderFault, OrderFault.TheVariants.SecondSessInit}
use Rattle.link_rules_shared.specs.declared.level.{Level.Level, Level.TheVariants.{Must, Should}}
use Rattle.link_session_rules.specs.Heads.{HeadWithOrder, messages_of, is_sess_init, is_keepalive, disables_keepalive, parameters_of, is_of_transfer}
use Rattle.link_session_rules.specs.declared.{rule.MessageRule.MessageRule, session.Parameters.Parameters}
use Rattle.link_session_rules.specs.declared.rule.MessageRule.TheVariants.{Order, BeforeSession, Keepalive, KeepaliveInterval}

-- ---- the order of messages

-- the parameters that the first SESS_INIT sets
abbrev pub first_parameters : List Message → Option Parameters
first_parameters [] = None
first_parameters (message ∷ more) = option_or (parameters_of message) (first_parameters more)

-- the node ID of the first SESS_INIT (section 4.6); no bytes without one
abbrev pub first_node : List Message → List ℕ
first_node [] = []
first_node (message.SessInit interval segment_mru transfer_mru node items ∷ more) = node.items
first_node (other ∷ more) = first_node more

-- whether two SESS_INITs set the same parameters
abbrev pub are_same : Parameters → Parameters → Bool
are_same first second =
    (first.interval == second.interval)
    && ((first.segment_mru == second.segment_mru) && (first.transfer_mru == second.transfer_mru))

-- whether there are both, and they differ
abbrev pub are_other : Option Parameters → Option Parameters → Bool
are_other (Some first) (Some second) = not (are_same first second)
are_other _ _ = false

-- the messages after the first SESS_INIT
abbrev pub after_sess_init : List Message → List Message
after_sess_init messages = after_first is_sess_init messages

-- Whether a SESS_INIT changes the parameters of a session in which a transfer or an answer came. To
-- effect such a change, the session must be terminated (section 4.7).
abbrev pub changes_session : List Message → Message → Bool
changes_session earlier message =
    are_other (first_parameters earlier) (parameters_of message)
    && list_any is_of_transfer (after_sess_init earlier)

-- How strictly a fault is forbidden. A second SESS_INIT breaks a MUST only if it changes the
-- parameters after a transfer or an answer came.
abbrev pub order_level : List Message → Message → OrderFault → Level
order_level earlier message SecondSessInit =
    if changes_session earlier message then Must else Should
order_level earlier message _ = Must

-- order: a message is in order (sections 4, 4.7, 5.1.2, 5.2, 5.2.1, 5.2.2 and 6.1)
unfoldable pub order : List HeadWithOrder → HeadWithOrder → Option MessageRule
order before head =
    option_map (λ fault. Order fault (order_level (messages_of before) head.message fault)) head.fault

-- ---- messages after SESS_INIT

-- The type byte of an XFER_ACK, XFER_REFUSE or KEEPALIVE (section 4.5). A sender sends these only
-- after its SESS_INIT. `None` for any other message.
abbrev pub type_after_sess_init : Message → Option ℕ
type_after_sess_init (message.Ack flags id size) = Some codes.xfer_ack
type_after_sess_init (message.Refuse reason id) = Some codes.xfer_refuse
type_after_sess_init message.Keepalive = Some codes.keepalive
type_after_sess_init _ = None

-- before-session: an XFER_ACK, XFER_REFUSE or KEEPALIVE comes after a SESS_INIT (sections 4 and
-- 5.1.2)
unfoldable pub before_session : List HeadWithOrder → Message → Option MessageRule
before_session before message =
    if is_some (first_parameters (messages_of before))
    then None
    else option_map BeforeSession (type_after_sess_init message)

-- ---- KEEPALIVEs

-- the rule that an interval breaks, if it is neither 0 nor from 30 seconds to ten minutes
abbrev pub if_unusual : (interval : ℕ) → Option MessageRule
if_unusual interval =
    if (interval == 0) || (nat_le 30 interval && nat_le interval 600)
    then None
    else Some (KeepaliveInterval interval)

-- keepalive-interval: the interval of a SESS_INIT is 0, or not shorter than 30 seconds and not
-- longer than ten minutes (section 5.1.1)
unfoldable pub keepalive_interval : Message → Option MessageRule
keepalive_interval (message.SessInit interval segment_mru transfer_mru node items) =
    if_unusual interval
keepalive_interval _ = None

-- the messages after the first SESS_INIT whose interval is 0
abbrev pub after_disabling : List Message → List Message
after_disabling messages = after_first disables_keepalive messages

-- keepalive: no KEEPALIVE comes after a SESS_INIT whose interval is 0 (sections 4.7 and 5.1.1).
-- Only the first such KEEPALIVE breaks the rule. Another SESS_INIT changes nothing.
unfoldable pub keepalive : List HeadWithOrder → Message → Option MessageRule
keepalive before message =
    let earlier = messages_of before in
    if is_keepalive message
    && (list_any disables_keepalive earlier
    && not (list_any is_keepalive (after_disabling earlier)))
    then Some Keepalive
    else None
