-- The rules that a message breaks (RFC 9174), and how strictly each rule is meant.
use Rattle.std.specs.Prelude.{ℕ, List, [], ◌∷◌, codes, filter_map, Option}
use Rattle.link_session_rules.specs.Answers.{ack_length, answer_order}
use Rattle.link_session_rules.specs.Assigned.{item_type, reject_known, reason}
use Rattle.link_session_rules.specs.Endings.{after_reject, term_order}
use Rattle.link_session_rules.specs.Flags.{item_flags, segment_flags, term_flags}
use Rattle.link_session_rules.specs.Heads.{HeadWithOrder}
use Rattle.link_session_rules.specs.Lengths.{peer_segment, peer_transfer}
use Rattle.link_session_rules.specs.NodeIds.{node_id, node_name}
use Rattle.link_session_rules.specs.Session.{order, before_session, keepalive, keepalive_interval}
use Rattle.link_session_rules.specs.TransferIds.{interleaved, transfer_id, transfer_id_order}
use Rattle.link_tool_option_types.specs.declared.limits.PeerLimits.{PeerLimits}
use Rattle.link_rules_shared.specs.declared.level.{Level.Level, Level.TheVariants.{Must, Should}}
use Rattle.link_session_rules.specs.declared.rule.MessageRule.{MessageRule}
use Rattle.link_session_rules.specs.declared.rule.MessageRule.TheVariants as rule

-- for each rule of messages, in order, how a message after these heads breaks it; `None` if it
-- keeps the rule
abbrev pub judged_rules : PeerLimits → (before : List HeadWithOrder) → HeadWithOrder
    → List (Option MessageRule)
judged_rules limits before head =
    node_id head.message ∷ item_flags head.message ∷ order before head ∷ before_session before head.message
    ∷ interleaved head ∷ segment_flags head.message ∷ transfer_id before head.message
    ∷ peer_segment limits.segment head.message ∷ peer_transfer limits.transfer before head
    ∷ ack_length before head.message ∷ keepalive before head.message ∷ term_flags head.message
    ∷ node_name head.message ∷ keepalive_interval head.message ∷ item_type head.message
    ∷ transfer_id_order before head.message ∷ answer_order before head.message
    ∷ after_reject before head.message ∷ reject_known head.message ∷ reason head.message
    ∷ term_order before head.message ∷ []

-- the rules that a message after these heads breaks, in order
unfoldable pub broken_rules : PeerLimits → (before : List HeadWithOrder) → HeadWithOrder
    → List MessageRule
broken_rules limits before head = filter_map (λ judged. judged) (judged_rules limits before head)

-- the name of a rule of messages, as in its line; two rules have the name `peer-transfer`
unfoldable pub name_of : MessageRule → List ℕ
name_of (rule.ContactFlags flags) = codes "contact-flags"
name_of (rule.NodeId size) = codes "node-id"
name_of (rule.ItemFlags item flags) = codes "item-flags"
name_of (rule.Order fault level) = codes "order"
name_of (rule.BeforeSession type) = codes "before-session"
name_of (rule.Interleaved id open_id) = codes "interleaved"
name_of (rule.SegmentFlags flags) = codes "segment-flags"
name_of (rule.TransferId id) = codes "transfer-id"
name_of (rule.PeerSegment size limit) = codes "peer-segment"
name_of (rule.PeerTransferAnnounced announced limit) = codes "peer-transfer"
name_of (rule.PeerTransferLength size limit) = codes "peer-transfer"
name_of (rule.AckLength size before) = codes "ack-length"
name_of rule.Keepalive = codes "keepalive"
name_of (rule.TermFlags flags) = codes "term-flags"
name_of (rule.NodeName size level) = codes "node-name"
name_of (rule.KeepaliveInterval interval) = codes "keepalive-interval"
name_of (rule.ItemType item type) = codes "item-type"
name_of (rule.TransferIdOrder id) = codes "transfer-id-order"
name_of (rule.AnswerOrder id fault) = codes "answer-order"
name_of (rule.AfterReject type level) = codes "after-reject"
name_of (rule.RejectKnown reason header) = codes "reject-known"
name_of (rule.Reason type reason) = codes "reason"
name_of (rule.TermOrder type) = codes "term-order"

-- how strictly a rule of messages is meant
unfoldable pub level_of : MessageRule → Level
level_of (rule.ContactFlags flags) = Must
level_of (rule.NodeId size) = Must
level_of (rule.ItemFlags item flags) = Must
level_of (rule.Order fault level) = level
level_of (rule.BeforeSession type) = Should
level_of (rule.Interleaved id open_id) = Should
level_of (rule.SegmentFlags flags) = Must
level_of (rule.TransferId id) = Must
level_of (rule.PeerSegment size limit) = Must
level_of (rule.PeerTransferAnnounced announced limit) = Must
level_of (rule.PeerTransferLength size limit) = Must
level_of (rule.AckLength size before) = Should
level_of rule.Keepalive = Should
level_of (rule.TermFlags flags) = Must
level_of (rule.NodeName size level) = level
level_of (rule.KeepaliveInterval interval) = Should
level_of (rule.ItemType item type) = Should
level_of (rule.TransferIdOrder id) = Should
level_of (rule.AnswerOrder id fault) = Should
level_of (rule.AfterReject type level) = level
level_of (rule.RejectKnown reason header) = Should
level_of (rule.Reason type reason) = Should
level_of (rule.TermOrder type) = Should
