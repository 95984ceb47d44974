-- Relations: the rules that a message after these heads keeps.
use Rattle.std.specs.Prelude.{◌≡◌, ℕ, false, List, Some, None}
use Rattle.link_wire.specs.Inner.{inner_segment}
use Rattle.link_wire.specs.declared.message.Message.{Message}
use Rattle.link_transfer.specs.declared.joiner.Turn.TheVariants.{Continue}
use Rattle.link_session_rules.specs.Answers.{ack_length, answer_order}
use Rattle.link_session_rules.specs.Assigned.{item_type, reason}
use Rattle.link_session_rules.specs.Flags.{item_flags, segment_flags}
use Rattle.link_session_rules.specs.Heads.{HeadWithOrder}
use Rattle.link_session_rules.specs.Lengths.{peer_segment, peer_transfer}
use Rattle.link_session_rules.specs.Session.{before_session, keepalive}
use Rattle.link_session_rules.specs.TransferIds.{interleaved, transfer_id, transfer_id_order}
use Rattle.link_tool_option_types.specs.declared.limits.PeerLimits.{PeerLimits}

-- after these heads, the message breaks no rule of XFER_ACKs, XFER_REFUSEs and KEEPALIVEs
pub record AreAnswerRulesKept (before : List HeadWithOrder) (message : Message) : Type 0 where
  pub in_session : before_session before message ≡ None
  pub acknowledged : ack_length before message ≡ None
  pub in_turn : answer_order before message ≡ None
  pub alive : keepalive before message ≡ None
  pub reason : reason message ≡ None

-- after the heads `before`, the segment breaks no rule of segments and of extension items
pub record AreSegmentRulesKept (limits : PeerLimits) (before : List HeadWithOrder)
    (head : HeadWithOrder) : Type 0 where
  pub flags : segment_flags head.message ≡ None
  pub alone : interleaved head ≡ None
  pub id : transfer_id before head.message ≡ None
  pub next_id : transfer_id_order before head.message ≡ None
  pub segment : peer_segment limits.segment head.message ≡ None
  pub transfer : peer_transfer limits.transfer before head ≡ None
  pub items : item_flags head.message ≡ None
  pub types : item_type head.message ≡ None

-- the head of a segment without flags, in the middle of the open transfer, with `size` bytes of
-- data
abbrev pub inner_head : (id size : ℕ) → HeadWithOrder
inner_head id size =
    record { message = inner_segment id size; fault = None; turn = Some (Continue false) }
