-- A message that keeps the rules for its kind keeps all rules.
use Rattle.std.proofs.Common.{◌≡◌, ℕ, Bool, true, false, List, [], ◌∷◌, filter_map, Option, Some, None, is_some, if◌then◌else◌, inl, inr, ◌⊎◌, refl, sym, ◌∙◌}
use Rattle.std.specs.List.{list_any}
use Rattle.arrayvec.specs.ArrayVec.{ArrayVec}
use Rattle.link_wire.specs.{MessageBuffer.message_with, declared.message.Fields.Fields}
use Rattle.link_wire.specs.declared.message.Fields.TheVariants as fields
use Rattle.link_wire.specs.declared.message.{Item.Item, SegmentHead.SegmentHead, Message.Message}
use Rattle.link_wire.specs.declared.message.Message.TheVariants.{Segment, Ack, Refuse, Keepalive}
use Rattle.link_transfer.specs.declared.joiner.Turn.{Turn}
use Rattle.link_session_rules.specs.Answers.{ack_length, answer_order}
use Rattle.link_session_rules.specs.Endings.{rejects_type, after_reject, term_order}
use Rattle.link_session_rules.specs.Assigned.{item_type, reject_known, reason}
use Rattle.link_session_rules.specs.Flags.{item_flags, segment_flags, term_flags}
use Rattle.link_session_rules.specs.Heads.{HeadWithOrder, newest, segment_of}
use Rattle.link_session_rules.specs.Kept.{AreAnswerRulesKept, AreSegmentRulesKept}
use Rattle.link_session_rules.specs.Lengths.{peer_segment, peer_transfer}
use Rattle.link_session_rules.specs.{MessageRules.broken_rules, NodeIds.{node_id, node_name}}
use Rattle.link_session_rules.specs.Session.{order, before_session, keepalive, keepalive_interval}
use Rattle.link_session_rules.specs.TransferIds.{interleaved, transfer_id, transfer_id_order}
use Rattle.link_session_rules.specs.{Remembered.AreEndingsAt, declared.endings.Endings.Endings}
use Rattle.link_tool_option_types.specs.declared.limits.PeerLimits.{PeerLimits}
use Rattle.link_session_rules.specs.declared.rule.MessageRule.{MessageRule}

none_either : {A : Type 0} (test : Bool) → ◌≡◌ {A = Option A} (if test then None else None) None
none_either true = refl
none_either false = refl

pub none_if : {A : Type 0} (value : Option A) → is_some value ≡ false → value ≡ None
none_if None is = refl
none_if (Some value) is = cc

module _ (limits : PeerLimits) (before : List HeadWithOrder) (turn : Option Turn) where
  abbrev head_of : Message → HeadWithOrder
  head_of message = record { message = message; fault = None; turn = turn }

  abbrev pub IsKept : Message → Type 0
  IsKept message = broken_rules limits before (head_of message) ≡ []

  -- limits are about segments
  peer_segment-none : (message : Message) → segment_of message ≡ None → (limit : Option ℕ)
      → peer_segment limit message ≡ None
  unfolding peer_segment
  peer_segment-none message is None = refl
  peer_segment-none message is (Some limit) = rw is refl

  unlimited_transfer : (message : Message) → segment_of message ≡ None → (limit : Option ℕ)
      → peer_transfer limit before (head_of message) ≡ None
  unfolding peer_transfer
  unlimited_transfer message is None = refl
  unlimited_transfer message is (Some limit) = rw is refl

  -- no type was rejected
  pub unrejected_by : (endings : Endings) → AreEndingsAt endings (newest before)
      → endings.rejected ≡ false → (message : Message) → after_reject before message ≡ None
  unfolding after_reject
  unrejected_by endings at none message =
      let none_came : list_any rejects_type (newest before) ≡ false = sym at.rejected ∙ none in
      rw none_came refl

  -- the rules for a message that is no segment, and those that it may break
  abbrev answer_rules : Message → List (Option MessageRule)
  answer_rules message =
      before_session before message ∷ peer_segment limits.segment message
      ∷ peer_transfer limits.transfer before (head_of message) ∷ ack_length before message
      ∷ keepalive before message ∷ answer_order before message
      ∷ after_reject before message ∷ reason message ∷ []

  all_none : (message : Message) → segment_of message ≡ None → AreAnswerRulesKept before message
      → after_reject before message ≡ None → filter_map (λ judged. judged) (answer_rules message) ≡ []
  all_none message none keeps unrejected =
      rw (
        keeps.in_session,
        peer_segment-none message none limits.segment,
        unlimited_transfer message none limits.transfer,
        keeps.acknowledged,
        keeps.alive,
        keeps.in_turn,
        unrejected,
        keeps.reason,
      ) refl

  pub segment_kept : (segment : SegmentHead)
      → AreSegmentRulesKept limits before (head_of (Segment segment))
      → ((message : Message) → after_reject before message ≡ None) → IsKept (Segment segment)
  unfolding broken_rules node_id order before_session ack_length keepalive term_flags node_name keepalive_interval answer_order reject_known reason term_order
  segment_kept segment keeps unrejected =
      rw (
        keeps.items,
        keeps.alone,
        keeps.flags,
        keeps.id,
        keeps.segment,
        keeps.transfer,
        keeps.types,
        keeps.next_id,
        unrejected (Segment segment),
        none_either {A = MessageRule} _,
      ) refl

  module _ (node : ArrayVec ℕ) (items : ArrayVec Item) where
    -- an XFER_ACK, an XFER_REFUSE or a KEEPALIVE
    pub answer_kept : (numbers : Fields)
        → ((flags : ℕ) × (id : ℕ) × (size : ℕ) × numbers ≡ fields.Ack flags id size)
        ⊎ (((reason : ℕ) × (id : ℕ) × numbers ≡ fields.Refuse reason id)
        ⊎ (numbers ≡ fields.Keepalive))
        → AreAnswerRulesKept before (message_with numbers node items)
        → ((message : Message) → after_reject before message ≡ None)
        → IsKept (message_with numbers node items)
    unfolding broken_rules node_id item_flags order interleaved segment_flags transfer_id term_flags node_name keepalive_interval item_type transfer_id_order reject_known term_order
    answer_kept numbers (inl (flags, id, size, is)) keeps unrejected =
        rw is (all_none (Ack flags id size) refl (rw is at keeps) (unrejected _))
    answer_kept numbers (inr (inl (reason, id, is))) keeps unrejected =
        rw is (all_none (Refuse reason id) refl (rw is at keeps) (unrejected _))
    answer_kept numbers (inr (inr is)) keeps unrejected =
        rw is (all_none Keepalive refl (rw is at keeps) (unrejected _))
