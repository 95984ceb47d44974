-- An inner segment: without limits of the peer it breaks no rule, and adds its length.
use Rattle.std.proofs.Common.{◌≡◌, ℕ, false, true, List, [], ◌∷◌, ◌++◌, Some, None, refl, sym, ◌∙◌}
use Rattle.std.specs.List.{list_any}
use Rattle.link_wire.specs.declared.message.SegmentHead.{SegmentHead}
use Rattle.link_transfer.specs.declared.joiner.Turn.TheVariants.{Continue}
use Rattle.link_session_rules.specs.Assigned.{item_type}
use Rattle.link_session_rules.specs.Flags.{item_flags, segment_flags}
use Rattle.link_session_rules.specs.{Heads.{HeadWithOrder, newest}, Endings.rejects_type, Kept.inner_head}
use Rattle.link_session_rules.specs.Lengths.{peer_segment, peer_transfer, segments_of}
use Rattle.link_session_rules.specs.MessageRules.{broken_rules}
use Rattle.link_session_rules.specs.Remembered.{IsMessageHistoryAt, AreEndingsAt, next_since, so_far_of}
use Rattle.link_session_rules.specs.TransferIds.{interleaved, transfer_id, transfer_id_order}
use Rattle.link_session_rules.specs.declared.{history.MessageHistory.MessageHistory, endings.Endings.Endings}
use Rattle.link_session_rules.specs.declared.lengths.TransferSoFar.{TransferSoFar}
use Rattle.link_session_rules.specs.declared.session.Since.{Since}
use Rattle.link_tool_option_types.specs.declared.limits.PeerLimits.{PeerLimits}
use Rattle.link_session_rules.proofs.{Joined.segments_of-push, Kept.{segment_kept, unrejected_by}}
use Rattle.link_session_rules.proofs.Pushes.{messages_of-push, newest_then, or_none, first_parameters_push, first_node_push, node_without}
use Rattle.link_session_rules.proofs.Since.{next_same, session_then, keepalives_then}

abbrev pub inner : (id size : ℕ) → SegmentHead
inner id size = record { flags = 0; id = id; items = record { items = [] }; length = size }

module _ (id size : ℕ) (before : List HeadWithOrder) where
  pub inner_kept : (limits : PeerLimits) (endings : Endings) → limits.segment ≡ None
      → limits.transfer ≡ None → AreEndingsAt endings (newest before)
      → endings.rejected ≡ false → broken_rules limits before (inner_head id size) ≡ []
  unfolding segment_flags interleaved transfer_id peer_segment peer_transfer item_flags item_type transfer_id_order
  inner_kept limits endings no_segment no_transfer at none =
      segment_kept limits before (Some (Continue false)) (inner id size) (record {
        flags = refl;
        alone = refl;
        id = refl;
        next_id = refl;
        segment = rw no_segment refl;
        transfer = rw no_transfer refl;
        items = refl;
        types = refl;
      })
      (unrejected_by limits before (Some (Continue false)) endings at none)

  -- the segments so far are those of a transfer that has begun
  so_far_of-inner : (transfer : TransferSoFar) (segments : List SegmentHead)
      → Some transfer ≡ so_far_of segments
      → (now : TransferSoFar)
      → ((previous : SegmentHead) (earlier : List SegmentHead)
      → Some transfer ≡ so_far_of (previous ∷ earlier)
      → Some now ≡ so_far_of (inner id size ∷ previous ∷ earlier))
      → Some now ≡ so_far_of (inner id size ∷ segments)
  so_far_of-inner transfer [] is now adds = cc
  so_far_of-inner transfer (previous ∷ earlier) is now adds = adds previous earlier is

  pub inner_taken : (old new : MessageHistory) (transfer now : TransferSoFar) (session : Since)
      → IsMessageHistoryAt old before → old.transfer ≡ Some transfer → old.endings.rejected ≡ false
      → ((previous : SegmentHead) (earlier : List SegmentHead)
      → Some transfer ≡ so_far_of (previous ∷ earlier)
      → Some now ≡ so_far_of (inner id size ∷ previous ∷ earlier))
      → session ≡ next_since old.session false true
      → new ≡ record old { transfer = Some now; session = session }
      → IsMessageHistoryAt new (before ++ inner_head id size ∷ [])
  inner_taken old new transfer now session at was none adds since is =
      let head = inner_head id size in
      let none_came : list_any rejects_type (newest before) ≡ false = sym at.endings.rejected ∙ none in
      rw is (record {
        parameters = rw (messages_of-push before head, first_parameters_push _ head.message)
            (at.parameters ∙ sym (or_none _));
        node = rw (messages_of-push before head, first_node_push _ head.message)
            (at.node ∙ sym (node_without _ _ (inner id size)));
        session = since ∙ session_then before head old.session at.session;
        keepalives = sym (next_same old.keepalives) ∙ keepalives_then before head _ at.keepalives;
        ids = rw (newest_then before head)
            (record { runs = at.ids.runs; none = at.ids.none; jumped = at.ids.jumped });
        answers = rw (newest_then before head) (record {
          ack = at.answers.ack;
          refused = at.answers.refused;
          acked_since = at.answers.acked_since;
        });
        transfer = rw (segments_of-push before head)
            (so_far_of-inner transfer (segments_of before) (sym was ∙ at.transfer) now adds);
        endings = rw (newest_then before head) (record {
          terminated = at.endings.terminated;
          rejected = at.endings.rejected;
          followed = rw none_came at.endings.followed;
          begun = rw none_came at.endings.begun;
        });
      })
