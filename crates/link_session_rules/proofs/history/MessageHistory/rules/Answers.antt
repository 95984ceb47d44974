use Rattle.std.proofs.Common.{sym}
use Rattle.link_session_rules.specs.MessageRules.{broken_rules}
use Rattle.link_session_rules.proofs.history.MessageHistory.rules.Goals as goal

pub returns : goal.returns
unfolding broken_rules
returns c before now =
    rw (
      sym c.node_id.ensures,
      sym c.item_flags.ensures,
      sym (c.order.ensures before now.parameters now.session),
      sym (c.before_session.ensures before now.parameters),
      sym c.interleaved.ensures,
      sym c.segment_flags.ensures,
      sym (c.transfer_id.ensures before now.ids),
      sym c.peer_segment.ensures,
      sym (c.peer_transfer.ensures before now.transfer),
      sym (c.ack_length.ensures before now.answers),
      sym (c.keepalive.ensures before now.keepalives),
      sym c.term_flags.ensures,
      sym c.node_name.ensures,
      sym c.keepalive_interval.ensures,
      sym c.item_type.ensures,
      sym (c.transfer_id_order.ensures before (c.is_initiated-initiated.ensures before now) now.ids),
      sym (c.answer_order.ensures before (c.is_initiated-initiated.ensures before now) now.answers),
      sym (c.after_reject.ensures before now.endings),
      sym c.reject_known.ensures,
      sym c.reason.ensures,
      sym (c.term_order.ensures before (c.is_initiated-initiated.ensures before now) now.endings),
    )
    c.broken_of.ensures
