use Rattle.std.proofs.Common.{◌≡◌, None, sym, ◌∙◌}
use Rattle.link_wire.specs.{MessageBuffer.segment_items, declared.message.SegmentHead.SegmentHead}
use Rattle.link_session_rules.proofs.Kept.{none_if, segment_kept, answer_kept, unrejected_by}
use Rattle.link_session_rules.proofs.history.MessageHistory.keeps_rules.Goals as goal

pub returns-in-Segment : goal.returns-in-Segment
returns-in-Segment c before at known =
    let head = c.args.head.now in
    let segment : SegmentHead = record {
      flags = c.in-Segment.flags;
      id = c.in-Segment.id;
      items = segment_items c.in-Segment.flags head.message.now.items;
      length = c.in-Segment.length;
    } in
    let none : head.fault ≡ None = none_if _ (sym c.is_some.ensures ∙ c.if-is_some.false) in
    let keeps = c.keeps_segment_rules.ensures before at known in
    rw (none, c.in-Segment.is)
    (segment_kept c.args.limits.now before head.turn segment (rw (none, c.in-Segment.is) at keeps)
    (unrejected_by c.args.limits.now before head.turn c.args.self.now.endings at.endings
    (sym c.is_rejected.ensures ∙ c.if-is_rejected.false)))

pub returns-in-Ack : goal.returns-in-Ack
returns-in-Ack c before at known =
    let head = c.args.head.now in
    let message = head.message.now in
    let none : head.fault ≡ None = none_if _ (sym c.is_some.ensures ∙ c.if-is_some.false) in
    rw none
    (answer_kept c.args.limits.now before head.turn message.node message.items message.fields
    c.in-Ack.is (c.keeps_answer_rules.ensures before at known)
    (unrejected_by c.args.limits.now before head.turn c.args.self.now.endings at.endings
    (sym c.is_rejected.ensures ∙ c.if-is_rejected.false)))
