use Rattle.std.proofs.Common.{◌≡◌, Some, None, option_map, refl, sym, ap, ◌∙◌}
use Rattle.link_wire.specs.{MessageBuffer.segment_items, declared.message.SegmentHead.SegmentHead}
use Rattle.link_session_rules.specs.{Heads.viewed_head, Lengths.{segments_of, earlier_of}}
use Rattle.link_session_rules.specs.Remembered.{so_far_of}
use Rattle.link_session_rules.proofs.Joined.{segments_of-push, none_before, some_before}
use Rattle.link_session_rules.proofs.lengths.so_far_after.Goals as goal

pub returns-in-Some-None : goal.returns-in-Some-None
returns-in-Some-None c before is =
    let earlier = earlier_of c.args.head.now.turn (segments_of before) in
    let result : Some None ≡ option_map so_far_of earlier =
    ap Some (sym c.in-Some-None.field-0-is) ∙ sym c.in-Some-None.is
    ∙ c.earlier.ensures (segments_of before) is in
    let segment : SegmentHead = record {
      flags = c.in-Segment.flags;
      id = c.in-Segment.id;
      items = segment_items c.in-Segment.flags c.args.head.now.message.now.items;
      length = c.in-Segment.length;
    } in
    let first = none_before earlier result in
    rw (segments_of-push before (viewed_head c.args.head.now), c.in-Segment.is, first)
    (c.first.ensures segment refl refl refl)

pub returns-in-Some-Some : goal.returns-in-Some-Some
returns-in-Some-Some c before is =
    let earlier = earlier_of c.args.head.now.turn (segments_of before) in
    let result : Some (Some c.in-Some-Some.transfer) ≡ option_map so_far_of earlier =
    ap Some (sym c.in-Some-Some.field-0-is) ∙ sym c.in-Some-Some.is
    ∙ c.earlier.ensures (segments_of before) is in
    let segment : SegmentHead = record {
      flags = c.in-Segment.flags;
      id = c.in-Segment.id;
      items = segment_items c.in-Segment.flags c.args.head.now.message.now.items;
      length = c.in-Segment.length;
    } in
    let found = some_before earlier c.in-Some-Some.transfer result in
    rw (segments_of-push before (viewed_head c.args.head.now), c.in-Segment.is, found.is)
    (c.add.ensures segment found.previous found.more refl (let same = found.same in cc))
