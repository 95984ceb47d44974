use Rattle.std.proofs.Common.{◌≡◌, ℕ, refl}
use Rattle.arrayvec.specs.ArrayVec.{ArrayVec}
use Rattle.link_wire.specs.MessageBuffer.{message_with, segment_items}
use Rattle.link_wire.specs.declared.message.Fields.TheVariants as fields
use Rattle.link_wire.specs.declared.message.{Item.Item, Message.TheVariants.Segment}
use Rattle.link_wire.specs.declared.message.SegmentHead.{SegmentHead}
use Rattle.link_tool_check.proofs.transfer.opening_of.Goals as goal

abbrev segment_with : (flags id size : ℕ) → ArrayVec Item → SegmentHead
segment_with flags id size items = record {
  flags = flags;
  id = id;
  items = segment_items flags items;
  length = size;
}

segment_is : (flags id size : ℕ) (node : ArrayVec ℕ) (items : ArrayVec Item) (first : SegmentHead)
    → message_with (fields.Segment flags id size) node items ≡ Segment first
    → first ≡ segment_with flags id size items
segment_is flags id size node items first is = cc

pub returns-in-Segment : goal.returns-in-Segment
returns-in-Segment c = λ first is.
    let message = c.args.message.now in
    let same = segment_is c.in-Segment.flags c.in-Segment.id c.in-Segment.length message.node message.items first
    (rw c.in-Segment.is at is) in
    c.of.ensures first (rw same refl) (rw same refl)
