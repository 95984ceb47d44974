use Rattle.std.proofs.Common.{append_assoc, refl}
use Rattle.link_wire.specs.Spelling.{total_bytes, announce_bytes}
use Rattle.link_tool_pack.proofs.segment_text.put_list.Goals as goal

pub returns-in-Some-clause-text : goal.returns-in-Some-clause-text
unfolding announce_bytes total_bytes
returns-in-Some-clause-text c =
    rw (
      c.if-not-first.false,
      c.in-Some.is,
      c.put_number.ensures.text,
      c.copy_into-at.ensures.text,
      append_assoc,
    ) refl
