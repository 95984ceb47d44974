use Rattle.std.proofs.Common.{append_assoc}
use Rattle.link_tool_pack.proofs.Sending.{head_spelled}
use Rattle.link_tool_pack.proofs.segment_text.put_head.Goals as goal

pub returns-clause-text : goal.returns-clause-text
returns-clause-text c =
    let cut = c.args.cut in
    rw (
      c.put_number.ensures.text,
      c.put_list-at.ensures.text,
      c.put_number-at.ensures.text,
      c.copy_into-at.ensures.text,
      c.flags.ensures,
      head_spelled c.args.id c.args.size cut.first cut.last cut.announce,
    ) (simp append_assoc)
