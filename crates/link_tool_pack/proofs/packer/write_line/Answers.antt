use Rattle.link_tool_pack.proofs.Outcomes.{chunks_counted}
use Rattle.link_tool_pack.proofs.packer.write_line.Goals as goal

pub returns : goal.returns
returns g c = λ bundle info size.
    let length = c.args.whole.length in
    let counted =
    rw (chunks_counted c.segment.result length c.segment.ensures.some, c.segment.ensures.value)
    at c.div_ceil.ensures in
    rw (← size, ← info, ← counted) c.report_text.ensures.gives
