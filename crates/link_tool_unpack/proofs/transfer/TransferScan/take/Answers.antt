use Rattle.std.proofs.Common.{◌+◌, sym, ap, ◌∙◌, length, length-append}
use Rattle.link_tool_unpack.proofs.transfer.TransferScan.take.Goals as goal

pub returns-clause-follows : goal.returns-clause-follows
returns-clause-follows c = λ transfer closed earlier room follows.
    let judging = c.take.ensures.follows transfer closed follows.judging in
    let part = c.part-part.ensures.part transfer closed judging in
    record {
      judging = judging;
      start = follows.start;
      written = ap (λ n. n + length c.part-part.result.now) follows.written ∙ sym (ap length part ∙ length-append _ c.part-part.result.now);
    }

pub returns-clause-part : goal.returns-clause-part
returns-clause-part c = λ transfer closed earlier room follows.
    c.part-part.ensures.part transfer closed (c.take.ensures.follows transfer closed follows.judging)
