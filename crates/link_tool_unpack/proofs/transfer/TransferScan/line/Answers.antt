use Rattle.link_tool_unpack.proofs.Transfers.{line_is}
use Rattle.link_tool_unpack.proofs.transfer.TransferScan.line.Goals as goal

pub returns-clause-text : goal.returns-clause-text
returns-clause-text c = λ wanted transfer earlier follows over.
    line_is wanted c.args.self.now transfer earlier follows _ (c.judgement.ensures.judged transfer follows.judging over)
