use Rattle.std.proofs.Common.{length, sym, ap}
use Rattle.link_tool_unpack.proofs.Transfers.{part_of-begun}
use Rattle.link_tool_unpack.proofs.transfer.TransferScan.begin.Goals as goal

pub returns-clause-follows : goal.returns-clause-follows
returns-clause-follows c = λ wanted head closed earlier is starts start. record {
  judging = c.begin.ensures.follows head closed is starts;
  start = start;
  written = ap length (sym (part_of-begun wanted head closed));
}
