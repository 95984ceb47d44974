use Rattle.link_tool_blocks.proofs.transfer.TransferBlocks.begin.Goals as goal

pub returns-clause-follows : goal.returns-clause-follows
returns-clause-follows c = λ only head closed is starts. record {
  judging = c.begin.ensures.follows head closed is starts;
  reading = λ selected. c.restart.ensures.reads;
}
