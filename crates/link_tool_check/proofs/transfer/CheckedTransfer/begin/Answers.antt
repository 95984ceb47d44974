use Rattle.std.proofs.Common.{false, refl}
use Rattle.link_tool_check.proofs.transfer.CheckedTransfer.begin.Goals as goal

pub returns-clause-follows : goal.returns-clause-follows
returns-clause-follows c = λ first is starts own. record {
  offset = refl;
  opening = c.opening_of-self.ensures first is;
  judging = c.begin.ensures.follows first false is starts;
  reading = c.restart.ensures.reads own;
}
