use Rattle.link_tool_check.proofs.Blocks.{no_history}
use Rattle.link_tool_check.proofs.bundle.BundleReader.restart.Goals as goal

pub returns-clause-reads : goal.returns-clause-reads
returns-clause-reads c = λ own. record {
  reading = c.restart.ensures.reads;
  history = no_history own c.args.self.now.blocks.history;
  walked = c.restart-2.ensures;
  begins = c.restart-3.ensures;
}
