use Rattle.link_tool_check.proofs.Blocks.{no_history}
use Rattle.link_tool_check.proofs.bundle.BundleReader.new.Goals as goal

pub returns-clause-reads : goal.returns-clause-reads
returns-clause-reads c = λ own. record {
  reading = c.restart.ensures.reads;
  history = no_history own c.new.result;
  walked = c.new-2.ensures;
  begins = c.new-3.ensures;
}
