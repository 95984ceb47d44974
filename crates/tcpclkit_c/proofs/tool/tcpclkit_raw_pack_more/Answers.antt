use Rattle.tcpclkit_c.proofs.Packed.{packed}
use Rattle.tcpclkit_c.proofs.tool.tcpclkit_raw_pack_more.Goals as goal

pub returns-clause-run : goal.returns-clause-run
returns-clause-run c = λ fits. record {
  options = c.more_options-options.result;
  are = rw c.more_numbers.ensures at c.more_options-options.ensures;
  gave = packed _ c.cutter_for-memory.result _ _ _ _ _ _ c.run_into.ensures;
}
