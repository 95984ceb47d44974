use Rattle.tcpclkit_c.proofs.Packed.{packed}
use Rattle.tcpclkit_c.proofs.tool.tcpclkit_raw_pack.Goals as goal

pub returns-clause-run : goal.returns-clause-run
returns-clause-run c = λ fits. record {
  options = c.packing_of-options.result;
  are = rw c.pack_numbers.ensures at c.packing_of-options.ensures;
  gave = packed _ c.cutter_for-memory.result _ _ _ _ _ _ c.run_into.ensures;
}
