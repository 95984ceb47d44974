-- The lines of faults.
use Rattle.std.proofs.Common.{◌<◌, length, arith}
use Rattle.link_report.specs.{Fault.fault_text, declared.fault.Fault.Fault}

-- no line of a fault is empty
pub some_fault : (fault : Fault) → 0 < length (fault_text fault)
unfolding fault_text
some_fault fault = omega arith
