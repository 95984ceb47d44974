-- Relations: lines of broken rules that were written.
use Rattle.std.specs.Prelude.{◌≡◌, Bool, ◌&&◌, List, Result, OnOk}
use Rattle.link_wire.specs.Device.{Output}
use Rattle.link_wire.specs.declared.IoFault.{IoFault}
use Rattle.link_run.specs.Writers.{AfterWrite, on_output}
use Rattle.link_run.specs.declared.writers.Writers.{Writers}
use Rattle.link_report_broken_rules.specs.declared.line.RuleText.{RuleText}
use Rattle.link_tool_check.specs.Lines.{lines_of, none_counts}

-- The lines of those rules that count were written, or a writer failed. `was` and `good` are the
-- same variable before and after the call. If no writer failed, it keeps its value, but becomes
-- false if one of the rules counts.
pub record WritesRules {W E : Type 0} (out_look : W → Output) (report_look : E → Output)
    (must : Bool) (old new : Writers W E) (was good : Bool) (result : Result (Unit {0}) IoFault)
    (broken : List RuleText) : Type 0 where
  pub wrote : AfterWrite out_look report_look old new (on_output (lines_of must broken)) result
  pub counted : OnOk result (good ≡ (was && none_counts must broken))
