-- What `pack` and `pack_more` return.
use Rattle.std.proofs.Common.{◌⊎◌, ℕ, List, Result, Ok, Err, inl, inr}
use Rattle.std.specs.declared.alloc.AllocError.{AllocError}
use Rattle.link_ffi_tools.specs.Run.{ReturnsTextsOrNothing}
use Rattle.link_ffi_tools.specs.Tool.{Slices, ReturnsTexts, ReturnsNothing}
use Rattle.link_ffi_tools.specs.declared.running.{Run.Run, Wants.Wants}
use Rattle.link_run.specs.Run.{Tool}
use Rattle.link_transfer.specs.declared.cutter.Cutter.{Cutter}
use Rattle.tcpclkit_c.specs.Packed.{tool_with}

-- the tool has its texts, or it was refused its memory
pub packed : (tool : Tool) (memory : Result Cutter AllocError) (bytes : List ℕ)
    (wants : Wants) (old new : Slices) (run : Run) (status : ℕ)
    → ReturnsTextsOrNothing (tool_with memory tool) bytes wants old new run status
    → ReturnsTexts (tool.whole bytes) wants old new run status ⊎ ReturnsNothing old new run status
packed tool (Ok cutter) bytes wants old new run status gave = inl gave
packed tool (Err refused) bytes wants old new run status gave = inr gave
