-- What the exports of `pack` and of `pack_more` return.
use Rattle.std.specs.Prelude.{◌≡◌, ◌⊎◌, ℕ, List, [], Option, Some, None, Result, Ok, Err}
use Rattle.std.specs.declared.alloc.AllocError.{AllocError}
use Rattle.link_tool_option_types.specs.declared.pack.PackOptions.{PackOptions}
use Rattle.link_tool_pack.specs.More.{more_tool}
use Rattle.link_tool_pack.specs.Packing.{pack_tool}
use Rattle.link_tool_pack.specs.declared.more.MoreOptions.{MoreOptions}
use Rattle.link_run.specs.Run.{Tool}
use Rattle.link_transfer.specs.declared.cutter.Cutter.{Cutter}
use Rattle.link_ffi_tools.specs.Options.{pack_numbers, IsPackOptionsByNumbers, more_numbers}
use Rattle.link_ffi_tools.specs.Tool.{Slices, ReturnsTexts, ReturnsNothing}
use Rattle.link_ffi_tools.specs.declared.options.{MoreNumbers.MoreNumbers, PackNumbers.PackNumbers}
use Rattle.link_ffi_tools.specs.declared.running.Run.{Run}
use Rattle.link_ffi_tools.specs.declared.running.Wants.{Wants}

-- a tool that asked for memory, or `None` if the memory was refused
abbrev pub tool_with : Result Cutter AllocError → Tool → Option Tool
tool_with (Ok cutter) tool = Some tool
tool_with (Err refused) tool = None

-- The bundles were packed with the options in `words`, and the texts are returned as by the other
-- tools. Or no text was written, and the status is TCPCLKIT_MEMORY.
pub record ReturnsPackTexts (words node bytes : List ℕ) (wants : Wants) (old new : Slices)
    (run : Run) (status : ℕ) : Type 0 where
  pub options : PackOptions
  pub are : IsPackOptionsByNumbers options (pack_numbers words) node
  pub gave : ReturnsTexts ((pack_tool options).whole bytes) wants old new run status
      ⊎ ReturnsNothing old new run status

-- the options of `pack` with these numbers; those that `pack_more` does not read are 0
abbrev pub packed_by : MoreNumbers → PackNumbers
packed_by numbers =
    record {
      keepalive = 0;
      segment_mru = 0;
      transfer_mru = 0;
      peer_segment = numbers.peer_segment;
      peer_transfer = numbers.peer_transfer;
      announce = numbers.announce;
      send_term = 0;
    }

-- the options have these numbers
pub record IsPackMoreOptionsByNumbers (options : MoreOptions) (numbers : MoreNumbers) : Type 0 where
  pub first : options.first ≡ numbers.first
  pub pack : IsPackOptionsByNumbers options.pack (packed_by numbers) []

-- The segments of the bundles were written with the options in `words`, and the texts are returned
-- as by the other tools. Or no text was written, and the status is TCPCLKIT_MEMORY.
pub record ReturnsPackMoreTexts (words bytes : List ℕ) (wants : Wants) (old new : Slices)
    (run : Run) (status : ℕ) : Type 0 where
  pub options : MoreOptions
  pub are : IsPackMoreOptionsByNumbers options (more_numbers words)
  pub gave : ReturnsTexts ((more_tool options).whole bytes) wants old new run status
      ⊎ ReturnsNothing old new run status
