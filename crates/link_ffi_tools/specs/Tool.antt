-- What the exports of whole tools return.
use Rattle.std.specs.Prelude.{◌≡◌, ℕ, ◌^◌, ◌-◌, ◌==◌, ◌||◌, ◌&&◌, Bool, nat_le, min, List, length, if◌then◌else◌}
use Rattle.link_tool_blocks.specs.Bundles.{bundle_blocks_tool}
use Rattle.link_tool_blocks.specs.Showing.{blocks_tool}
use Rattle.link_tool_check.specs.Bundles.{bundle_check_tool}
use Rattle.link_tool_check.specs.Checking.{check_tool}
use Rattle.link_run.specs.Run.{Tool, Outcome}
use Rattle.link_tool_unpack.specs.Unpacking.{unpack_tool}
use Rattle.link_ffi_numbers.specs.Status.{status_ok, status_too_small, status_memory}
use Rattle.link_ffi_tools.specs.Options.{unpack_numbers, wanted_of, blocks_numbers, block_options_of, bundle_check_options_of, check_numbers, check_options_of}
use Rattle.link_ffi_tools.specs.Slice.{HoldsPrefix, LeavesRest}
use Rattle.link_ffi_tools.specs.declared.running.Run.{Run}
use Rattle.link_ffi_tools.specs.declared.running.Wants.{Wants}
use Rattle.link_ffi_tools.specs.declared.options.BlocksNumbers.{BlocksNumbers}
use Rattle.link_ffi_tools.specs.declared.options.CheckNumbers.{CheckNumbers}

-- the slices for the two texts, before or after a call
pub record Slices : Type 0 where
  pub output : List ℕ
  pub report : List ℕ

-- TCPCLKIT_OK if each wanted text fits, and else TCPCLKIT_TOO_SMALL. A text is wanted if
-- its number in `wants` is not 0.
abbrev pub texts_status : Wants → (output_fits report_fits : Bool) → ℕ
texts_status wants output_fits report_fits =
    if (wants.output == 0 || output_fits) && (wants.report == 0 || report_fits)
    then status_ok else status_too_small

-- Each slice begins with its text in `whole`, or contains the text's first bytes if it is too
-- small. The bytes after the text are as they were. `run` contains the lengths of the whole texts,
-- up to 2^64 - 1, and the exit status of the run. The returned `status` is TCPCLKIT_OK or
-- TCPCLKIT_TOO_SMALL.
pub record ReturnsTextsBy (whole : Outcome) (wants : Wants)
    (old_output old_report output report : List ℕ)
    (run : Run)
    (status : ℕ) : Type 0 where
  pub output_front : HoldsPrefix output whole.texts.output
  pub output_rest : LeavesRest old_output output whole.texts.output
  pub report_front : HoldsPrefix report whole.texts.report
  pub report_rest : LeavesRest old_report report whole.texts.report
  pub output_length : run.output_length ≡ min (length whole.texts.output) (2 ^ 64 - 1)
  pub report_length : run.report_length ≡ min (length whole.texts.report) (2 ^ 64 - 1)
  pub exit : run.exit_status ≡ whole.status
  pub gives : status ≡ texts_status wants
      (nat_le (length whole.texts.output) (length output))
      (nat_le (length whole.texts.report) (length report))

-- what a run with this outcome has returned, as `ReturnsTextsBy` says
abbrev pub ReturnsTexts : Outcome → Wants → (old new : Slices) → Run → ℕ → Type 0
ReturnsTexts whole wants old new run status =
    ReturnsTextsBy whole wants old.output old.report new.output new.report run status

-- nothing was written, the numbers of `run` are 0, and TCPCLKIT_MEMORY was returned
pub record ReturnsNothing (old new : Slices) (run : Run) (status : ℕ) : Type 0 where
  pub no_output : new.output ≡ old.output
  pub no_report : new.report ≡ old.report
  pub numbers : run ≡ record { exit_status = 0; output_length = 0; report_length = 0 }
  pub gives : status ≡ status_memory

-- Below, `words` are the numbers of the caller's struct after `size`. Each is in its range, as by
-- `unpack_in_range` of Options.

-- what a run of `unpack` over these bytes, with these options, has returned
abbrev pub ReturnsUnpackTexts : (words bytes : List ℕ) → Wants → (old new : Slices) → Run → ℕ
    → Type 0
ReturnsUnpackTexts words bytes wants old new run status =
    ReturnsTexts ((unpack_tool (wanted_of (unpack_numbers words))).whole bytes)
    wants old new run status

-- the tool that these options of `blocks` ask for
abbrev pub blocks_tool_of : BlocksNumbers → Tool
blocks_tool_of numbers =
    if numbers.bundles == 1 then bundle_blocks_tool else blocks_tool (block_options_of numbers)

-- what a run of `blocks` over these bytes, with these options, has returned
abbrev pub ReturnsBlocksTexts : (words bytes : List ℕ) → Wants → (old new : Slices) → Run → ℕ
    → Type 0
ReturnsBlocksTexts words bytes wants old new run status =
    ReturnsTexts ((blocks_tool_of (blocks_numbers words)).whole bytes) wants old new run status

-- the tool that these options of `check` ask for
abbrev pub check_tool_of : CheckNumbers → Tool
check_tool_of numbers =
    if numbers.bundles == 1 then bundle_check_tool (bundle_check_options_of numbers)
    else check_tool (check_options_of numbers)

-- what a run of `check` over these bytes, with these options, has returned
abbrev pub ReturnsCheckTexts : (words bytes : List ℕ) → Wants → (old new : Slices) → Run → ℕ
    → Type 0
ReturnsCheckTexts words bytes wants old new run status =
    ReturnsTexts ((check_tool_of (check_numbers words)).whole bytes) wants old new run status
