-- The tools by their options: when a tool is ready to run, and what a whole run does.
use Rattle.std.specs.Prelude.{Option, Some, None, Ok, Err, IfOk, ⊤}
use Rattle.link_tool_option_types.specs.declared.options.Options.{Options}
use Rattle.link_tool_option_types.specs.declared.options.Options.TheVariants as chosen
use Rattle.link_run.specs.Run.{Tool, Looks, Devices}
use Rattle.link_run.specs.WholeRun.{AfterRun}
use Rattle.link_run.specs.declared.run.RunEnd.{RunEnd}
use Rattle.link_tool_list.specs.Listing.{list_tool}
use Rattle.link_tool_unpack.specs.Unpacking.{unpack_tool}
use Rattle.link_tool_blocks.specs.Showing.{blocks_tool}
use Rattle.link_tool_blocks.specs.Bundles.{bundle_blocks_tool}
use Rattle.link_tool_check.specs.Checking.{check_tool}
use Rattle.link_tool_check.specs.Bundles.{bundle_check_tool}
use Rattle.link_tool_pack.specs.Packing.{pack_tool}
use Rattle.link_tool_pack.specs.Packer.{IsNewCutterFor}
use Rattle.link_tool_pack.specs.PackRun.{LacksMemory}
use Rattle.link_tools.specs.declared.options.Job.{Job}
use Rattle.link_tools.specs.declared.options.Job.TheVariants as job

-- the options of the tool that is ready to run
abbrev pub options_of : Job → Options
options_of job.List = chosen.List
options_of (job.Unpack wanted) = chosen.Unpack wanted
options_of (job.Blocks options) = chosen.Blocks options
options_of job.BundleBlocks = chosen.BundleBlocks
options_of (job.Check options) = chosen.Check options
options_of (job.BundleCheck options) = chosen.BundleCheck options
options_of (job.Pack options memory) = chosen.Pack options

-- `pack` has a new cutter for its options, or its request for memory was refused. The other tools
-- are always ready.
abbrev pub IfPackHasNewCutter : Job → Type 0
IfPackHasNewCutter (job.Pack options memory) = IfOk memory (IsNewCutterFor options)
IfPackHasNewCutter _ = ⊤

-- The tool of a job, or `None` if its request for memory was refused. Only `pack` makes a request.
abbrev pub job_tool : Job → Option Tool
job_tool job.List = Some list_tool
job_tool (job.Unpack wanted) = Some (unpack_tool wanted)
job_tool (job.Blocks options) = Some (blocks_tool options)
job_tool job.BundleBlocks = Some bundle_blocks_tool
job_tool (job.Check options) = Some (check_tool options)
job_tool (job.BundleCheck options) = Some (bundle_check_tool options)
job_tool (job.Pack options (Ok cutter)) = Some (pack_tool options)
job_tool (job.Pack options (Err refused)) = None

-- what a whole run of the tool did; `None` is a tool that was refused its memory
abbrev pub AfterTool : {R W E : Type 0} → Looks R W E → Option Tool → (start : Devices R W E)
    → RunEnd R W E → Type 0
AfterTool look (Some tool) start end = AfterRun look tool start end
AfterTool look None start end = LacksMemory start end

-- What a whole run of the job did (`AfterRun`). If the memory of `pack` was refused, nothing was
-- read or written, and the answer is `Memory`.
abbrev pub AfterJob : {R W E : Type 0} → Looks R W E → Job → (start : Devices R W E)
    → RunEnd R W E → Type 0
AfterJob look job start end = AfterTool look (job_tool job) start end
