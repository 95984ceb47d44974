-- The tools that take no memory.
use Rattle.link_tool_blocks.specs.Bundles.{bundle_blocks_tool}
use Rattle.link_tool_blocks.specs.Showing.{blocks_tool}
use Rattle.link_tool_check.specs.Bundles.{bundle_check_tool}
use Rattle.link_tool_check.specs.Checking.{check_tool}
use Rattle.link_tool_list.specs.Listing.{list_tool}
use Rattle.link_run.specs.Run.{Tool}
use Rattle.link_tool_unpack.specs.Unpacking.{unpack_tool}
use Rattle.link_ffi_tools.specs.declared.reading.Reading.{Reading}
use Rattle.link_ffi_tools.specs.declared.reading.Reading.TheVariants as reading

-- what this tool, with its options, makes of an input
abbrev pub reading_tool : Reading → Tool
reading_tool reading.List = list_tool
reading_tool (reading.Unpack wanted) = unpack_tool wanted
reading_tool (reading.Blocks options) = blocks_tool options
reading_tool reading.BundleBlocks = bundle_blocks_tool
reading_tool (reading.Check options) = check_tool options
reading_tool (reading.BundleCheck options) = bundle_check_tool options
