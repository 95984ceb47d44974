use Rattle.link_tool_blocks.proofs.Told.{says_nothing}
use Rattle.link_tool_blocks.proofs.lister.blocks_run.Goals as goal

pub walk_run-requires-clause-knows : goal.walk_run-requires-clause-knows
walk_run-requires-clause-knows g c = c.new.ensures c.args.options

pub walk_run-requires-clause-silent : goal.walk_run-requires-clause-silent
walk_run-requires-clause-silent g c = says_nothing c.args.options
