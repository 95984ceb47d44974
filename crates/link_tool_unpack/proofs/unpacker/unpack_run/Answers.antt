use Rattle.link_tool_unpack.proofs.Told.{says_nothing}
use Rattle.link_tool_unpack.proofs.unpacker.unpack_run.Goals as goal

pub walk_run-requires-clause-knows : goal.walk_run-requires-clause-knows
walk_run-requires-clause-knows g c = c.new.ensures c.args.wanted

pub walk_run-requires-clause-silent : goal.walk_run-requires-clause-silent
walk_run-requires-clause-silent g c = says_nothing c.args.wanted
