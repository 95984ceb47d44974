use Rattle.link_tool_check.proofs.checker.check_run.Goals as goal

pub walk_run-requires-clause-knows : goal.walk_run-requires-clause-knows
walk_run-requires-clause-knows g c = c.new.ensures c.args.options
