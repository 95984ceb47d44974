use Rattle.link_tool_check.proofs.bundles.bundle_check_run.Goals as goal

pub bundle_walk_run-requires-clause-knows : goal.bundle_walk_run-requires-clause-knows
bundle_walk_run-requires-clause-knows g c = c.new.ensures.knows c.args.options
