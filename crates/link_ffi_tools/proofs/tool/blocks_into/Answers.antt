use Rattle.std.proofs.Common.{◌≡◌, Some, sym, ◌∙◌}
use Rattle.link_ffi_tools.specs.Options.{blocks_in}
use Rattle.link_ffi_tools.proofs.Runs.{blocks_are}
use Rattle.link_ffi_tools.proofs.tool.blocks_into.Goals as goal

pub returns-clause-run : goal.returns-clause-run
returns-clause-run c = λ fits.
    let is : blocks_in c.args.options.now ≡ Some c.in-Some.reading =
    sym c.blocks_in.ensures ∙ c.in-Some.is in
    rw (blocks_are c.args.options.now c.in-Some.reading is) at c.run_into.ensures
