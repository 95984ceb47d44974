use Rattle.std.proofs.Common.{◌≡◌, Some, sym, ◌∙◌}
use Rattle.link_ffi_tools.specs.Options.{check_in}
use Rattle.link_ffi_tools.specs.Reading.{reading_tool}
use Rattle.link_ffi_tools.proofs.Runs.{check_is, in_range}
use Rattle.link_ffi_tools.proofs.tool.check_into.Goals as goal

pub returns-clause-run : goal.returns-clause-run
returns-clause-run c = λ fits.
    let is : check_in c.args.options.now ≡ Some c.in-Some.reading =
    sym c.check_in.ensures ∙ c.in-Some.is in
    rw (check_is c.args.options.now c.in-Some.reading is) at c.run_into.ensures

pub returns-clause-unwritten : goal.returns-clause-unwritten
returns-clause-unwritten c = λ six.
    absurd (in_range (Some (reading_tool c.in-Some.reading)) _ _ _ _ _ _ c.run_into.ensures six)
