use Rattle.std.proofs.Common.{sym}
use Rattle.link_ffi_writer.proofs.Registers.{is_kept}
use Rattle.link_ffi_writer.proofs.check.KeptCheck.value.Goals as goal

pub returns-in_err-check-clause-value : goal.returns-in_err-check-clause-value
returns-in_err-check-clause-value c kind bytes fed =
    absurd (is_kept kind c.args.self.now bytes fed (sym c.in_err-check.ensures.kind))
