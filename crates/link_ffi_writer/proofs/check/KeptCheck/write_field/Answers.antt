use Rattle.std.proofs.Common.{sym}
use Rattle.link_ffi_writer.proofs.Registers.{is_kept}
use Rattle.link_ffi_writer.proofs.check.KeptCheck.write_field.Goals as goal

pub returns-in_default-clause-field : goal.returns-in_default-clause-field
returns-in_default-clause-field c kind block fed =
    absurd (is_kept kind c.args.self.now block fed (sym c.in_default.ensures.kind))
