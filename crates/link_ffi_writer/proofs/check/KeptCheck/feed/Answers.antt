use Rattle.std.proofs.Common.{sym}
use Rattle.link_ffi_writer.proofs.Registers.{is_kept}
use Rattle.link_ffi_writer.proofs.check.KeptCheck.feed.Goals as goal

pub returns-in_default-clause-fed : goal.returns-in_default-clause-fed
returns-in_default-clause-fed c kind before fed =
    absurd (is_kept kind c.args.self.now before fed (sym c.in_default.ensures.kind))

pub returns-in_default-clause-check : goal.returns-in_default-clause-check
returns-in_default-clause-check c kind before fed =
    absurd (is_kept kind c.args.self.now before fed (sym c.in_default.ensures.kind))
