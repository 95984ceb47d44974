use Rattle.std.proofs.Common.{◌+◌, append-nil, refl, rules}
use Rattle.link_bundle_types.specs.declared.fault.BundleFault.TheVariants.{Trailing}
use Rattle.link_bundle.specs.declared.stage.ScanStage.TheVariants.{Failed}
use Rattle.link_bundle.proofs.{Steps.{at_stage, fits_at, trailing}, Taking.{takes_on, ends_nowhere}}
use Rattle.link_bundle.proofs.scan.BundleScan.trailing_byte.Goals as goal

pub returns : goal.returns
returns c =
    let now = c.args.self.now in
    let cursor = record now.cursor { count = now.cursor.count + 1 } in
    takes_on (search rules) (ends_nowhere (Failed Trailing now.cursor.count) now.draft cursor refl)
    (λ before seen come. rw (c.requires.stage, append-nil before)
    (trailing c.args.byte (at_stage now c.requires.stage come) (search rules)
    (fits_at now _ c.requires.stage) refl))
