use Rattle.std.proofs.Common.{ap, refl}
use Rattle.link_transfer.specs.Held.{HeldBytes}
use Rattle.link_transfer.proofs.Steps.{IsCutterAt-new}
use Rattle.link_transfer.proofs.cutter.Cutter.over.Goals as goal

pub returns-clause-start : goal.returns-clause-start
returns-clause-start c =
    IsCutterAt-new _ c.args.segment c.args.hold c.requires.positive refl refl
    (ap (λ (h : HeldBytes). h.given) c.new.ensures) (ap (λ (h : HeldBytes). h.bytes) c.new.ensures) refl refl
