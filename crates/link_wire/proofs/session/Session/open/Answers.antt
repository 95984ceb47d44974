use Rattle.std.proofs.Common.{ap, ◌∙◌}
use Rattle.link_io.specs.Source.{reach}
use Rattle.link_wire.proofs.Sessions.{opens_live}
use Rattle.link_wire.proofs.session.Session.open.Goals as goal

pub returns-in-Ok-clause-unread : goal.returns-in-Ok-clause-unread
returns-in-Ok-clause-unread g c = λ enough.
    ((c.in-Ok.ensures (opens_live g.R.InDevice.state c.args.self.now c.requires)).here enough).0

pub returns-in-Err-clause-unread : goal.returns-in-Err-clause-unread
returns-in-Err-clause-unread g c = λ enough.
    ap (λ s. reach g.R.InDevice.state s.source) c.stop_at.ensures.state
    ∙ (c.in-Err.ensures (opens_live g.R.InDevice.state c.args.self.now c.requires)).here enough
