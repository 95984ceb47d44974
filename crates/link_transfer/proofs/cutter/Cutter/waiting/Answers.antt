use Rattle.std.proofs.Common.{◌∙◌}
use Rattle.link_transfer.proofs.Steps.{waits-at, all_given}
use Rattle.link_transfer.proofs.cutter.Cutter.waiting.Goals as goal

pub returns-clause-cut : goal.returns-clause-cut
returns-clause-cut c = λ so_far at. c.waits.ensures ∙ waits-at c.args.self.now so_far at

pub returns-clause-given : goal.returns-clause-given
returns-clause-given c = λ so_far at. all_given c.waits.result c.args.self.now so_far at c.waits.ensures
