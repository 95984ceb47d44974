use Rattle.std.proofs.Common.{◌∙◌}
use Rattle.link_wire.proofs.{Inners.inner_passed, Sessions.none_left}
use Rattle.link_wire.proofs.session.Session.pass_inner.Goals as goal

pub returns-clause-gives : goal.returns-clause-gives
returns-clause-gives g c = λ id history at is.
    let old = c.args.self.now in
    let between = none_left old at.going c.requires.may_read in
    let live = c.give.ensures.live at.live in
    let here = c.given-offset.ensures ∙ at.at.given in
    inner_passed old _ history at between c.give.new.self id c.args.size is
    c.give.ensures.takes c.give.ensures.rest live
    c.give-2.ensures.takes (c.give-2.ensures.live live) here between at.going
