use Rattle.std.proofs.Common.{◌≡◌, length, refl, ◌∙◌}
use Rattle.link_wire.proofs.Sessions.{none_left, came}
use Rattle.link_wire.proofs.session.Session.next_here.Goals as goal

pub returns-clause-gives : goal.returns-clause-gives
returns-clause-gives g c = λ history at.
    let old = c.args.self.now in
    let here : c.given-offset.result ≡ length history = c.given-offset.ensures ∙ at.at.given in
    rw here (came old history at (none_left old at.going c.requires) _ _ (record {
      given = _;
      takes = c.give.ensures.takes;
      live = c.give.ensures.live at.live;
      is = rw c.set.ensures.message (c.in-Some.ensures.head.is c.args.message.now.node);
    }) refl c.data_length-self.ensures at.going)
