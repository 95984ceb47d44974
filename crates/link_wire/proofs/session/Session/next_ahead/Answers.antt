use Rattle.std.proofs.Common.{◌≡◌, length, refl, ◌∙◌}
use Rattle.link_wire.proofs.Sessions.{none_left, came}
use Rattle.link_wire.proofs.session.Session.next_ahead.Goals as goal

pub returns-clause-gives : goal.returns-clause-gives
returns-clause-gives g c = λ history at.
    let old = c.args.self.now in
    let here : c.given-offset.result ≡ length history = c.given-offset.ensures ∙ at.at.given in
    let head = rw c.front.ensures.front at c.in-Some.ensures in
    rw here (came old history at (none_left old at.going c.requires) _ _ (record {
      given = _;
      takes = c.give_front.ensures.takes;
      live = c.give_front.ensures.live at.live;
      is = rw c.set.ensures.message (head.is c.args.message.now.node);
    }) refl c.data_length-self.ensures at.going)
