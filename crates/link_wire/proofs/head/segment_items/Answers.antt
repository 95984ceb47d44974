use Rattle.std.proofs.Common.{◌≡◌, false}
use Rattle.std.proofs.lemmas.Bool.{ne_eqb}
use Rattle.link_wire.specs.{Codes.is_start, Message.segment_items_at}
use Rattle.link_wire.proofs.Gettings.{if_false, pure}
use Rattle.link_wire.proofs.head.segment_items.Goals as goal

pub returns-else-flags-eq-START-clause-gets : goal.returns-else-flags-eq-START-clause-gets
unfolding segment_items_at
returns-else-flags-eq-START-clause-gets g c = λ live.
    let none : is_start c.args.flags ≡ false = ne_eqb _ _ c.if-flags-eq-START.false in
    rw none (if_false _ _ none (pure live))
