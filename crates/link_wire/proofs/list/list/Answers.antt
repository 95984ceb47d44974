use Rattle.std.proofs.lemmas.Bool.{lt-ltb, le-ltb}
use Rattle.link_wire.proofs.Gettings.{exit, leaving, after, refuse, is_live, if_true, if_false}
use Rattle.link_wire.specs.Message.{list_at}
use Rattle.link_wire.proofs.list.list.Goals as goal

pub returns-in_err-length-clause-gets : goal.returns-in_err-length-clause-gets
unfolding list_at
returns-in_err-length-clause-gets g c = λ live. leaving _ _ c.from_residual.ensures.1 (exit _ (c.in_err-length.ensures live))

pub returns-then-length-gt-MAX_LIST_LENGTH-clause-gets : goal.returns-then-length-gt-MAX_LIST_LENGTH-clause-gets
unfolding list_at
returns-then-length-gt-MAX_LIST_LENGTH-clause-gets g c = λ live.
    after _ (c.in_ok-length.ensures live) (if_true _ _ (lt-ltb _ _ c.if-length-gt-MAX_LIST_LENGTH.true) (refuse (λ e. cc)))

pub returns-clause-gets : goal.returns-clause-gets
unfolding list_at
returns-clause-gets g c = λ live.
    let size = c.in_ok-length.ensures live in
    after _ size (if_false _ _ (le-ltb _ _ c.if-length-gt-MAX_LIST_LENGTH.false) (c.items_of.ensures.gets (is_live size)))
