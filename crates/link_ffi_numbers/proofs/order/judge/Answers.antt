use Rattle.std.proofs.Common.{[], ◌∷◌, ◌++◌}
use Rattle.link_ffi_numbers.proofs.order.judge.Goals as goal

pub returns-in-Ok-clause-accepted : goal.returns-in-Ok-clause-accepted
returns-in-Ok-clause-accepted c = λ before message is order zero.
    c.order_of.ensures (before ++ message ∷ [])
    (c.in-Ok.ensures.accepted before message is (c.joiner_of-joiner.ensures before order))
