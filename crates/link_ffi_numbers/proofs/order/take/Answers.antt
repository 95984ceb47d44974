use Rattle.link_transfer.specs.Order.{with_taken}
use Rattle.link_ffi_numbers.proofs.order.take.Goals as goal

pub returns-clause-after : goal.returns-clause-after
returns-clause-after c = λ before message is order.
    c.order_of.ensures (with_taken before message)
    (c.take-taken.ensures.taken before message is (c.joiner_of-joiner.ensures before order))
