use Rattle.link_ffi_numbers.proofs.Orders.{same_event}
use Rattle.tcpclkit_c.proofs.order.tcpclkit_raw_take_message.Goals as goal

pub returns-clause-after : goal.returns-clause-after
returns-clause-after c = λ before read has order.
    c.take.ensures.after before read
    (rw c.event_by.ensures (same_event read c.args.message.now has)) order
