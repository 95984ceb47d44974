use Rattle.link_ffi_numbers.proofs.Orders.{same_event}
use Rattle.tcpclkit_c.proofs.order.tcpclkit_raw_judge_message.Goals as goal

pub returns-clause-accepted : goal.returns-clause-accepted
returns-clause-accepted c = λ before read has order zero.
    c.judge.ensures.accepted before read
    (rw c.event_by.ensures (same_event read c.args.message.now has)) order zero
