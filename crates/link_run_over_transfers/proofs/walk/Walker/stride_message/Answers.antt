use Rattle.std.proofs.Common.{◌<◌, length, ap, sym, ◌∙◌, arith}
use Rattle.std.proofs.lemmas.Bool.{not-true}
use Rattle.link_run.proofs.Waiting.{unread_then}
use Rattle.link_run.specs.declared.next.Next.TheVariants as next
use Rattle.link_run_over_transfers.specs.declared.consumer.Manner.{Manner}
use Rattle.link_run_over_transfers.proofs.Steps.{quiet_taken}
use Rattle.link_run_over_transfers.proofs.Strides.{stride_of, stride_then, stride_whole}
use Rattle.link_run_over_transfers.proofs.walk.Walker.stride_message.Goals as goal

pub returns-in-Stage-Message-clause-gives : goal.returns-in-Stage-Message-clause-gives
returns-in-Stage-Message-clause-gives g c =
    let comes = rw c.in-Stage-Message.is at c.in-Stage-Message.field-0-is in
    let is = c.in-Stage-Message.is ∙ ap next.Stage comes in
    rw is
    (stride_whole (rw is at c.take_message-next.ensures.gives) (omega arith)
    (quiet_taken c.pass_quiet.result
    (ap (λ (m : Manner). m.all_heads) (sym c.manner.ensures) ∙ not-true _ c.if-not-manner.true)
    c.pass_quiet.ensures.none c.pass_quiet.ensures.gives) c.pass_quiet.ensures.unread)

-- nothing but the message is taken
pub returns-in_default-clause-gives : goal.returns-in_default-clause-gives
returns-in_default-clause-gives g c = stride_of c.take_message-next.ensures.gives (omega arith)

pub returns-in_default-2-clause-gives : goal.returns-in_default-2-clause-gives
returns-in_default-2-clause-gives g c = stride_of c.take_message-next.ensures.gives (omega arith)

pub returns-in_default-3-clause-gives : goal.returns-in_default-3-clause-gives
returns-in_default-3-clause-gives g c = stride_of c.take_message-next.ensures.gives (omega arith)

pub returns-then-ready-eq0-clause-gives : goal.returns-then-ready-eq0-clause-gives
returns-then-ready-eq0-clause-gives g c =
    stride_of c.take_message-next.ensures.gives (omega arith)

-- its data is taken too
pub returns-else-ready-eq0-clause-gives : goal.returns-else-ready-eq0-clause-gives
returns-else-ready-eq0-clause-gives g c =
    let comes = rw c.in-Stage-Data.is at c.in-Stage-Data.field-0-is in
    let some : 0 < length c.loaded-ready.result.now = omega (arith, c.if-ready-eq0.false) in
    stride_then (rw (c.in-Stage-Data.is ∙ ap next.Stage comes) at c.take_message-next.ensures.gives)
    (stride_of (c.take_loaded-taken.ensures.gives some) some) c.take_loaded-taken.ensures.unread

pub returns-else-ready-eq0-2-clause-gives : goal.returns-else-ready-eq0-2-clause-gives
returns-else-ready-eq0-2-clause-gives g c =
    let comes = rw c.in-Stage-Data.is at c.in-Stage-Data.field-0-is in
    let some : 0 < length c.loaded-ready.result.now = omega (arith, c.if-ready-eq0.false) in
    stride_then (rw (c.in-Stage-Data.is ∙ ap next.Stage comes) at c.take_message-next.ensures.gives)
    (stride_of (c.take_loaded-taken.ensures.gives some) some) c.take_loaded-taken.ensures.unread

-- and inner segments after it
pub returns-in-Stage-Message-taken-clause-gives : goal.returns-in-Stage-Message-taken-clause-gives
returns-in-Stage-Message-taken-clause-gives g c =
    let comes = rw c.in-Stage-Data.is at c.in-Stage-Data.field-0-is in
    let later = rw c.in-Stage-Message-taken.is at c.in-Stage-Message-taken.field-0-is in
    let some : 0 < length c.loaded-ready.result.now = omega (arith, c.if-ready-eq0.false) in
    stride_then (rw (c.in-Stage-Data.is ∙ ap next.Stage comes) at c.take_message-next.ensures.gives)
    (stride_whole
    (rw (c.in-Stage-Message-taken.is ∙ ap next.Stage later) at
    (c.take_loaded-taken.ensures.gives some))
    some c.take_inner.ensures.gives c.take_inner.ensures.unread)
    (unread_then c.take_loaded-taken.ensures.unread c.take_inner.ensures.unread)
