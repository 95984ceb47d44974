use Rattle.std.proofs.Common.{Ok, Err, refl, ◌∙◌}
use Rattle.link_run.proofs.Waiting.{unread_none, unread_then}
use Rattle.link_run_over_transfers.proofs.Steps.{none_taken, turn_taken}
use Rattle.link_run_over_transfers.proofs.walk.Walker.take_inner.Goals as goal

pub returns-in_default-clause-gives : goal.returns-in_default-clause-gives
returns-in_default-clause-gives g c = none_taken _

pub segments-init : goal.segments-init
segments-init g c = record {
  fits = c.requires;
  items = c.clear.ensures;
  joiner = refl;
  unread = unread_none c.args.input.now;
  taken = none_taken _;
}

pub segments-preserved : goal.segments-preserved
segments-preserved g c =
    let kept = c.segments.invariant in
    record {
      fits = c.pass_inner.ensures.may_read;
      items = c.tell_inner.ensures.items;
      joiner = c.tell_inner.ensures.joiner ∙ kept.joiner;
      unread = unread_then kept.unread c.pass_inner.ensures.unread;
      taken = turn_taken c.given-offset.result c.in-Some.id c.in-Some-inner_data.content.now
          kept.taken c.tell_inner.ensures.joiner c.given-offset.ensures (rw kept.joiner c.in-Some.ensures)
          (λ history session.
          rw c.in-Some-inner_data.ensures.bytes
          (c.pass_inner.ensures.gives c.in-Some.id history session
          c.in-Some-inner_data.ensures.is))
          (Ok tt) c.in-Ok.ensures.gives;
    }

pub returns-in-Err-clause-gives : goal.returns-in-Err-clause-gives
returns-in-Err-clause-gives g c =
    let kept = c.segments.invariant in
    turn_taken c.given-offset.result c.in-Some.id c.in-Some-inner_data.content.now kept.taken
    c.tell_inner.ensures.joiner c.given-offset.ensures (rw kept.joiner c.in-Some.ensures)
    (λ history session.
    rw c.in-Some-inner_data.ensures.bytes
    (c.pass_inner-in-Err.ensures.gives c.in-Some.id history session
    c.in-Some-inner_data.ensures.is))
    (Err c.in-Err.fault) c.in-Err.ensures.gives
