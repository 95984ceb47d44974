use Rattle.std.proofs.Common.{[], arith}
use Rattle.link_wire.specs.Session.{source_of}
use Rattle.link_run.specs.Reading.{feed_of}
use Rattle.link_run.proofs.{Sessions.contact_ended, Stands.settled}
use Rattle.link_run_over_transfers.specs.declared.walk.Stage.TheVariants as stage
use Rattle.link_run_over_transfers.proofs.Steps.{events_at, nothing_yet, contact_come, told_step}
use Rattle.link_run_over_transfers.proofs.Texts.{by_reading, told_of-reading, before_all}
use Rattle.link_run_over_transfers.proofs.walk.Walker.open.Goals as goal

pub returns-in-Ok-clause-gives : goal.returns-in-Ok-clause-gives
returns-in-Ok-clause-gives g c = record {
  holds = λ start history at begins.
      let both = c.in-Ok.ensures.gives in
      let got = both.1 in
      let size = got.size in
      let mid = c.open.new.writers in
      let telling = g.C.Consumer.telling c.args.options.now in
      let none = nothing_yet telling in
      rw (begins.nothing, c.of.ensures)
      (told_step (g.C.Consumer.knows c.args.options.now) (feed_of c.args.input.now) mid
      (settled (source_of (feed_of c.args.input.now)) c.args.writers.now mid
      (rw (← begins.nothing) at) both.0) got.takes (omega arith)
      (contact_come telling begins.judges got) c.event.new.writers c.event.new.self 4096
      stage.Contact (omega arith) tt c.event.result
      (c.event.ensures (events_at telling []) (rw none begins.known) none));
  waits = λ history begins. c.in-Ok.ensures.waits;
}

pub returns-in-Err-clause-gives : goal.returns-in-Err-clause-gives
returns-in-Err-clause-gives g c = record {
  holds = λ start history at begins.
      let telling = g.C.Consumer.telling c.args.options.now in
      rw begins.nothing
      (contact_ended (by_reading telling) (told_of-reading telling) (feed_of c.args.input.now)
      (feed_of c.open.new.self) c.args.writers.now c.open.new.writers c.end.new.self
      (rw (← begins.nothing) at)
      (before_all telling) c.in-Err.stop _ c.in-Err.ensures.gives c.end.ensures);
  waits = λ history begins. c.in-Err.ensures.waits;
}
