use Rattle.std.proofs.Common.{◌<◌, arith}
use Rattle.link_wire.specs.{Session.source_of, Stream.reading_of}
use Rattle.link_run.specs.Reading.{feed_of}
use Rattle.link_run.proofs.{Sessions.data_ended, Stands.settled, Waiting.waits_then}
use Rattle.link_run_over_transfers.proofs.{Steps.ready_step, Texts.{by_reading, told_of-reading, stop_is, some_to_come}}
use Rattle.link_run_over_transfers.proofs.walk.Walker.take_data.Goals as goal

pub returns-in-Err-clause-gives : goal.returns-in-Err-clause-gives
returns-in-Err-clause-gives g c = record {
  holds = λ start history at walks.
      let telling = g.C.Consumer.telling c.args.options.now in
      data_ended (by_reading telling) (told_of-reading telling) (feed_of c.args.input.now)
      (feed_of c.load_data.new.self) c.args.writers.now c.load_data.new.writers c.end.new.self at
      walks.session_at c.args.piece (stop_is telling (reading_of history) walks.at.unrefused)
      c.in-Err.stop _ (c.in-Err.ensures.gives history walks.session_at) c.end.ensures;
  waits = λ history walks. c.in-Err.ensures.waits history walks.session_at;
}

pub returns-in-Ok-clause-gives : goal.returns-in-Ok-clause-gives
returns-in-Ok-clause-gives g c = record {
  holds = λ start history at walks.
      let mid = c.load_data.new.writers in
      let both = c.in-Ok.ensures.gives history walks.session_at in
      let ready = both.1.some (some_to_come walks (λ e. cc)) in
      let some : 0 < c.min.result = omega (arith, ready, c.requires.piece, c.min.ensures) in
      ready_step mid
      (settled (source_of (feed_of c.args.input.now)) c.args.writers.now mid at both.0) walks both.1
      c.min.result c.args.piece _ c.take_loaded.new.writers _ _ c.take_loaded.result some
      (omega (arith, c.min.ensures)) ((c.take_loaded.ensures.gives some).holds start history);
  waits = λ history walks.
      waits_then c.args.writers.now {old = c.args.input.now}
      (c.in-Ok.ensures.waits history walks.session_at) c.take_loaded.ensures.unread;
}
