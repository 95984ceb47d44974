use Rattle.std.proofs.Common.{◌≡◌, ◌<◌, List, ℕ, length, take, None, Ok, refl, arith, length-take}
use Rattle.link_wire.specs.{Session.{source_of, data_in}, Stream.reading_of}
use Rattle.link_run.specs.Reading.{feed_of}
use Rattle.link_run.proofs.{Sessions.data_ended, Stands.settled, Waiting.waits_then}
use Rattle.link_run.specs.declared.next.Next.TheVariants as next
use Rattle.link_run_over_transfers.specs.declared.walk.Stage.TheVariants as stage
use Rattle.link_run_over_transfers.proofs.Steps.{events_at, come_at, data_come, told_step, ready_step}
use Rattle.link_run_over_transfers.proofs.Tellings.{tells_none}
use Rattle.link_run_over_transfers.proofs.Texts.{by_reading, told_of-reading, stop_is, some_to_come}
use Rattle.link_run_over_transfers.proofs.walk.Walker.pass_stray.Goals as goal

pub returns-in-Err-clause-gives : goal.returns-in-Err-clause-gives
returns-in-Err-clause-gives g c = λ options walker. record {
  holds = λ start history at walks.
      let telling = g.C.Consumer.telling options in
      data_ended (by_reading telling) (told_of-reading telling) (feed_of c.args.input.now)
      (feed_of c.load_data.new.self) c.args.writers.now c.load_data.new.writers c.end.new.self at
      walks.session_at c.args.piece (stop_is telling (reading_of history) walks.at.unrefused)
      c.in-Err.stop _ (c.in-Err.ensures.gives history walks.session_at) c.end.ensures;
  waits = λ history walks. c.in-Err.ensures.waits history walks.session_at;
}

pub returns-clause-gives : goal.returns-clause-gives
returns-clause-gives g c = λ options walker. record {
  holds = λ start history at walks.
      let look = g.R.InDevice.state in
      let telling = g.C.Consumer.telling options in
      let knows = g.C.Consumer.knows options in
      let mid = feed_of c.load_data.new.self in
      let writers = c.load_data.new.writers in
      let both = c.in-Ok.ensures.gives history walks.session_at in
      let got = both.1 in
      let bytes : List ℕ = take c.min-size.result (data_in look mid) in
      let size : length bytes ≡ c.min-size.result =
      omega (
        arith,
        got.size,
        c.min-size.ensures,
        length-take c.min-size.result (data_in look mid),
      ) in
      let ready = got.some (some_to_come walks (λ e. cc)) in
      let some : 0 < length bytes =
      omega (arith, size, ready, c.min-size.ensures, c.requires.piece) in
      let gave = c.pass.ensures.gives history got.at in
      rw (c.stage_by.ensures, c.left.ensures.left)
      (ready_step writers
      (settled (source_of (feed_of c.args.input.now)) c.args.writers.now writers at both.0) walks
      got (length bytes) c.args.piece _ writers _ _ (next.Stage _) some
      (omega (arith, size, c.min-size.ensures))
      (λ stands loaded.
      told_step knows mid writers stands gave.takes some
      (data_come None (come_at loaded) gave refl some) writers walker.consumer (length bytes)
      stage.Stray (omega arith) tt (Ok tt)
      (tells_none g.W.OutDevice.state g.E.OutDevice.state telling (knows walker.consumer)
      (events_at telling history) writers walks.at.known)));
  waits = λ history walks.
      waits_then c.args.writers.now {old = c.args.input.now}
      (c.in-Ok.ensures.waits history walks.session_at) c.pass.ensures.unread;
}
