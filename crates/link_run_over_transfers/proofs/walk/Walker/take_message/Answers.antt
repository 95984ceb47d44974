use Rattle.std.proofs.Common.{◌≡◌, ◌++◌, Some, Ok, Err, ap, sym, ◌∙◌, ⊎_elim}
use Rattle.std.proofs.lemmas.Bool.{cases_Bool}
use Rattle.link_wire.specs.{MessageBuffer.message_of, Session.source_of}
use Rattle.link_wire.specs.Stream.{reading_of, cut_heads}
use Rattle.link_transfer.specs.{Event.event_of, Order.{effect_of, judged_message}}
use Rattle.link_run.specs.Reading.{feed_of}
use Rattle.link_run.proofs.{Sessions.message_ended, Stands.settled}
use Rattle.link_run_over_transfers.specs.{Walk.{Walked, walked}, WalkRun.stage_by}
use Rattle.link_run_over_transfers.specs.declared.walk.Stage.TheVariants as stage
use Rattle.link_run_over_transfers.proofs.Comes.{at_clean, told_at, head_refused}
use Rattle.link_run_over_transfers.proofs.Judgements.{accepted, refused_for}
use Rattle.link_run_over_transfers.proofs.Steps.{finished, refused, come_at, head_come, told_step, waits_after}
use Rattle.link_run_over_transfers.proofs.Texts.{by_reading, told_of-reading, same_texts, told_stays}
use Rattle.link_run_over_transfers.proofs.walk.Walker.take_message.Goals as goal

pub returns-in-Ok-None-clause-gives : goal.returns-in-Ok-None-clause-gives
returns-in-Ok-None-clause-gives g c = record {
  holds = λ start history at walks.
      let telling = g.C.Consumer.telling c.args.options.now in
      let old = feed_of c.args.input.now in
      let mid = c.next_message.new.writers in
      let had = walked telling.manner (reading_of history) in
      let both = rw c.in-Ok-None.field-0-is at
      (c.in-Ok-None.ensures.gives history walks.session_at) in
      finished telling old (feed_of c.next_message.new.self) mid
      (settled (source_of old) c.args.writers.now mid at both.0) c.finish.new.writers
      walks.at.unrefused both.1 c.finish.result
      (c.finish.ensures.gives had.taken had.events walks.at.judges walks.at.known walks.at.opened);
  waits = λ history walks. c.in-Ok-None.ensures.waits history walks.session_at;
}

pub returns-in-Err-clause-gives : goal.returns-in-Err-clause-gives
returns-in-Err-clause-gives g c = record {
  holds = λ start history at walks.
      let telling = g.C.Consumer.telling c.args.options.now in
      message_ended (by_reading telling) (told_of-reading telling) (feed_of c.args.input.now)
      (feed_of c.next_message.new.self) c.args.writers.now c.next_message.new.writers c.end.new.self
      at walks.session_at
      (same_texts telling (reading_of history) walks.at.unrefused
      (ap cut_heads (at_clean (told_at walks.at))))
      c.in-Err.stop _ (c.in-Err.ensures.gives history walks.session_at) c.end.ensures;
  waits = λ history walks. c.in-Err.ensures.waits history walks.session_at;
}

pub returns-in-Ok-clause-gives : goal.returns-in-Ok-clause-gives
returns-in-Ok-clause-gives g c = record {
  holds = λ start history at walks.
      let telling = g.C.Consumer.telling c.args.options.now in
      let knows = g.C.Consumer.knows c.args.options.now in
      let old = feed_of c.args.input.now in
      let mid = c.next_message.new.writers in
      let message = c.next_message.new.message in
      let sent = message_of message in
      let had = walked telling.manner (reading_of history) in
      let both = rw c.in-Ok-Some.field-0-is at
      (c.in-Ok-Some.ensures.gives history walks.session_at) in
      let event = c.of_fields.ensures message.node message.items in
      let judged : judged_message had.taken (event_of sent) ≡ Ok c.in-Ok.turn =
      ap (judged_message had.taken) (sym event)
      ∙ sym (c.in-Ok.ensures.judged had.taken walks.at.judges) in
      let may = accepted had.taken sent c.in-Ok.turn judged in
      let told = c.tell_head.ensures.gives had.taken had.events (sym may.0) (sym may.1)
      walks.at.known walks.at.opened in
      let got = both.1 in
      rw told.1
      (told_step knows old mid (settled (source_of old) c.args.writers.now mid at both.0) got.takes
      got.some
      (head_come (come_at walks) got c.tell_head.new.self.joiner (λ stops. may.0)
      (rw (c.tell_head.ensures.joiner, may.2)
      (c.in-Ok.ensures.accepted had.taken sent (sym event) walks.at.judges)) _
      (ap (stage_by (effect_of had.taken (event_of sent))) got.left))
      c.tell_head.new.writers c.tell_head.new.self.consumer 4096 stage.Message got.size
      (waits_after c.in-Ok-Some.offset sent (reading_of history) _ got.reading) told.0 told.2);
  waits = λ history walks. c.in-Ok-Some.ensures.waits history walks.session_at;
}

pub returns-in-Err-event-clause-gives : goal.returns-in-Err-event-clause-gives
returns-in-Err-event-clause-gives g c = record {
  holds = λ start history at walks.
      let telling = g.C.Consumer.telling c.args.options.now in
      let knows = g.C.Consumer.knows c.args.options.now in
      let old = feed_of c.args.input.now in
      let mid = c.next_message.new.writers in
      let message = c.next_message.new.message in
      let sent = message_of message in
      let had = walked telling.manner (reading_of history) in
      let fault = c.in-Err-event.fault in
      let both = rw c.in-Ok-Some.field-0-is at
      (c.in-Ok-Some.ensures.gives history walks.session_at) in
      let got = both.1 in
      let stood = settled (source_of old) c.args.writers.now mid at both.0 in
      let event = c.of_fields.ensures message.node message.items in
      let judged : judged_message had.taken (event_of sent) ≡ Err fault =
      ap (judged_message had.taken) (sym event)
      ∙ sym (c.in-Err-event.ensures.judged had.taken walks.at.judges) in
      let why = refused_for had.taken (event_of sent) fault judged in
      ⊎_elim
      (λ goes.
      let told = c.take_refused.ensures.goes_on had.taken had.events goes
      (rw c.in-Err-event.ensures.refused walks.at.judges) why walks.at.known walks.at.opened in
      rw told.1.1
      (told_step knows old mid stood got.takes got.some
      (head_come (come_at walks) got c.take_refused.new.self.joiner
      (λ stops. let bad = sym goes ∙ stops in absurd (cc)) told.0 _
      (ap (stage_by (effect_of had.taken (event_of sent))) got.left))
      c.take_refused.new.writers c.take_refused.new.self.consumer 4096 stage.Message got.size
      (waits_after c.in-Ok-Some.offset sent (reading_of history) _ got.reading) told.1.0 told.1.2))
      (λ stops.
      let is : walked telling.manner (reading_of (history ++ got.given))
      ≡ record had { refused = Some (c.in-Ok-Some.offset, fault) } =
      ap (walked telling.manner) got.reading
      ∙ head_refused telling c.args.self.now.joiner (told_at walks.at) c.in-Ok-Some.offset sent
      fault stops why in
      let ended = c.take_refused.ensures.stops stops in
      rw ended.1
      (refused telling old (feed_of c.next_message.new.self) mid stood c.take_refused.new.writers
      walks.at.unrefused got (ap cut_heads (at_clean (told_at walks.at))) fault is
      (λ more. told_stays telling (history ++ got.given) more c.in-Ok-Some.offset fault
      (ap (λ (w : Walked). w.refused) is))
      ended.0 ended.2))
      (cases_Bool telling.manner.goes_on);
  waits = λ history walks. c.in-Ok-Some.ensures.waits history walks.session_at;
}
