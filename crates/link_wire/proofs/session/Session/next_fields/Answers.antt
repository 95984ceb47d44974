use Rattle.std.proofs.Common.{◌≡◌, length, Ok, Err, refl, ◌∙◌, ap, rules}
use Rattle.link_io.specs.Source.{reach}
use Rattle.link_wire.proofs.Sessions.{none_left, message_came, message_refused, message_unread, enough_head}
use Rattle.link_wire.proofs.session.Session.next_fields.Goals as goal

pub returns-in-Ok-clause-reads : goal.returns-in-Ok-clause-reads
returns-in-Ok-clause-reads g c = record {
  stops_with = search rules;
  left = search rules;
  again = λ ended.
      absurd (cc (c.in-Ok-Some.field-0-is, (c.in-Ok-Some.ensures.ended ended.1).1));
  gives = λ history at.
      let old = c.args.self.now in
      let first = rw c.in-Ok-Some.field-0-is at (c.in-Ok-Some.ensures.gives at.live) in
      let hand = rw c.in-Ok-Some.field-0-is at c.in-Ok-Some.ensures.here in
      let here : c.given-offset.result ≡ length history = c.given-offset.ensures ∙ at.at.given in
      rw here (message_came old history at (none_left old at.going c.requires) first hand _ _
      (c.in-Ok.ensures.gets first.live) refl c.data_length-self.ensures at.going);
  totals = search rules;
  opened = search rules;
  stopped = search rules;
}

pub returns-in-Err-fields-clause-reads : goal.returns-in-Err-fields-clause-reads
returns-in-Err-fields-clause-reads g c = record {
  stops_with = search rules;
  left = search rules;
  again = λ ended.
      absurd (cc (c.in-Ok-Some.field-0-is, (c.in-Ok-Some.ensures.ended ended.1).1));
  gives = λ history at.
      let old = c.args.self.now in
      let first = rw c.in-Ok-Some.field-0-is at (c.in-Ok-Some.ensures.gives at.live) in
      let hand = rw c.in-Ok-Some.field-0-is at c.in-Ok-Some.ensures.here in
      let here : c.given-offset.result ≡ length history = c.given-offset.ensures ∙ at.at.given in
      let state = c.stop_at-in-Err-fields.ensures.state in
      message_refused old history at (none_left old at.going c.requires) first hand
      c.stop_at-in-Err-fields.new.self _ c.in-Err-fields.halt _ _
      (c.in-Err-fields.ensures.gets first.live) (ap (λ s. s.source) state)
      (ap (λ s. s.phase) state) c.stop_at-in-Err-fields.ensures.stop here;
  totals = search rules;
  opened = search rules;
  stopped = search rules;
}

-- ---- if the bytes at hand are enough, nothing is read

pub returns-in-Ok-None-clause-unread : goal.returns-in-Ok-None-clause-unread
returns-in-Ok-None-clause-unread g c = λ history at enough.
    c.in-Ok-None.ensures.unread
    (enough_head g.R.InDevice.state c.args.self.now
    (none_left c.args.self.now at.going c.requires) enough)

pub returns-in-Err-clause-unread : goal.returns-in-Err-clause-unread
returns-in-Err-clause-unread g c = λ history at enough.
    ap (λ s. reach g.R.InDevice.state s.source) c.stop_at.ensures.state
    ∙ c.in-Err.ensures.unread
    (enough_head g.R.InDevice.state c.args.self.now
    (none_left c.args.self.now at.going c.requires) enough)

pub returns-in-Ok-clause-unread : goal.returns-in-Ok-clause-unread
returns-in-Ok-clause-unread g c = λ history at enough.
    let old = c.args.self.now in
    let first = rw c.in-Ok-Some.field-0-is at (c.in-Ok-Some.ensures.gives at.live) in
    let hand = rw c.in-Ok-Some.field-0-is at c.in-Ok-Some.ensures.here in
    message_unread old history at (none_left old at.going c.requires) first hand _ (Ok _)
    (c.in-Ok.ensures.gets first.live) enough

pub returns-in-Err-fields-clause-unread : goal.returns-in-Err-fields-clause-unread
returns-in-Err-fields-clause-unread g c = λ history at enough.
    let old = c.args.self.now in
    let first = rw c.in-Ok-Some.field-0-is at (c.in-Ok-Some.ensures.gives at.live) in
    let hand = rw c.in-Ok-Some.field-0-is at c.in-Ok-Some.ensures.here in
    ap (λ s. reach g.R.InDevice.state s.source) c.stop_at-in-Err-fields.ensures.state
    ∙ message_unread old history at (none_left old at.going c.requires) first hand _
    (Err c.in-Err-fields.halt) (c.in-Err-fields.ensures.gets first.live) enough
