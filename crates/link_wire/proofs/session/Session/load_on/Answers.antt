use Rattle.std.proofs.Common.{◌≢◌, ◌∙◌, ap, refl, arith, length-take, rules}
use Rattle.std.proofs.lemmas.Bool.Decides.{nat_tests}
use Rattle.link_io.specs.Source.{front_of, reach}
use Rattle.link_wire.proofs.Sessions.{loaded_stands, data_cut, enough_data}
use Rattle.link_wire.proofs.session.Session.load_on.Goals as goal

pub returns-in-Ok-clause-loads : goal.returns-in-Ok-clause-loads
returns-in-Ok-clause-loads g c =
    let old = c.args.self.now in
    let least = length-take old.left (front_of g.R.InDevice.state c.ready_front.new.self) in
    record {
      size = omega (arith, c.in-Ok.ensures.size, c.min.ensures, least);
      stops_with = search rules;
      left = search rules;
      gives = λ history at.
          let ready = c.in-Ok.ensures.gives at.live in
          record {
            readies = ready.readies;
            left = refl;
            at = loaded_stands old _ history at ready.readies ready.live refl refl refl
                (omega arith);
            size = omega (arith, c.in-Ok.ensures.size, c.min.ensures, least);
            some = λ left.
                let some : c.in-Ok.ready ≢ 0 = c.in-Ok.ready-test.1 in
                omega (arith, c.min.ensures);
          };
      opened = search rules;
      here = λ some. search rules;
      none_left = λ nothing going. absurd (omega (arith, nothing, c.if-self-eq0.false));
      stopped = search rules;
    }

pub returns-in-Ok-eq0-clause-loads : goal.returns-in-Ok-eq0-clause-loads
returns-in-Ok-eq0-clause-loads g c = record {
  size = search rules;
  stops_with = search rules;
  left = search rules;
  gives = λ history at.
      let old = c.args.self.now in
      let ready = c.in-Ok-eq0.ensures.gives at.live in
      let state = c.stop_at.ensures.state in
      data_cut old c.stop_at.new.self c.ready_front.new.self history c.stop_at.result at
      ready.readies (ready.over (grind (arith, nat_tests))) (omega (arith, c.if-self-eq0.false))
      (ap (λ s. s.source) state) (ap (λ s. s.phase) state) c.stop_at.ensures.stop;
  opened = search rules;
  here = λ some. search rules;
  none_left = λ nothing going. absurd (omega (arith, nothing, c.if-self-eq0.false));
  stopped = search rules;
}

pub returns-in-Ok-clause-unread : goal.returns-in-Ok-clause-unread
returns-in-Ok-clause-unread g c = λ enough.
    (c.in-Ok.ensures.here
    (enough_data c.args.self.now.left _ (omega (arith, c.if-self-eq0.false)) enough)).unread

pub returns-in-Ok-eq0-clause-unread : goal.returns-in-Ok-eq0-clause-unread
returns-in-Ok-eq0-clause-unread g c = λ enough.
    ap (λ s. reach g.R.InDevice.state s.source) c.stop_at.ensures.state
    ∙ (c.in-Ok-eq0.ensures.here
    (enough_data c.args.self.now.left _ (omega (arith, c.if-self-eq0.false)) enough)).unread

pub returns-in-Err-clause-unread : goal.returns-in-Err-clause-unread
returns-in-Err-clause-unread g c = λ enough.
    ap (λ s. reach g.R.InDevice.state s.source) c.stop_at-in-Err.ensures.state
    ∙ (c.in-Err.ensures.here
    (enough_data c.args.self.now.left _ (omega (arith, c.if-self-eq0.false)) enough)).unread
