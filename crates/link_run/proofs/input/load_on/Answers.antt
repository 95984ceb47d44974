use Rattle.std.proofs.{Common.{refl, inl, inr, length, ap, sym, ◌∙◌, arith}, lemmas.Bool.false≢true}
use Rattle.link_wire.specs.Session.{source_of}
use Rattle.link_run.specs.Run.{looks}
use Rattle.link_run.proofs.{Readings.{data_given, input_as}, Runs.writes_none, Waiting.wait_at}
use Rattle.link_run.proofs.input.load_on.Goals as goal

-- data is at hand, or none is to come
pub returns-then-not-may_wait : goal.returns-then-not-may_wait
returns-then-not-may_wait g c =
    let look = looks g.R.InDevice.state g.W.OutDevice.state g.E.OutDevice.state in
    let load = c.load.ensures in
    let none = writes_none g.W.OutDevice.state g.E.OutDevice.state c.args.writers.now in
    record {
      size = load.loads.size;
      here = λ some. absurd (omega (arith, some, ap length c.requires));
      opened = load.loads.opened;
      gives = λ history at.
          data_given look c.args.input.now.feed c.load.new.self c.args.writers.now
          c.args.writers.now history none _ (load.loads.gives history at);
      waits = λ history at. inl (
        refl,
        load.unread (c.may_wait.ensures.here history at c.if-not-may_wait.true),
      );
      left = load.loads.left;
      line = refl;
      stopped = λ why has.
          let same = load.loads.stopped why has in
          (input_as same.0 refl, refl, same.1);
    }

pub returns-in-Ok : goal.returns-in-Ok
returns-in-Ok g c =
    let look = looks g.R.InDevice.state g.W.OutDevice.state g.E.OutDevice.state in
    let place = c.position_of-position.ensures in
    let load = c.load-result.ensures in
    let settled = c.in-Ok.ensures in
    record {
      size = load.loads.size;
      here = λ some. absurd (omega (arith, some, ap length c.requires));
      opened = load.loads.opened;
      gives = λ history at.
          data_given look c.args.input.now.feed c.load-result.new.self c.args.writers.now
          c.settle.new.self history settled.gives _ (load.loads.gives history at);
      waits = λ history at. inr (
        _,
        c.and-input.ensures,
        refl,
        wait_at look (source_of c.args.input.now.feed) c.args.writers.now c.settle.new.self
            c.position_of-position.result _ place.given place.ahead
            (c.may_wait.ensures.few c.if-not-may_wait.false) settled.gives settled.output
            settled.report,
      );
      left = load.loads.left;
      line = settled.line;
      stopped = λ why has.
          absurd (false≢true (sym (c.may_wait.ensures.stopped why has) ∙ c.if-not-may_wait.false));
    }

pub returns-in-Err : goal.returns-in-Err
returns-in-Err g c = record {
  size = tt;
  here = λ some. absurd (omega (arith, some, ap length c.requires));
  opened = λ is. is;
  gives = λ history at. inr (record {
    fault = c.in-Err.fault;
    is = refl;
    unread = refl;
    few = c.may_wait.ensures.few c.if-not-may_wait.false;
    unsettled = c.in-Err.ensures.gives;
  });
  waits = λ history at. inl (refl, refl);
  left = refl;
  line = c.in-Err.ensures.line;
  stopped = λ why has.
      absurd (false≢true (sym (c.may_wait.ensures.stopped why has) ∙ c.if-not-may_wait.false));
}
