use Rattle.std.proofs.Common.{inl, inr, refl}
use Rattle.link_run.specs.Run.{looks}
use Rattle.link_run.proofs.{Readings.{contact_given, on_ok}, Runs.writes_none, Waiting.wait_at}
use Rattle.link_wire.specs.Session.{source_of}
use Rattle.link_run.proofs.input.Input+Session+R+W+E.open.Goals as goal

-- the contact header is at hand
pub returns-then-not-may_wait : goal.returns-then-not-may_wait
returns-then-not-may_wait g c =
    let look = looks g.R.InDevice.state g.W.OutDevice.state g.E.OutDevice.state in
    let opened = c.open.ensures in
    let none = writes_none g.W.OutDevice.state g.E.OutDevice.state c.args.writers.now in
    record {
      opened = on_ok c.open.result opened.opened;
      may_read = on_ok c.open.result opened.may_read;
      gives = contact_given look c.args.self.now.feed c.open.new.self c.args.writers.now
          c.args.writers.now none _ opened.gives;
      waits = inl (
        refl,
        opened.unread (c.may_wait.ensures.contact c.requires c.if-not-may_wait.true),
      );
      left = opened.left;
      line = refl;
    }

pub returns-in-Ok : goal.returns-in-Ok
returns-in-Ok g c =
    let look = looks g.R.InDevice.state g.W.OutDevice.state g.E.OutDevice.state in
    let settled = c.in-Ok.ensures in
    let opened = c.open-result.ensures in
    let place = c.position_of-position.ensures in
    record {
      opened = on_ok c.open-result.result opened.opened;
      may_read = on_ok c.open-result.result opened.may_read;
      gives = contact_given look c.args.self.now.feed c.open-result.new.self c.args.writers.now
          c.settle.new.self settled.gives _ opened.gives;
      waits = inr (
        _,
        c.and-self.ensures,
        refl,
        wait_at look (source_of c.args.self.now.feed) c.args.writers.now c.settle.new.self
            c.position_of-position.result _ place.given place.ahead
            (c.may_wait.ensures.few c.if-not-may_wait.false) settled.gives settled.output
            settled.report,
      );
      left = opened.left;
      line = settled.line;
    }

pub returns-in-Err : goal.returns-in-Err
returns-in-Err g c = record {
  opened = tt;
  may_read = tt;
  gives = inr (record {
    fault = c.in-Err.fault;
    is = refl;
    unread = refl;
    few = c.may_wait.ensures.few c.if-not-may_wait.false;
    unsettled = c.in-Err.ensures.gives;
  });
  waits = inl (refl, refl);
  left = refl;
  line = c.in-Err.ensures.line;
}
