use Rattle.std.proofs.Common.{refl, inl, inr, ap, sym, ◌∙◌}
use Rattle.std.proofs.lemmas.Bool.{false≢true}
use Rattle.link_wire.specs.Session.{source_of}
use Rattle.link_run.specs.Run.{looks}
use Rattle.link_run.proofs.{Readings.{message_given, input_as}, Runs.writes_none, Waiting.wait_at}
use Rattle.link_run.proofs.input.read_message.Goals as goal

pub returns-in-Some : goal.returns-in-Some
returns-in-Some g c =
    let ahead = c.in-Some.ensures in
    record {
      opened = ahead.opened;
      gives = λ history at.
          let none = writes_none g.W.OutDevice.state g.E.OutDevice.state c.args.writers.now in
          (none, ahead.gives history at);
      waits = λ history at. inl (refl, ahead.unread);
      totals = ahead.totals;
      left = tt;
      line = refl;
      stopped = λ why has. absurd (cc (ahead.stopped why has));
    }

-- the head is at hand
pub returns-then-not-may_wait : goal.returns-then-not-may_wait
returns-then-not-may_wait g c =
    let look = looks g.R.InDevice.state g.W.OutDevice.state g.E.OutDevice.state in
    let same = (c.next_ahead.ensures.none c.in_default.is).0 in
    let wait = rw same at c.may_wait.ensures in
    let read = rw same at c.next_fields.ensures in
    let none = writes_none g.W.OutDevice.state g.E.OutDevice.state c.args.writers.now in
    record {
      opened = read.reads.opened;
      gives = λ history at.
          message_given look c.args.input.now.feed c.next_fields.new.self c.args.writers.now
          c.args.writers.now history none _ (read.reads.gives history at);
      waits = λ history at. inl (
        refl,
        read.unread history at (wait.here history at c.if-not-may_wait.true),
      );
      totals = read.reads.totals;
      left = read.reads.left;
      line = refl;
      stopped = λ why has.
          let again = read.reads.stopped why has in
          (input_as again.0 refl, refl, again.1);
    }

pub returns-in-Ok : goal.returns-in-Ok
returns-in-Ok g c =
    let look = looks g.R.InDevice.state g.W.OutDevice.state g.E.OutDevice.state in
    let same = (c.next_ahead.ensures.none c.in_default.is).0 in
    let wait = rw same at c.may_wait.ensures in
    let place = rw same at c.position_of-position.ensures in
    let read = rw same at c.next_fields-result.ensures in
    let settled = c.in-Ok.ensures in
    record {
      opened = read.reads.opened;
      gives = λ history at.
          message_given look c.args.input.now.feed c.next_fields-result.new.self
          c.args.writers.now c.settle.new.self history settled.gives _
          (read.reads.gives history at);
      waits = λ history at. inr (
        _,
        c.and-input.ensures,
        refl,
        wait_at look (source_of c.args.input.now.feed) c.args.writers.now c.settle.new.self
            c.position_of-position.result _ place.given place.ahead
            (wait.few c.if-not-may_wait.false) settled.gives settled.output settled.report,
      );
      totals = read.reads.totals;
      left = read.reads.left;
      line = settled.line;
      stopped = λ why has.
          absurd (false≢true (sym (wait.stopped why has) ∙ c.if-not-may_wait.false));
    }

pub returns-in-Err : goal.returns-in-Err
returns-in-Err g c =
    let same = (c.next_ahead.ensures.none c.in_default.is).0 in
    let wait = rw same at c.may_wait.ensures in
    let opened = rw same at c.next_ahead.ensures.opened in
    rw same (record {
      opened = opened;
      gives = λ history at. inr (record {
        fault = c.in-Err.fault;
        is = refl;
        unread = refl;
        few = wait.few c.if-not-may_wait.false;
        unsettled = c.in-Err.ensures.gives;
      });
      waits = λ history at. inl (refl, refl);
      totals = tt;
      left = refl;
      line = c.in-Err.ensures.line;
      stopped = λ why has.
          absurd (false≢true (sym (wait.stopped why has) ∙ c.if-not-may_wait.false));
    })
