use Rattle.std.proofs.Common.{refl, sym, inl}
use Rattle.link_run.proofs.Runs.{writes_none}
use Rattle.link_run.proofs.input.Input+Session+R+W+E.next_message.Goals as goal

pub returns-in-Some : goal.returns-in-Some
returns-in-Some g c =
    let here = c.in-Some.ensures in
    record {
      opened = here.opened;
      gives = λ history at.
          let none = writes_none g.W.OutDevice.state g.E.OutDevice.state c.args.writers.now in
          (none, here.gives history at);
      waits = λ history at. inl (refl, here.unread);
      totals = here.totals;
      left = tt;
      line = refl;
      stopped = λ why has. absurd (cc (here.stopped why has));
    }

pub returns-in-None : goal.returns-in-None
returns-in-None g c = rw (sym (c.in-None.ensures.none refl).0) c.read_message.ensures
