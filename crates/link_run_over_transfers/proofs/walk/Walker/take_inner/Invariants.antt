use Rattle.std.proofs.Common.{◌≡◌, [], length}
use Rattle.std.specs.Prelude.{IsTrue}
use Rattle.link_wire.specs.{Session.{source_of, may_read}, Source.window_of}
use Rattle.link_run.specs.{Reading.{feed_of, ReadsNothing}, Run.looks}
use Rattle.link_run.specs.declared.next.Next.TheVariants as next
use Rattle.link_run_over_transfers.specs.declared.walk.Stage.TheVariants as stage
use Rattle.link_run_over_transfers.specs.WalkRun.{TakesMessages, at}
use Rattle.link_run_over_transfers.proofs.walk.Walker.take_inner.Given as goal

-- some inner segments were taken, and their data was told; nothing was read
abbrev pub invariant-segments : goal.invariant-segments
invariant-segments g l =
    let look = looks g.R.InDevice.state g.W.OutDevice.state g.E.OutDevice.state in
    record {
      fits : IsTrue (may_read (feed_of l.input));
      items : l.self.message.items.items ≡ [];
      joiner : l.self.joiner ≡ l.fn.self.joiner;
      unread : ReadsNothing look.input source_of l.fn.input l.input;
      taken : TakesMessages look (g.C.Consumer.telling l.fn.options) (g.C.Consumer.knows l.fn.options)
          (at l.fn.input l.fn.writers l.fn.self) (at l.input l.writers l.self)
          (next.Stage stage.Message);
    }

abbrev pub decreases-segments : goal.decreases-segments
decreases-segments g l = length (window_of (source_of (feed_of l.input)))
