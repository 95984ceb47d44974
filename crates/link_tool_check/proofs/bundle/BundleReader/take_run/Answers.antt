use Rattle.std.proofs.Common.{refl, sym, arith}
use Rattle.link_run_over_bundle_files.proofs.Told.{told_known}
use Rattle.link_tool_check.proofs.bundle.BundleReader.take_run.Goals as goal

pub returns-clause-gives : goal.returns-clause-gives
returns-clause-gives g c = λ limit before reads comes.
    told_known (c.tell_run.ensures.gives before.begun (sym comes.placed) comes.opened.goes
    comes.scanned (comes.blocks refl) reads.reading reads.history)
    (λ known. record {
      reading = known.0;
      history = known.1;
      walked = c.take.ensures before.begun (omega (arith, comes.few)) reads.walked;
      begins = c.take-2.ensures before.begun reads.begins;
    })
