use Rattle.std.proofs.Common.{length-append, arith}
use Rattle.link_run_over_bundle_files.proofs.Told.{told_known}
use Rattle.link_tool_check.proofs.bundle.BundleReader.take.Goals as goal

pub returns-clause-gives : goal.returns-clause-gives
returns-clause-gives g c = λ content same judged reads.
    told_known (c.tell_piece.ensures.gives content same judged reads.reading reads.history)
    (λ known. (
      known.0,
      record {
        reading = known.1;
        history = known.2;
        walked = c.take.ensures content (omega (arith, same, length-append content c.args.piece.now))
            reads.walked;
        begins = c.take-2.ensures content reads.begins;
      },
    ))
