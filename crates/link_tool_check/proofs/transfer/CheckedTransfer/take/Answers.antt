use Rattle.std.proofs.Common.{length-append, arith}
use Rattle.link_run_over_bundle_files.proofs.Told.{told_known}
use Rattle.link_tool_check.proofs.transfer.CheckedTransfer.take.Goals as goal

pub returns-clause-gives : goal.returns-clause-gives
returns-clause-gives g c = λ begun room checks.
    told_known (c.take.ensures.gives begun.content (omega (arith, checks.judging.size))
    checks.judging.judged checks.reading)
    (λ known. record {
      offset = checks.offset;
      opening = checks.opening;
      judging = record {
        id = checks.judging.id;
        announced = checks.judging.announced;
        size = omega (arith, checks.judging.size, length-append begun.content c.args.bytes.now);
        judged = known.0;
      };
      reading = known.1;
    })
