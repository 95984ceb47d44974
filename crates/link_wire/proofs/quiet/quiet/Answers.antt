use Rattle.std.proofs.Common.{arith}
use Rattle.link_wire.proofs.Wholes.{begin_more}
use Rattle.link_wire.proofs.quiet.quiet.Goals as goal

pub loop-next-preserved : goal.loop-next-preserved
loop-next-preserved c =
    let begun = c.loop-next.invariant.next (omega arith) in
    record {
      at = begun;
      next = λ within. begin_more c.args.window.now c.loop-next.next c.quiet_size.result
          (omega arith) c.quiet_size.ensures.size begun within;
    }
