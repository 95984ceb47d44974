use Rattle.std.proofs.Common.{arith}
use Rattle.link_run_over_transfers.proofs.Strides.{most_some, stride_kept, stride_of}
use Rattle.link_run_over_transfers.proofs.walk.WalkStagesSession.stride.Goals as goal

pub returns-in-Message-clause-gives : goal.returns-in-Message-clause-gives
returns-in-Message-clause-gives g c =
    rw (c.keep.ensures.progress, c.keep.ensures.kept, c.in-Message.is)
    (stride_kept c.stride_message-next.result c.stride_message-next.ensures.gives)

pub returns-clause-gives : goal.returns-clause-gives
returns-clause-gives g c =
    rw (c.keep-2.ensures.progress, c.keep-2.ensures.kept)
    (stride_kept c.advance-next.result
    (stride_of c.advance-next.ensures.gives
    (most_some 18446744073709551615 c.args.self.now.stage (omega arith))))
