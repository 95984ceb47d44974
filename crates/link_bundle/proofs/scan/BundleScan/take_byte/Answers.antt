use Rattle.std.proofs.Common.{arith}
use Rattle.link_bundle.proofs.Verdicts.{may_at, still_going}
use Rattle.link_bundle.proofs.scan.BundleScan.take_byte.Goals as goal

pub advance_part-requires-clause-may_take : goal.advance_part-requires-clause-may_take
advance_part-requires-clause-may_take c =
    may_at (still_going c.args.self.now.stage c.requires.may_step c.in_default.not-Ended)
    (omega arith) (omega arith)
