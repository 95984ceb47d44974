use Rattle.std.proofs.Common.{rules}
use Rattle.link_bundle.proofs.Taking.{advances_by, one_taken}
use Rattle.link_bundle.proofs.scan.BundleScan.advance_part.Goals as goal

pub returns-in-BlockData : goal.returns-in-BlockData
returns-in-BlockData c =
    let taken = rw c.first_bytes-run.ensures.run at c.data_run.ensures.taken in
    record {
      advances = advances_by (search rules) (search rules) c.data_run.ensures.may_step taken;
      blocks = taken.blocks;
    }

pub returns-in-Ended-clause-advances : goal.returns-in-Ended-clause-advances
returns-in-Ended-clause-advances c =
    one_taken c.args.self.now c.trailing_byte.new.self c.args.piece.now c.requires.may_take
    c.trailing_byte.ensures
