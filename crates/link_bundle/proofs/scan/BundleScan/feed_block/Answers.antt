use Rattle.std.proofs.Common.{sym, ◌∙◌, length-drop, arith}
use Rattle.std.proofs.lemmas.List.{take_rest}
use Rattle.link_bundle.proofs.Taking.{fed_on, adds_on, no_ending}
use Rattle.link_bundle.proofs.scan.BundleScan.feed_block.Goals as goal

pub loop-taken-init : goal.loop-taken-init
loop-taken-init c =
    let first = c.advance_block-taken.ensures in
    record { some = first.advances.some; fed = assumption first.advances; blocks = first.blocks }

pub advance_part-taken-requires-clause-may_take : goal.advance_part-taken-requires-clause-may_take
advance_part-taken-requires-clause-may_take c =
    let size = length-drop c.loop-taken.taken c.args.piece.now in
    record {
      goes = λ seen come. sym (c.going.ensures.seen seen come) ∙ c.if-going.true;
      some = omega (arith, size);
      room = omega (arith, size, c.loop-taken.invariant.fed.size, c.requires.may_take.room);
    }

pub loop-taken-preserved : goal.loop-taken-preserved
loop-taken-preserved c =
    let piece = c.args.piece.now in
    let taken = c.loop-taken.taken in
    let so_far = c.loop-taken.invariant in
    let next = rw (take_rest piece taken) at c.advance_part-taken.ensures in
    record {
      some = omega (arith, so_far.some);
      fed = fed_on c.args.self.now c.loop-taken.self c.advance_part-taken.new.self piece taken _
          so_far.fed next.advances;
      blocks = adds_on c.args.self.now c.loop-taken.self c.advance_part-taken.new.self piece
          taken _ so_far.fed
          (no_ending c.loop-taken.self (sym c.if-not-ends_block.true ∙ c.ends_block.ensures))
          so_far.blocks next.blocks;
    }
