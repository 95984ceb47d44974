use Rattle.std.proofs.Common.{refl, arith}
use Rattle.link_bundle.specs.Left.{bundle_of}
use Rattle.link_bundle_blocks.specs.Bundle.{Bundle, bundle_at}
use Rattle.link_bundle_blocks.proofs.Beginnings.{BeginsWithPart, begins_bundle}
use Rattle.link_bundle.proofs.Wholes.{whole_taken, advances_anew}
use Rattle.link_bundle.proofs.Steps.{slice_bytes}
use Rattle.link_bundle.proofs.Verdicts.{may_at}
use Rattle.link_bundle.proofs.scan.BundleScan.advance_start.Goals as goal
use Rattle.link_bundle.proofs.scan.BundleScan.advance_start.Goals.{In-Ok}

-- the bundle that the piece begins with
bundle : In-Ok → Bundle
bundle c = record (bundle_of c.whole.new.self c.in-Ok.size) { blocks = c.in-Ok.ensures.read.0 }

begins : (c : In-Ok) → BeginsWithPart (λ bundle. bundle.length) bundle_at (bundle c) c.args.piece.now
unfolding bundle
begins c = begins_bundle (bundle c) c.args.piece.now c.in-Ok.ensures.read.1

pub overflow_add-self : goal.overflow_add-self
unfolding bundle
overflow_add-self c = omega (arith, (begins c).within)

pub returns-in-Ok : goal.returns-in-Ok
unfolding bundle
returns-in-Ok c =
    whole_taken {old = c.args.self.now} c.requires.stage c.requires.begins
    (slice_bytes c.args.piece.now (λ k. omega (arith, c.type_inv.piece k)))
    (begins (goal.at.returns-in-Ok c).In-Ok) c.in-Ok.ensures.primary c.in-Ok.ensures.whole refl refl
    c.requires.begins

pub take_part-requires-clause-may_take : goal.take_part-requires-clause-may_take
take_part-requires-clause-may_take c =
    may_at (rw c.requires.stage refl) c.requires.may_take.some c.requires.may_take.room

pub returns-in-Err : goal.returns-in-Err
returns-in-Err c =
    advances_anew {old = c.args.self.now} c.requires.stage c.requires.stage refl
    c.take_part.ensures.advances
