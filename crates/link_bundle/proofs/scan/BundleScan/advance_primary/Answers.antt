use Rattle.std.proofs.{Common.{refl, sym, ◌∙◌, ◌+◌, append-nil, take, true, arith}, lemmas.List.length-take-le}
use Rattle.link_bundle.specs.Left.{primary_of}
use Rattle.link_bundle_blocks.specs.Whole.{whole_primary}
use Rattle.link_bundle_blocks.proofs.Beginnings.{BeginsWithPart, begins_primary, read_exactly}
use Rattle.link_bundle.proofs.{Taking.ends_part, Steps.{all_held, front_bytes}}
use Rattle.link_bundle.proofs.Wholes.{blank_at, heads_fit, primary_come, anew, advances_anew}
use Rattle.link_bundle.proofs.Verdicts.{may_at}
use Rattle.link_bundle.proofs.scan.BundleScan.advance_primary.Goals as goal
use Rattle.link_bundle.proofs.scan.BundleScan.advance_primary.Goals.{In-Ok}

-- the primary block that the piece begins with
begins : (c : In-Ok)
    → BeginsWithPart (λ read. read.1) whole_primary
    ((primary_of c.whole_primary.new.self, c.in-Ok.check), c.in-Ok.size) c.args.piece.now
begins c =
    begins_primary c.args.piece.now (primary_of c.whole_primary.new.self, c.in-Ok.check)
    c.in-Ok.size c.in-Ok.ensures.read

pub overflow_add-self : goal.overflow_add-self
overflow_add-self c =
    omega (arith, (begins (goal.at.overflow_add-self c).In-Ok).within, c.requires.may_take.room)

pub invariant_of-self : goal.invariant_of-self
invariant_of-self c =
    let now = c.args.self.now in
    let cursor = record now.cursor { count = now.cursor.count + c.in-Ok.size } in
    let draft = record c.whole_primary.new.self { check = c.in-Ok.check; whole = true } in
    record {
      fits = heads_fit cursor draft c.requires.begins
          (c.whole_primary.ensures.payload ∙ (blank_at now c.requires.stage).payload) refl;
    }

pub returns-in-Ok : goal.returns-in-Ok
returns-in-Ok c =
    let now = c.args.self.now in
    let piece = c.args.piece.now in
    let size = c.in-Ok.size in
    let at = begins (goal.at.returns-in-Ok c).In-Ok in
    let none = blank_at now c.requires.stage in
    let both = ends_part {old = now} c.requires.stage at.some at.within c.requires.begins refl refl
    (λ before seen come. rw (append-nil before)
    (primary_come (take size piece) come
    (front_bytes size piece (λ k. omega (arith, c.type_inv.piece k)))
    (rw (sym (all_held come) ∙ c.requires.begins)
    (read_exactly whole_primary (primary_of c.whole_primary.new.self, c.in-Ok.check) size piece at))
    (c.whole_primary.ensures.payload ∙ none.payload)
    (c.whole_primary.ensures.numbers ∙ none.numbers)
    refl (omega (arith, length-take-le size piece at.within)) c.requires.begins)) in
    record { advances = both.0; blocks = both.1 }

pub take_part-requires-clause-may_take : goal.take_part-requires-clause-may_take
take_part-requires-clause-may_take c =
    may_at (rw c.requires.stage refl) c.requires.may_take.some c.requires.may_take.room

pub returns-in-Err : goal.returns-in-Err
returns-in-Err c =
    let now = c.args.self.now in
    let start = c.requires.stage in
    record {
      advances = advances_anew {old = now} start start refl c.take_part.ensures.advances;
      blocks = λ seen come.
          c.take_part.ensures.blocks seen (anew {old = now} start start refl come);
    }
