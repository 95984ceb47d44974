use Rattle.std.proofs.Common.{◌≡◌, ◌+◌, None, refl, ap, ◌∙◌, take, arith}
use Rattle.std.proofs.lemmas.List.{length-take-le}
use Rattle.link_bundle_blocks.specs.Whole.{whole_canonical, moved}
use Rattle.link_bundle_blocks.proofs.Beginnings.{BeginsWithPart, begins_block, data_begins, read_exactly}
use Rattle.link_bundle.specs.Left.{with_block}
use Rattle.link_bundle.proofs.{Steps.front_bytes, Taking.ends_part}
use Rattle.link_bundle.proofs.BlockStages.{after_block-fits, goes_after}
use Rattle.link_bundle.proofs.Wholes.{canonical_come, open_at, has_new}
use Rattle.link_bundle.proofs.scan.BundleScan.advance_canonical.Goals as goal
use Rattle.link_bundle.proofs.scan.BundleScan.advance_canonical.Goals.{In-Ok}

-- the block that the piece begins with
begins : (c : In-Ok)
    → BeginsWithPart (λ read. read.1) (λ bytes. whole_canonical c.args.self.now.draft.numbers bytes 0)
    (c.in-Ok.block, c.in-Ok.size) c.args.piece.now
begins c =
    begins_block c.args.self.now.draft.numbers c.args.piece.now c.in-Ok.block c.in-Ok.size
    c.in-Ok.ensures.read

pub moved-requires-clause-data : goal.moved-requires-clause-data
moved-requires-clause-data c =
    omega (
      arith,
      c.requires.may_take.room,
      (begins (goal.at.moved-requires-clause-data c).In-Ok).within,
      data_begins c.args.self.now.draft.numbers c.args.piece.now 0 c.in-Ok.block c.in-Ok.size
          c.in-Ok.ensures.read,
    )

pub overflow_add-self : goal.overflow_add-self
overflow_add-self c =
    omega (arith, (begins (goal.at.overflow_add-self c).In-Ok).within, c.requires.may_take.room)

pub invariant_of-self : goal.invariant_of-self
invariant_of-self c =
    let now = c.args.self.now in
    let cursor = record now.cursor { count = now.cursor.count + c.in-Ok.size } in
    record {
      fits = rw c.after_block-self.ensures
          (after_block-fits cursor c.keep_block.new.self c.requires.begins
          (rw c.keep_block.ensures
          (has_new now.draft c.moved.result (open_at now c.requires.stage).1)));
    }

pub returns-in-Ok : goal.returns-in-Ok
returns-in-Ok c =
    let now = c.args.self.now in
    let piece = c.args.piece.now in
    let size = c.in-Ok.size in
    let at = begins (goal.at.returns-in-Ok c).In-Ok in
    let known = open_at now c.requires.stage in
    let draft : c.keep_block.new.self ≡ with_block now.draft (moved now.cursor.count c.in-Ok.block) =
    c.keep_block.ensures ∙ ap (with_block now.draft) c.moved.ensures in
    let both = ends_part {old = now} c.requires.stage at.some at.within c.requires.begins refl
    (rw c.after_block-self.ensures (goes_after None c.keep_block.new.self.payload_span))
    (λ before seen come. rw (c.after_block-self.ensures, draft)
    (canonical_come (take size piece) c.in-Ok.block come
    known.0 known.1 c.requires.begins c.in-Ok.ensures.room
    (front_bytes size piece (λ k. omega (arith, c.type_inv.piece k)))
    (read_exactly (λ bytes. whole_canonical now.draft.numbers bytes 0) c.in-Ok.block size piece at)
    (omega (arith, length-take-le size piece at.within)) c.requires.begins)) in
    record { advances = both.0; blocks = both.1 }
