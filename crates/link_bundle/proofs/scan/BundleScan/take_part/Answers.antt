use Rattle.std.proofs.Common.{◌≡◌, List, ℕ, Err, length, refl, sym, ap, ◌∙◌, arith}
use Rattle.link_bundle_blocks.specs.Reading.{stopped}
use Rattle.link_bundle.specs.Stages.{IfAtCheckFieldCovered, part_reading}
use Rattle.link_bundle.proofs.TakenPart.{HoldsMore, TakesPart, takes_whole, cut_fits, cut_part, lasts_but, fault_part}
use Rattle.link_bundle.proofs.{ReadParts.{read_fits, whole_part}, Steps.{slice_bytes}}
use Rattle.link_bundle.proofs.scan.BundleScan.take_part.Goals as goal
use Rattle.link_bundle.proofs.scan.BundleScan.take_part.Goals.{After-take_in-held, In-Ok, In-Err}

holds : (c : After-take_in-held)
    → HoldsMore c.args.self.now.stage c.args.self.now c.args.piece.now c.take_in-held.new.self
holds c = record {
  at = refl;
  part = c.requires.part;
  hold = rw (sym c.limit.ensures.limit) c.take_in-held.ensures.hold;
  size = rw (sym c.limit.ensures.limit) c.take_in-held.ensures.count;
  check = c.take_in-held.ensures.check;
}

takes : (c : In-Ok) → HoldsMore c.args.self.now.stage c.args.self.now c.args.piece.now c.take_in-held.new.self
    → TakesPart c.args.self.now.stage c.args.self.now c.args.piece.now c.take_in-held.new.self c.in-Ok.size
takes c held = takes_whole held c.in-Ok.ensures.any

pub pass-requires-clause-within : goal.pass-requires-clause-within
pass-requires-clause-within c =
    let at = goal.at.pass-requires-clause-within c in
    rw c.read_part.ensures.hold (takes at.In-Ok (holds at.After-take_in-held)).within

pub overflow_sub-result : goal.overflow_sub-result
overflow_sub-result c =
    let at = goal.at.overflow_sub-result c in
    omega (arith, (takes at.In-Ok (holds at.After-take_in-held)).more)

pub invariant_of-self : goal.invariant_of-self
invariant_of-self c =
    let now = c.args.self.now in
    record {
      fits = (read_fits c.args.self.now.stage now c.take_in-held.new.self c.pass.new.self c.read_part.new.draft
          c.in-Ok.next c.in-Ok.size refl
          (rw c.pass.ensures.check c.in-Ok.ensures.kept) c.requires.part c.pass.ensures.hold).0;
    }

pub returns-in-Ok : goal.returns-in-Ok
returns-in-Ok c =
    let at = goal.at.returns-in-Ok c in
    let both = whole_part c.args.self.now _ (takes at.In-Ok (holds at.After-take_in-held))
    (slice_bytes c.args.piece.now (λ k. omega (arith, c.type_inv.piece k)))
    (rw c.pass.ensures.check c.in-Ok.ensures.kept) c.pass.ensures.hold
    (c.pass.ensures.count
    ∙ omega (arith, c.read_part.ensures.count, ap length c.read_part.ensures.hold)) in
    rw c.take_in-held.ensures.held (record { advances = both.0; blocks = both.1 })

pub invariant_of-self-in-Cut : goal.invariant_of-self-in-Cut
invariant_of-self-in-Cut c =
    let at = goal.at.invariant_of-self-in-Cut c in
    let kept = c.in-Err.ensures.kept in
    record {
      fits = rw (kept.0, kept.1) (cut_fits (holds at.After-take_in-held)
          (rw (c.in-Err.ensures.any (rw (c.in-Cut.is) refl), c.in-Cut.is) refl));
    }

-- the hold does not begin with the part
held : (c : In-Err) → HoldsMore c.args.self.now.stage c.args.self.now c.args.piece.now c.take_in-held.new.self
    → HoldsMore c.args.self.now.stage c.args.self.now c.args.piece.now c.read_part.new.cursor
held c holds = rw (c.in-Err.ensures.kept.1) holds

fails : (c : In-Err) (covered : List ℕ) → IfAtCheckFieldCovered c.args.self.now.stage c.read_part.new.cursor.check covered
    → part_reading c.args.self.now.stage c.args.self.now.draft.numbers covered c.read_part.new.cursor.hold
    ≡ Err (stopped c.in-Err.stop.fault c.in-Err.stop.offset)
fails c covered covers =
    rw (c.in-Err.ensures.kept.1) (c.in-Err.ensures.ends covered
    (rw (c.in-Err.ensures.kept.1) at covers))

pub returns-in-Cut : goal.returns-in-Cut
returns-in-Cut c =
    let at = goal.at.returns-in-Cut c in
    let both = cut_part c.args.self.now _ c.in-Err.stop.offset
    (held at.In-Err (holds at.After-take_in-held)) c.requires.may_take.some
    (slice_bytes c.args.piece.now (λ k. omega (arith, c.type_inv.piece k))) refl
    c.in-Err.ensures.kept.0 (rw c.in-Cut.is at (fails at.In-Err)) in
    rw (c.take_in-held.ensures.held, c.len.ensures.size)
    (record { advances = both.0; blocks = both.1 })

pub returns-in_default : goal.returns-in_default
returns-in_default c =
    let at = goal.at.returns-in_default c in
    let kept = c.in-Err.ensures.kept in
    let is : TakesPart c.args.self.now.stage c.args.self.now c.args.piece.now c.read_part.new.cursor
    c.shown-size.result = record {
      holds = held at.In-Err (holds at.After-take_in-held);
      more = rw (c.take_in-held.ensures.held) at c.shown-size.ensures.more;
      within = rw (c.as_slice-bytes.ensures) at c.shown-size.ensures.within;
    } in
    let both = fault_part c.args.self.now _ is kept.0
    (slice_bytes c.args.piece.now (λ k. omega (arith, c.type_inv.piece k)))
    (lasts_but c.in-Err.stop.fault c.in_default.not-Cut) (fails at.In-Err)
    (rw (c.take_in-held.ensures.held, c.as_slice-bytes.ensures, kept.0) at c.shown-size.ensures.shown)
    (rw (c.saturating_add-offset.ensures, c.start-start.ensures) refl)
    c.give_back.ensures.hold c.give_back.ensures.count c.requires.may_take.room in
    rw (c.take_in-held.ensures.held) (record { advances = both.0; blocks = both.1 })
