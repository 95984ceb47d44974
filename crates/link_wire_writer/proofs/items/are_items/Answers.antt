use Rattle.std.proofs.Common.{◌≡◌, false, true, length, drop, arith, ◌∙◌}
use Rattle.link_wire_writer.proofs.ListItems.{is_ok-items_of, is_ok-one_more, item_refused, no_room, no_more, are_items_by}
use Rattle.link_wire_writer.proofs.items.are_items.Goals as goal

pub loop-left-init : goal.loop-left-init
loop-left-init c =
    (omega arith, is_ok-items_of c.args.owner (length c.args.items.now) c.args.items.now)

pub loop-left-preserved : goal.loop-left-preserved
loop-left-preserved c =
    let lies = c.in-Ok.ensures in
    let step = is_ok-one_more c.args.owner c.loop-left.room c.loop-left.left c.loop-left.at
    c.args.items.now c.in-Ok.found c.loop-left-test.true c.if-room-gt0.true lies in (
      omega (arith, lies.within, c.from.ensures),
      rw (c.saturating_sub-left.ensures, c.from-in-Ok.ensures, c.from.ensures)
          (c.loop-left.invariant.1 ∙ step),
    )

pub returns-in_default : goal.returns-in_default
returns-in_default c =
    let none : c.loop-left.room ≡ 0 = omega (arith, c.if-room-gt0.false) in
    are_items_by c.args.owner c.args.items.now false (omega (arith, c.if-items.false))
    (c.loop-left.invariant.1
    ∙ rw none
    (no_room c.args.owner c.loop-left.left (drop c.loop-left.at c.args.items.now) c.loop-left-test.true))

pub returns-in_default-2 : goal.returns-in_default-2
returns-in_default-2 c =
    are_items_by c.args.owner c.args.items.now false (omega (arith, c.if-items.false))
    (c.loop-left.invariant.1
    ∙ item_refused c.args.owner c.loop-left.left (drop c.loop-left.at c.args.items.now)
    c.loop-left-test.true c.loop-left.room _ c.in_default.ensures)

pub returns : goal.returns
returns c =
    let none : c.loop-left.left ≡ 0 = omega (arith, c.loop-left-test.false) in
    are_items_by c.args.owner c.args.items.now true (omega (arith, c.if-items.false))
    (c.loop-left.invariant.1
    ∙ rw none (no_more c.args.owner c.loop-left.room (drop c.loop-left.at c.args.items.now)))
