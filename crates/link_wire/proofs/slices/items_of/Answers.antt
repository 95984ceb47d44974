use Rattle.std.proofs.Common.{◌≡◌, ℕ, refl, suc, ◌-◌, ◌+◌, [], ◌∷◌, ◌++◌, drop, arith, sym, ap, ◌∙◌}
use Rattle.std.proofs.lemmas.Result.{err_from_is_err_and}
use Rattle.link_wire.specs.{InSlice.head_of, Message.items_at}
use Rattle.link_wire.proofs.Items.{item_of}
use Rattle.link_wire.proofs.ItemReads.{with_items, with_items-append, with_items-none, items_none, items_bad_head, items_full, items_bad_value, items_more, list_at_fault, list_ended}
use Rattle.link_wire.proofs.slices.items_of.Goals as goal

pub loop-left-init : goal.loop-left-init
loop-left-init c =
    record { before = []; reads = with_items-none _; within = c.requires; ends = refl }

pub returns-in_err-item : goal.returns-in_err-item
returns-in_err-item c =
    let p = err_from_is_err_and c.from_residual.result c.from_residual.ensures.1 in
    rw (p.1, p.2) (list_at_fault _ _ _ _ _ c.loop-left.invariant.reads _
    (items_bad_head _ _ _ c.loop-left-test.true _ _ c.in_err-item.ensures.read))

pub returns-then-room-eq0 : goal.returns-then-room-eq0
returns-then-room-eq0 c =
    list_at_fault _ _ _ _ _ c.loop-left.invariant.reads _
    (items_full _ _ _ c.loop-left-test.true _ _ c.in_ok-item.ensures.read _ c.if-room-eq0.true)

pub returns-in_err-next : goal.returns-in_err-next
returns-in_err-next c =
    let p = err_from_is_err_and c.from_residual-in_err-next.result c.from_residual-in_err-next.ensures.1 in
    let room = c.loop-left.room in
    let one : room ≡ suc (room - 1) = omega arith in
    rw (p.1, p.2) (list_at_fault _ _ _ _ _ c.loop-left.invariant.reads _
    (items_bad_value _ _ _ c.loop-left-test.true _ _ c.in_ok-item.ensures.read _ _ _ one c.in_err-next.ensures.read))

pub loop-left-preserved : goal.loop-left-preserved
loop-left-preserved c =
    let kept = c.loop-left.invariant in
    let room = c.loop-left.room in
    let one : room ≡ suc (room - 1) = omega arith in
    let item = item_of (head_of c.in_ok-item.item) c.in_ok-next.field-0-0 in
    let rest = drop c.in_ok-next.next c.args.bytes.now in
    record {
      before = kept.before ++ item ∷ [];
      reads = kept.reads
          ∙ ap (λ part. with_items kept.before part)
          (items_more _ _ _ c.loop-left-test.true _ _ c.in_ok-item.ensures.read _ _ _ _ one c.in_ok-next.ensures.read)
          ∙ with_items-append kept.before (item ∷ []) _
          ∙ ap (λ (size : ℕ). with_items (kept.before ++ item ∷ [])
          (items_at c.args.owner (room - 1) (c.loop-left.left - (5 + size)) rest)) (sym c.from.ensures);
      within = c.in_ok-next.ensures.within;
      ends = omega (arith, kept.ends, c.in_ok-next.ensures.next, c.in_ok-item.ensures.next, c.in_ok-item.ensures.fits, c.from.ensures);
    }

pub returns : goal.returns
returns c =
    let kept = c.loop-left.invariant in
    let none : c.loop-left.left ≡ 0 = omega arith in
    record {
      items = record { items = kept.before };
      is = list_ended _ _ _ _ _ kept.reads _ (items_none _ _ _ _ none);
      within = kept.within;
      ends = omega (arith, kept.ends, none);
    }
