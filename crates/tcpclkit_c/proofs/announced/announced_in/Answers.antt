use Rattle.std.proofs.Common.{◌≡◌, ◌-◌, ◌<◌, suc, [], ◌∷◌, ◌++◌, length, Some, sym, ap, ◌∙◌, length-append, arith, rules}
use Rattle.std.proofs.lemmas.{Bool.Decides.nat_tests, List.Elements.All-push}
use Rattle.link_wire.specs.Message.{HasTotalIfLengthItem}
use Rattle.tcpclkit_c.proofs.Items.{announced_all, items_none, items_full, items_bad, items_more, has_total}
use Rattle.tcpclkit_c.proofs.announced.announced_in.Goals as goal

pub loop-left-init : goal.loop-left-init
loop-left-init c = record {
  reads = rw c.new-items.ensures (announced_all _ _);
  totals = search rules;
  within = c.requires;
}

pub returns-then-is_full : goal.returns-then-is_full
returns-then-is_full c =
    let items = c.loop-left.items.items in
    let none : 64 - length items ≡ 0 = grind (arith, nat_tests) in
    sym (c.loop-left.invariant.reads ∙ items_full items _ _ c.loop-left-test.true _ none)

pub loop-left-preserved : goal.loop-left-preserved
loop-left-preserved c =
    let kept = c.loop-left.invariant in
    let items = c.loop-left.items.items in
    let item = c.in-Ok.found.item in
    let lies = c.in-Ok.ensures in
    let below : length items < 64 = grind (arith, nat_tests) in
    let one : 64 - length items ≡ suc (64 - length (items ++ item ∷ [])) =
    omega (arith, length-append items (item ∷ []), below) in
    record {
      reads = rw (
        c.push.ensures.items,
        c.saturating_sub-left.ensures,
        c.from-in-Ok.ensures,
        c.from.ensures,
      )
          (kept.reads
          ∙ items_more items _ _ c.loop-left-test.true item _ _ _ _ one lies.head lies.total);
      totals = rw c.push.ensures.items
          (All-push HasTotalIfLengthItem items item kept.totals (has_total item _ _ lies.total));
      within = rw c.from.ensures lies.within;
    }

pub returns-in-Err : goal.returns-in-Err
returns-in-Err c =
    sym (c.loop-left.invariant.reads
    ∙ items_bad _ _ _ c.loop-left-test.true _ _ c.in-Err.ensures)

pub returns : goal.returns
returns c =
    let none : c.loop-left.left ≡ 0 = omega (arith, c.loop-left-test.false) in
    ap Some c.announced.ensures
    ∙ sym (c.loop-left.invariant.reads ∙ items_none _ _ _ _ none)
