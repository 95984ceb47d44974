use Rattle.std.proofs.Common.{◌≡◌, ℕ, suc, ◌-◌, ◌<◌, [], length, Ok, arith, rules, append-nil}
use Rattle.std.proofs.lemmas.{Bool.Decides.nat_tests, List.Elements.All-push}
use Rattle.link_wire.proofs.Gettings.{exit, leaving, after, pure, is_live}
use Rattle.link_wire.specs.Message.{items_of, HasTotalIfLengthItem}
use Rattle.link_wire.proofs.Items.{item_of, with_before-append, items_none, items_exit, items_full, items_exit_total, items_more}
use Rattle.link_wire.specs.declared.message.TheConstants.{MAX_ITEMS}
use Rattle.link_wire.proofs.list.items_of.Goals as goal

room_for_one : (n : ℕ) → n < MAX_ITEMS → MAX_ITEMS - n ≡ suc (MAX_ITEMS - suc n)
room_for_one n below = omega arith

pub returns-in_err-head-clause-gets : goal.returns-in_err-head-clause-gets
unfolding items_of
returns-in_err-head-clause-gets g c = λ live.
    let kept = c.loop-left.invariant in
    leaving _ _ c.from_residual.ensures.1
    (exit _ (kept.rest live _ _ (items_exit _ _ c.loop-left-test.true _ (c.in_err-head.ensures.gets (kept.live live)))))

pub returns-then-is_full-clause-gets : goal.returns-then-is_full-clause-gets
unfolding items_of
returns-then-is_full-clause-gets g c = λ live.
    let kept = c.loop-left.invariant in
    let none : MAX_ITEMS - length c.loop-left.items.items ≡ 0 = grind (arith, nat_tests) in
    exit _ (kept.rest live _ _ (items_full _ _ c.loop-left-test.true (c.in_ok-head.ensures.gets (kept.live live)) _ none))

pub returns-in_err-total-clause-gets : goal.returns-in_err-total-clause-gets
unfolding items_of
returns-in_err-total-clause-gets g c = λ live.
    let kept = c.loop-left.invariant in
    let head = c.in_ok-head.ensures.gets (kept.live live) in
    let below : length c.loop-left.items.items < MAX_ITEMS = grind (arith, nat_tests) in
    leaving _ _ c.from_residual-in_err-total.ensures.1
    (exit _ (kept.rest live _ _ (items_exit_total _ _ c.loop-left-test.true head _ _ (room_for_one _ below) (c.in_err-total.ensures.gets (is_live head)))))

pub loop-left-preserved : goal.loop-left-preserved
loop-left-preserved g c =
    let kept = c.loop-left.invariant in
    let below : length c.loop-left.items.items < MAX_ITEMS = grind (arith, nat_tests) in
    let grown : length c.push.new.self.items ≡ suc (length c.loop-left.items.items) = omega (arith, c.push.ensures.len) in
    record {
      few = omega arith;
      live = λ live. is_live (c.in_ok-total.ensures.gets (is_live (c.in_ok-head.ensures.gets (kept.live live))));
      rest = λ live new outcome others.
          let head = c.in_ok-head.ensures.gets (kept.live live) in
          let total = c.in_ok-total.ensures.gets (is_live head) in
          let joined = kept.rest live new _ (items_more _ _ c.loop-left-test.true head _ _ c.in_ok-total.total outcome (room_for_one _ below) total (rw (grown, c.from.ensures) at others)) in
          rw (with_before-append, ← c.push.ensures.items) at joined;
      totals = λ transfer.
          let more = All-push HasTotalIfLengthItem c.loop-left.items.items (item_of c.in_ok-head.head c.in_ok-total.total) (kept.totals transfer) (λ kind size. c.in_ok-total.ensures.some (rw (transfer, kind, size) (search rules))) in
          rw (← c.push.ensures.items) at more;
    }

pub returns-clause-gets : goal.returns-clause-gets
unfolding items_of
returns-clause-gets g c = λ live.
    let kept = c.loop-left.invariant in
    let none : c.loop-left.left ≡ 0 = omega arith in
    let done = kept.rest live c.loop-left.source (Ok []) (items_none _ _ _ none (kept.live live)) in
    let read = rw append-nil at done in
    after _ read (pure (is_live read))
