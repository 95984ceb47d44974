use Rattle.std.proofs.Common.{◌≡◌, ◌+◌, ◌<◌, ◌≤◌, length, take, min, eqb, ◌&&◌, refl, ap, subst, ◌∙◌, arith}
use Rattle.std.proofs.lemmas.{Bool.Decides.nat_tests, List.length-take-le}
use Rattle.std.proofs.lemmas.List.Elements.{All-take, All-from_get_or}
use Rattle.link_wire.specs.Bytes.{IsByte}
use Rattle.link_transfer.specs.Held.{HeldBytes}
use Rattle.link_transfer.proofs.Pushing.{with_each-none, with_each-is, Quiet-at, wanted-at, wanted_some-at}
use Rattle.link_transfer.proofs.Steps.{IsCutterAt-push}
use Rattle.link_transfer.proofs.cutter.Cutter.push_slice.Goals as goal
use Rattle.link_transfer.proofs.cutter.Cutter.push_slice.Goals.{then-last, else-last}

pub returns-then-is_empty-clause-each : goal.returns-then-is_empty-clause-each
returns-then-is_empty-clause-each c = λ so_far at.
    let none : length c.args.bytes.now ≡ 0 = grind (arith, nat_tests) in
    with_each-none c.args.bytes.now c.args.last so_far none

pub returns-clause-pushed : goal.returns-clause-pushed
returns-clause-pushed c = λ so_far at.
    let bytes = c.args.bytes.now in
    let count = c.min-count.result in
    let within : count ≤ length bytes = omega (arith, c.min-count.ensures) in
    let some : 0 < length bytes = grind (arith, nat_tests) in
    let taken : 0 < length (take count bytes) = omega (arith, length-take-le count bytes within, c.min-count.ensures, c.wanted.ensures.value, wanted_some-at c.args.self.now so_far at c.requires) in
    let ended : c.if-last.self ≡ (c.args.last && eqb count (length bytes)) = elim c.if-last.branch [ then-last w ↦ rw w.if-last.true w.self-is | else-last w ↦ rw w.if-last.false (w.self-is ∙ w.if-last.false) ] in
    IsCutterAt-push c.args.self.now _ so_far (take count bytes)
    (c.args.last && eqb count (length bytes)) taken
    (All-take IsByte _ _ (All-from_get_or IsByte _ 0 (λ k below. omega (arith, c.type_inv.bytes k)))) c.requires
    (record {
      segment = refl;
      hold = refl;
      given = ap (λ (h : HeldBytes). h.given) c.append.ensures;
      bytes = ap (λ (h : HeldBytes). h.bytes) c.append.ensures;
      begun = refl;
      ended = ended;
      room = subst (λ room. length c.args.self.now.held.bytes + length (take count bytes) ≤ room) c.args.self.now.room
          (omega (arith, c.wanted.ensures.room, length-take-le count bytes within));
    })
    at

pub returns-clause-each : goal.returns-clause-each
returns-clause-each c = λ so_far at.
    let some : 0 < length c.args.bytes.now = grind (arith, nat_tests) in
    with_each-is c.args.bytes.now c.args.last so_far c.min-count.result some
    (Quiet-at c.args.self.now so_far at c.requires)
    (c.min-count.ensures ∙ ap (λ most. min most (length c.args.bytes.now)) (c.wanted.ensures.value ∙ wanted-at c.args.self.now so_far at))
