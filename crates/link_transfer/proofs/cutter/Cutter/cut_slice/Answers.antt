use Rattle.std.proofs.Common.{◌≡◌, length, Some, refl, ap, sym, ◌∙◌, arith}
use Rattle.std.proofs.lemmas.List.Elements.{All-from_get_or}
use Rattle.link_wire.specs.Bytes.{AreBytes, IsByte}
use Rattle.link_transfer.specs.{Held.HeldBytes, declared.cut.Cut.Cut}
use Rattle.link_transfer.proofs.{InPlace.{here_cut, here_chunk, here_after}, Steps.not_ended}
use Rattle.link_transfer.proofs.cutter.Cutter.cut_slice.Goals as goal

pub returns-clause-cut : goal.returns-clause-cut
returns-clause-cut c = λ so_far at.
    let none : length c.args.self.now.held.bytes ≡ 0 = omega (arith, c.len.ensures) in
    let are : AreBytes c.args.bytes.now = All-from_get_or IsByte _ 0 (λ k below. omega (arith, c.type_inv.bytes k)) in
    let is = sym c.is_chunk.ensures ∙ c.if-not-is_chunk.false in
    here_cut c.args.self.now so_far c.args.bytes.now c.args.last at c.requires none are is
    ∙ ap (λ (cut : Cut). Some cut) (sym c.described-cut.ensures)

pub returns-clause-chunk : goal.returns-clause-chunk
returns-clause-chunk c = λ so_far at.
    let none : length c.args.self.now.held.bytes ≡ 0 = omega (arith, c.len.ensures) in
    let are : AreBytes c.args.bytes.now = All-from_get_or IsByte _ 0 (λ k below. omega (arith, c.type_inv.bytes k)) in
    here_chunk c.args.self.now so_far c.args.bytes.now c.args.last at c.requires none are (sym c.is_chunk.ensures ∙ c.if-not-is_chunk.false)

pub returns-clause-after : goal.returns-clause-after
returns-clause-after c = λ so_far at.
    let none : length c.args.self.now.held.bytes ≡ 0 = omega (arith, c.len.ensures) in
    let are : AreBytes c.args.bytes.now = All-from_get_or IsByte _ 0 (λ k below. omega (arith, c.type_inv.bytes k)) in
    here_after c.args.self.now so_far c.args.bytes.now c.args.last at c.requires none are (sym c.is_chunk.ensures ∙ c.if-not-is_chunk.false)
    _ refl refl (ap (λ (h : HeldBytes). h.given) c.forget.ensures) (ap (λ (h : HeldBytes). length h.bytes) c.forget.ensures ∙ none) refl (not_ended c.args.self.now c.requires)
