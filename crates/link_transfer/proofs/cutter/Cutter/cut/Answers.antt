use Rattle.std.proofs.Common.{Some, ◌&&◌, not, min, take, drop, ap, refl, sym, ◌∙◌}
use Rattle.link_transfer.specs.{Held.HeldBytes, declared.cut.Cut.Cut}
use Rattle.link_transfer.proofs.Giving.{next_cut-at, next_cut-none, last-at, all_chunks, IsCutterAt-forget, IsCutterAt-cut}
use Rattle.link_transfer.proofs.cutter.Cutter.cut.Goals as goal

pub returns-then-not-waits-clause-cut : goal.returns-then-not-waits-clause-cut
returns-then-not-waits-clause-cut c = λ so_far at.
    next_cut-none c.args.self.now so_far at (sym c.waits.ensures ∙ c.if-not-waits.true)

pub returns-then-not-waits-clause-after : goal.returns-then-not-waits-clause-after
returns-then-not-waits-clause-after c = λ so_far at.
    IsCutterAt-forget c.args.self.now _ so_far (sym c.waits.ensures ∙ c.if-not-waits.true) refl refl
    (ap (λ (h : HeldBytes). h.given) c.forget.ensures) (ap (λ (h : HeldBytes). h.bytes) c.forget.ensures) refl refl at

pub returns-clause-cut : goal.returns-clause-cut
returns-clause-cut c = λ so_far at.
    ap (λ cut. Some cut) c.next_cut-cut.ensures ∙ next_cut-at c.args.self.now so_far at (sym c.waits.ensures ∙ c.if-not-waits.false)

pub returns-clause-after : goal.returns-clause-after
returns-clause-after c = λ so_far at.
    let last = ap (λ (cut : Cut). cut.last) c.next_cut-cut.ensures ∙ last-at c.args.self.now so_far at in
    let size = c.min.ensures ∙ ap (min c.args.self.now.segment) c.len.ensures in
    IsCutterAt-cut c.args.self.now _ so_far (sym c.waits.ensures ∙ c.if-not-waits.false)
    (record {
      segment = refl;
      hold = refl;
      given = ap (λ (h : HeldBytes). h.given) c.give.ensures ∙ ap (λ n. take n c.args.self.now.held.bytes) size;
      bytes = ap (λ (h : HeldBytes). h.bytes) c.give.ensures ∙ ap (λ n. drop n c.args.self.now.held.bytes) size;
      begun = ap not last;
      ended = ap (λ last. c.args.self.now.ended && not last) last;
    })
    at

pub returns-clause-all : goal.returns-clause-all
returns-clause-all c = λ so_far at.
    all_chunks c.args.self.now so_far c.next_cut-cut.result.last
    (sym (ap (λ (cut : Cut). cut.last) c.next_cut-cut.ensures ∙ last-at c.args.self.now so_far at)) at
