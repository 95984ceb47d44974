use Rattle.std.proofs.Common.{◌≡◌, ◌-◌, [], take, ap, sym, ◌∙◌, arith}
use Rattle.link_io.specs.{Limits.longest_input, Source.window_of}
use Rattle.link_io.proofs.Sources.{front_held, held_open, held_closed}
use Rattle.link_io.proofs.Windows.{range_none, begins_nothing, held_next}
use Rattle.link_io.proofs.source.Source.held_front.Goals as goal

pub returns-in-Open-clause-front : goal.returns-in-Open-clause-front
returns-in-Open-clause-front g c =
    let s = c.args.self.now in
    let whole = front_held g.R.InDevice.state s (omega (arith, c.requires)) in
    c.up_to.ensures.first ∙ ap (take (longest_input - s.given)) c.held.ensures.held ∙ sym (whole ∙ held_open s.flow _ _ c.in-Open.is)

pub returns-in-Open-clause-next : goal.returns-in-Open-clause-next
returns-in-Open-clause-next g c =
    let s = c.args.self.now in
    let none : window_of s ≡ [] = range_none s.window s.start s.end c.requires in
    rw (c.up_to.ensures.first, none) (held_next _ [] _ (longest_input - s.given) c.held.ensures.next)

pub returns-in_default : goal.returns-in_default
returns-in_default g c =
    let s = c.args.self.now in
    let whole = front_held g.R.InDevice.state s (omega (arith, c.requires)) in
    record {
      front = sym (whole ∙ held_closed s.flow _ _ c.in_default.not-Open);
      bytes = λ k d within. absurd (omega (arith, within));
      next = begins_nothing _;
    }
