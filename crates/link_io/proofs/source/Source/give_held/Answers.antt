use Rattle.std.proofs.Common.{◌≡◌, ℕ, [], take, refl, arith, ap, ◌∙◌, length-drop, length-take}
use Rattle.std.proofs.lemmas.List.Elements.{All-take}
use Rattle.link_io.specs.{Bytes.IsByte, Source.{window_of, front_of}}
use Rattle.link_io.proofs.{Sources.{front_held, held_first, Consumes-behind}, Windows.range_none}
use Rattle.link_io.proofs.source.Source.give_held.Goals as goal

pub pass_held-requires : goal.pass_held-requires
pass_held-requires g c =
    let need = c.requires in
    (held_first g.R.InDevice.state c.args.self.now c.args.size need.empty need.some need.held).here

pub invariant_of-self : goal.invariant_of-self
invariant_of-self g c =
    let s = c.args.self.now in
    let need = c.requires in
    let part = held_first g.R.InDevice.state s c.args.size need.empty need.some need.held in
    record {
      ordered = s.ordered;
      room = s.room;
      within = omega (arith, s.within, part.room, need.empty);
    }

pub returns-clause-takes : goal.returns-clause-takes
returns-clause-takes g c =
    let s = c.args.self.now in
    let look = g.R.InDevice.state in
    let need = c.requires in
    let part = held_first look s c.args.size need.empty need.some need.held in
    let none : window_of s ≡ [] = range_none s.window s.start s.end need.empty in
    let same : take c.args.size (front_of look s) ≡ take c.args.size (look s.reader).held =
    ap (take c.args.size) (front_held look s (omega (arith, need.empty))) ∙ part.same in
    record {
      bytes_fit = All-take IsByte _ _ (rw c.front-front.ensures.front at c.front-front.ensures.bytes);
      next = rw (same, none) (Consumes-behind _ _ _ c.pass_held.ensures.bytes);
      count = omega (arith, need.held, length-take c.args.size (front_of look s));
      device = c.pass_held.ensures.failed;
      window = record { kept = λ empty. refl; less = λ some. rw none (omega arith) };
    }

pub returns-clause-live : goal.returns-clause-live
returns-clause-live g c = λ live.
    let s = c.args.self.now in
    let need = c.requires in
    let part = held_first g.R.InDevice.state s c.args.size need.empty need.some need.held in
    part.live _ s.start s.end

pub returns-clause-unread : goal.returns-clause-unread
returns-clause-unread g c =
    let s = c.args.self.now in
    let look = g.R.InDevice.state in
    let need = c.requires in
    let part = held_first look s c.args.size need.empty need.some need.held in
    rw c.pass_held.ensures.rest (ap (λ (n : ℕ). (n, s.flow))
    (omega (arith, part.here, length-drop c.args.size (look s.reader).held)))
