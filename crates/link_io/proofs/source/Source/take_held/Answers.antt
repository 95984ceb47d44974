use Rattle.std.proofs.Common.{◌≡◌, ℕ, ◌+◌, ◌-◌, ◌^◌, ◌<◌, ◌≤◌, min, List, [], length, take, refl, ap, sym, ◌∙◌, arith, length-take}
use Rattle.std.proofs.Math.Seq.{take-take}
use Rattle.link_io.specs.{Device.Input, Limits.longest_input, Source.{front_of, window_of}}
use Rattle.link_io.specs.declared.source.Source.{Source}
use Rattle.link_io.proofs.Sources.{Consumes-into, front_held, held_first, held_some, taken_held}
use Rattle.link_io.proofs.Windows.{range_none, range_front}
use Rattle.link_io.proofs.source.Source.take_held.Goals as goal

-- the first bytes that the reader holds, as many as fit in a window
record FrontTaken {R : Type 0} (look : R → Input) (s : Source R) (shown : List ℕ) (count : ℕ)
    : Type 0 where
  pub some : 0 < count
  pub front : count ≤ length (front_of look s)
  pub here : count ≤ length (look s.reader).held
  pub room : s.given + count < 2 ^ 63
  pub fits : count ≤ 8192
  pub same : take count shown ≡ take count (look s.reader).held

front_taken : {R : Type 0} (look : R → Input) (s : Source R) (shown : List ℕ) (count : ℕ)
    → s.start ≡ s.end → 0 < length (front_of look s)
    → shown ≡ take (longest_input - s.given) (look s.reader).held
    → count ≡ min (length shown) 8192 → FrontTaken look s shown count
front_taken look s shown count empty some is size =
    let most = longest_input - s.given in
    let held = (look s.reader).held in
    let front = front_held look s (omega (arith, empty)) in
    let whole : front_of look s ≡ take most held =
    front ∙ held_some s.flow most held (rw front at some) in
    let sizes = length-take most held in
    record {
      some = omega (arith, some, size, ap length is, ap length whole);
      front = omega (arith, size, ap length is, ap length whole);
      here = omega (arith, size, ap length is, sizes);
      room = omega (arith, some, size, ap length is, sizes, ap length whole);
      fits = omega (arith, size);
      same = rw is (take-take count most held (omega (arith, size, ap length is, sizes)));
    }

pub pass_held-requires : goal.pass_held-requires
pass_held-requires g c =
    let look = g.R.InDevice.state in
    (front_taken look c.args.self.now _ c.copy_front-count.result c.requires.empty c.requires.some
    (c.up_to-held.ensures.first
    ∙ ap (take (longest_input - c.args.self.now.given)) c.held.ensures.held)
    c.copy_front-count.ensures.size).here

pub invariant_of-self : goal.invariant_of-self
invariant_of-self g c =
    let look = g.R.InDevice.state in
    let part =
    front_taken look c.args.self.now _ c.copy_front-count.result c.requires.empty c.requires.some
    (c.up_to-held.ensures.first
    ∙ ap (take (longest_input - c.args.self.now.given)) c.held.ensures.held)
    c.copy_front-count.ensures.size in
    record {
      ordered = omega arith;
      room = part.fits;
      within = omega (arith, part.room);
    }

pub returns : goal.returns
returns g c =
    let look = g.R.InDevice.state in
    let s = c.args.self.now in
    let count = c.copy_front-count.result in
    let held = (look s.reader).held in
    let part =
    front_taken look s _ count c.requires.empty c.requires.some
    (c.up_to-held.ensures.first ∙ ap (take (longest_input - s.given)) c.held.ensures.held)
    c.copy_front-count.ensures.size in
    let none : window_of s ≡ [] = range_none s.window s.start s.end c.requires.empty in
    let whole = range_front c.copy_front-count.new.window count
    ∙ c.copy_front-count.ensures.bytes ∙ part.same in
    let size : length (take count held) ≡ count =
    omega (arith, length-take count held, part.here) in
    record {
      ready = record {
        readies = record {
          next = rw (none, whole) (Consumes-into _ _ _ c.pass_held.ensures.bytes);
          count = refl;
          device = c.pass_held.ensures.failed;
          kept = λ some. absurd (omega (arith, some, ap length none));
        };
        live = (held_first look s count c.requires.empty part.some part.front).live _ 0 count;
        size = sym (ap length whole ∙ size);
        over = λ is. absurd (omega (arith, part.some, is));
      };
      some = part.some;
      here = taken_held look s _ count c.requires.empty part.some part.front refl refl refl refl
          whole c.pass_held.ensures.rest;
    }
