use Rattle.std.proofs.Common.{◌≡◌, ◌+◌, ◌-◌, ◌≤◌, ℕ, List, length, take, drop, ◌++◌, refl, arith, ap, sym, ◌∙◌, append_assoc, length-take, length-drop}
use Rattle.std.proofs.lemmas.List.{take-append-drop}
use Rattle.std.proofs.lemmas.List.Elements.{All-take}
use Rattle.link_io.specs.{Bytes.IsByte, Limits.{longest_input, window_size}, Source.{held_from, window_of}}
use Rattle.link_io.proofs.{Sources.{Consumes-window, KeepsWindowOrMakesRoom-drop}, Windows.range_rest}
use Rattle.link_io.proofs.source.Source.give.Goals as goal

pub returns-clause-takes : goal.returns-clause-takes
returns-clause-takes g c =
    let s = c.args.self.now in
    let look = g.R.InDevice.state in
    let within : c.args.count ≤ s.end - s.start = omega (arith, c.requires, length-take (s.end - s.start) (drop s.start s.window)) in
    let room : length (window_of s) ≤ window_size = let room = s.room in omega (arith, length-take (s.end - s.start) (drop s.start s.window)) in
    record {
      bytes_fit = All-take IsByte _ _ (rw c.window-window.ensures.window at c.window-window.ensures.bytes);
      next = rw (range_rest s.window s.start s.end c.args.count within) (Consumes-window (window_of s) (look s.reader).left c.args.count);
      count = omega (arith, c.requires, length-take c.args.count (window_of s));
      device = refl;
      window = KeepsWindowOrMakesRoom-drop s _ c.args.count (range_rest s.window s.start s.end c.args.count within) room;
    }

pub returns-clause-rest : goal.returns-clause-rest
returns-clause-rest g c =
    let s = c.args.self.now in
    range_rest s.window s.start s.end c.args.count (omega (arith, c.requires, length-take (s.end - s.start) (drop s.start s.window)))

pub returns-clause-here : goal.returns-clause-here
returns-clause-here g c =
    let s = c.args.self.now in
    let look = g.R.InDevice.state in
    let count = c.args.count in
    let held = (look s.reader).held in
    let within : count ≤ s.end - s.start = omega (arith, c.requires, length-take (s.end - s.start) (drop s.start s.window)) in
    let rest = range_rest s.window s.start s.end count within in
    let taken : s.given + count + (s.end - (s.start + count)) ≡ s.given + (s.end - s.start) = omega (arith, within) in
    record {
      unread = rw rest (ap (λ (n : ℕ). (n, s.flow))
          (omega (arith, c.requires, length-drop count (window_of s))));
      parts = rw (rest, taken)
          (ap (λ (bytes : List ℕ). bytes ++ held_from s.flow (longest_input - (s.given + (s.end - s.start))) held)
          (sym (take-append-drop count (window_of s)))
          ∙ append_assoc (take count (window_of s)) (drop count (window_of s)) _);
    }
