use Rattle.std.proofs.Common.{◌≡◌, length, ◌-◌, ◌≤◌, take}
use Rattle.link_io.specs.Source.{at_hand, GivesAtHand, IsLive, HasEnded, Takes}
use Rattle.link_io.proofs.source.Source.fill_on.Given as goal

-- the bytes before `at` were given, and a source that has ended gave none
abbrev pub invariant-loop-at : goal.invariant-loop-at
invariant-loop-at g l =
    let look = g.R.InDevice.state in
    record {
      place : l.at ≤ length l.buffer;
      given : IsLive look l.fn.self → Takes look l.fn.self l.self (take l.at l.buffer);
      live : IsLive look l.fn.self → IsLive look l.self;
      still : HasEnded l.fn.self → (l.self ≡ l.fn.self) × (l.at ≡ 0);
      here : length l.fn.buffer ≤ length (at_hand look l.fn.self)
          → GivesAtHand look l.fn.self l.self (take l.at l.buffer);
    }

abbrev pub decreases-loop-at : goal.decreases-loop-at
decreases-loop-at g l = length l.initial.buffer - l.at
