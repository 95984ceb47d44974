use Rattle.std.proofs.Common.{◌≤◌, IsTrue}
use Rattle.link_wire.specs.Session.{is_opened}
use Rattle.example_library.proofs.reading.copy_data.Given as goal

-- each turn reads at most one head of a segment
abbrev pub invariant-loop-turn : goal.invariant-loop-turn
invariant-loop-turn g l = IsTrue (is_opened l.session) × (l.segments ≤ l._turn)
