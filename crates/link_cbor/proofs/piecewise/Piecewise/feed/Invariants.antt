use Rattle.std.proofs.Common.{◌≡◌, ℕ, ◌+◌, List, ◌++◌, take}
use Rattle.link_cbor.proofs.Feeding.{TakenSoFar}
use Rattle.link_cbor.proofs.piecewise.Piecewise.feed.Given as goal

abbrev pub invariant-loop-taken : goal.invariant-loop-taken
invariant-loop-taken g l = record {
  size : g.Self.Piecewise.size l.self ≡ g.Self.Piecewise.size l.fn.self + l.taken;
  seen : (seen : List ℕ) → g.Self.Piecewise.has_seen l.fn.self seen
      → g.Self.Piecewise.has_seen l.self (seen ++ take l.taken l.bytes);
  split : (seen : List ℕ) → g.Self.Piecewise.has_seen l.fn.self seen
      → TakenSoFar g.Self.Piecewise.goes seen l.bytes l.taken;
}
