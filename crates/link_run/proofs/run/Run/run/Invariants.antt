use Rattle.std.proofs.Common.{◌≡◌, ◌+◌, ◌-◌, ◌^◌, List, ℕ}
use Rattle.link_wire.specs.Source.{given_by}
use Rattle.link_run.specs.Run.{devices_at, looks, reach_at}
use Rattle.link_run.proofs.Waiting.{Waited}
use Rattle.link_run.proofs.run.Run.run.Given as goal

-- The run has the same tool, and `stands` holds of the bytes given since it began. At each wait
-- since then it had nothing in hand, and the waits are spaced.
abbrev pub invariant-strides : goal.invariant-strides
invariant-strides g l =
    let look = looks g.R.InDevice.state g.W.OutDevice.state g.E.OutDevice.state in
    let tool = g.Self.Run.tool l.fn.self in
    let start = devices_at (g.Self.Run.place l.fn.self) in
    (g.Self.Run.tool l.run ≡ tool)
    × ((history : List ℕ) × g.Self.Run.stands l.run start history
    × Waited look tool start history
    (reach_at look.input (g.Self.Run.place l.fn.self).source)
    (reach_at look.input (g.Self.Run.place l.run).source)
    (g.Self.Run.waits l.fn.self) (g.Self.Run.waits l.run))

-- Each stride is given a byte, except that the first may be given none. A source gives fewer than
-- 2^63 bytes.
abbrev pub decreases-strides : goal.decreases-strides
decreases-strides g l = (2 ^ 63 - given_by (g.Self.Run.place l.run).source) + (1 - g.Self.Run.most l.run)
