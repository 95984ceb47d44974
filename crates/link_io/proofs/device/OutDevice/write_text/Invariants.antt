use Rattle.std.proofs.Common.{length, ◌-◌, ◌≤◌, take}
use Rattle.link_io.specs.Writing.{WrittenWhole}
use Rattle.link_io.proofs.device.OutDevice.write_text.Given as goal

-- the bytes of the text before `at` were written
abbrev pub invariant-loop-at : goal.invariant-loop-at
invariant-loop-at g l = record {
  place : l.at ≤ length l.made;
  written : WrittenWhole g.Self.OutDevice.state l.fn.self l.self (take l.at l.made);
}

abbrev pub decreases-loop-at : goal.decreases-loop-at
decreases-loop-at g l = length l.initial.made - l.at
