use Rattle.std.proofs.Common.{length, ◌-◌, ◌≤◌, take}
use Rattle.link_io.specs.Writing.{WrittenWhole}
use Rattle.link_io.proofs.writing.write_out.Given as goal

-- the bytes before `at` were written
abbrev pub invariant-loop-at : goal.invariant-loop-at
invariant-loop-at g l = record {
  place : l.at ≤ length l.bytes;
  written : WrittenWhole g.W.OutDevice.state l.fn.out l.out (take l.at l.bytes);
}

abbrev pub decreases-loop-at : goal.decreases-loop-at
decreases-loop-at g l = length l.initial.bytes - l.at
