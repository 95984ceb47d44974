use Rattle.std.proofs.Common.{◌≡◌, ◌<◌, ◌≤◌, ◌-◌, List, length, ℕ, take, true, false}
use Rattle.link_bundle.specs.Stages.{is_cut, part_reading, IfAtCheckFieldCovered}
use Rattle.link_bundle.proofs.held.shown.Given as goal

-- the first `cut` bytes end inside the part, and the first `shown` do not
abbrev pub invariant-loop-shown : goal.invariant-loop-shown
invariant-loop-shown l = record {
  held : l.held ≤ l.cut;
  order : l.cut < l.shown;
  within : l.shown ≤ length l.bytes;
  ends : (covered : List ℕ) → IfAtCheckFieldCovered l.stage l.check covered
      → let reading = part_reading l.stage l.numbers covered in
      is_cut (reading (take l.held l.bytes)) ≡ true → is_cut (reading l.bytes) ≡ false
      → (is_cut (reading (take l.shown l.bytes)) ≡ false)
      × (is_cut (reading (take l.cut l.bytes)) ≡ true);
}

abbrev pub decreases-loop-shown : goal.decreases-loop-shown
decreases-loop-shown l = l.shown - l.cut
