-- Successive writes are one write of their bytes, joined.
use Rattle.std.proofs.Common.{◌≡◌, ℕ, ◌+◌, ◌-◌, ◌≤◌, List, length, arith, take, drop, ◌∙◌, length-drop}
use Rattle.std.proofs.{Math.Seq.take-add, lemmas.List.take_rest, KnownBytes.Appends-trans}
use Rattle.std.specs.Io.KnownBytes.{Appends}
use Rattle.link_io.specs.{Device.Output, Writing.{WrittenWhole, WrittenPrefix}}
use Rattle.link_io.specs.declared.fault.IoFault.{IoFault}

module _ {W : Type 0} (look : W → Output) where
  -- a prefix was written, and then the next `n` bytes of the rest, as the code takes it
  pub WrittenWhole-more : (old mid new : W) (bytes : List ℕ) (at n : ℕ)
      → WrittenWhole look old mid (take at bytes)
      → Appends (look mid).written (look new).written
      (take n (take (length bytes - at) (drop at bytes)))
      → (look new).failed ≡ (look mid).failed → WrittenWhole look old new (take (at + n) bytes)
  WrittenWhole-more old mid new bytes at n before written device = record {
    written = rw take-add (Appends-trans (look old).written (look mid).written (look new).written
        _ _ before.written (rw (take_rest bytes at) at written));
    device = device ∙ before.device;
  }

  -- a prefix was written, and then a part of the rest before the device failed
  pub WrittenPrefix-after : (old mid new : W) (bytes : List ℕ) (n : ℕ) (fault : IoFault)
      → n ≤ length bytes → WrittenWhole look old mid (take n bytes)
      → WrittenPrefix look mid new (drop n bytes) fault → WrittenPrefix look old new bytes fault
  WrittenPrefix-after old mid new bytes n fault within p q = record {
    kind = q.kind;
    count = n + q.count;
    front = omega (arith, q.front, length-drop n bytes);
    written = rw take-add (Appends-trans (look old).written (look mid).written (look new).written _ _ p.written q.written);
    device = q.device;
  }
