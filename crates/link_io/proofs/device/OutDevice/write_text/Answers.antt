use Rattle.std.proofs.Common.{ℕ, take, arith, length-drop, length-take}
use Rattle.link_io.proofs.Writes.{WrittenWhole-more}
use Rattle.link_io.proofs.device.OutDevice.write_text.Goals as goal

-- the written prefix grows by the bytes that `write` took
pub loop-at-preserved : goal.loop-at-preserved
loop-at-preserved g c =
    let wrote = c.in-Ok.ensures in
    let made = take c.put-end.result c.put-end.new.page in
    record {
      place = omega (arith, wrote.bound, length-take {A = ℕ}, length-drop {A = ℕ});
      written = WrittenWhole-more g.Self.OutDevice.state _ _ _ made c.loop-at.at c.in-Ok.n
          c.loop-at.invariant.written wrote.bytes wrote.failed;
    }
