use Rattle.std.proofs.Common.{ℕ, arith, length-drop, length-take}
use Rattle.link_io.proofs.Writes.{WrittenWhole-more}
use Rattle.link_io.proofs.writing.write_out.Goals as goal

-- the written prefix grows by the bytes that `write` took
pub loop-at-preserved : goal.loop-at-preserved
loop-at-preserved g c =
    let wrote = c.in-Ok.ensures in
    record {
      place = omega (arith, wrote.bound, length-take {A = ℕ}, length-drop {A = ℕ});
      written = WrittenWhole-more g.W.OutDevice.state _ _ _ c.args.bytes.now c.loop-at.at c.in-Ok.n
          c.loop-at.invariant.written wrote.bytes wrote.failed;
    }
