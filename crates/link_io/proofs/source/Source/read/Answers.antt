use Rattle.std.proofs.Common.{◌≡◌, [], length, take, slice_range, sym, add-zero, arith, refl, length-take}
use Rattle.std.proofs.lemmas.List.Elements.{All-nil}
use Rattle.link_io.specs.Bytes.{IsByte}
use Rattle.link_io.proofs.{Sources.Consumes-empty, Windows.range_none}
use Rattle.link_io.proofs.source.Source.read.Goals as goal

-- the read returned a byte past the limit, and none of its bytes is given
pub returns-in-Ok-clause-gives : goal.returns-in-Ok-clause-gives
returns-in-Ok-clause-gives g c =
    let s = c.args.self.now in
    let look = g.R.InDevice.state in
    let window = c.read_ahead.new.window in
    let none : slice_range s.window s.start s.end ≡ [] = range_none s.window s.start s.end c.requires.empty in
    let size : length (take c.in-Ok.n window) ≡ c.in-Ok.n = omega (arith, length-take c.in-Ok.n window, c.in-Ok.ensures.bound) in
    record {
      bytes_fit = All-nil IsByte;
      past = take c.in-Ok.n window;
      next = rw none (Consumes-empty (look s.reader).left (look c.read_ahead.new.reader).left _ c.in-Ok.ensures.bytes.0);
      count = sym (add-zero s.given);
      cause = (omega (arith, size, c.in-Ok.ensures.bound), omega (arith, size, c.if-n-self.true));
      device = λ is. c.in-Ok.ensures.failed;
      failed = (refl, refl);
    }
