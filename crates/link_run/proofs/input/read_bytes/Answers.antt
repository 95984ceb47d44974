use Rattle.std.proofs.Common.{refl, inl, inr, length, ap, arith}
use Rattle.link_io.proofs.Sources.{none_ahead}
use Rattle.link_run.specs.declared.input.Position.{Position}
use Rattle.link_run.specs.Run.{looks}
use Rattle.link_run.proofs.{Readings.bytes_given, Waiting.wait_at}
use Rattle.link_run.proofs.input.read_bytes.Goals as goal

-- no byte is at hand, so the window is empty
pub returns-in-Ok : goal.returns-in-Ok
returns-in-Ok g c =
    let look = looks g.R.InDevice.state g.W.OutDevice.state g.E.OutDevice.state in
    let source = c.args.input.now.feed in
    let empty = none_ahead look.input source (ap length c.requires) in
    let read = c.ready_front-result.ensures in
    let settled = c.in-Ok.ensures in
    record {
      size = read.size;
      here = λ some. absurd (omega (arith, some, ap length c.requires));
      gives = λ live.
          bytes_given look source c.ready_front-result.new.self c.args.writers.now
          c.settle.new.self settled.gives _ (read.gives live);
      waits = inr (
        _,
        c.and-input.ensures,
        refl,
        wait_at look source c.args.writers.now c.settle.new.self _ _ c.given.ensures
            (ap length c.window.ensures.window) (omega (arith, empty)) settled.gives
            settled.output settled.report,
      );
      line = settled.line;
      ended = λ ended. let same = read.ended ended in (same.0, inl (same.1, settled.gives));
      failed = λ fault failed.
          let same = read.failed fault failed in (same.0, inl (same.1, settled.gives));
    }

pub returns-in-Err : goal.returns-in-Err
returns-in-Err g c =
    let look = looks g.R.InDevice.state g.W.OutDevice.state g.E.OutDevice.state in
    let source = c.args.input.now.feed in
    let empty = none_ahead look.input source (ap length c.requires) in
    let lost = c.in-Err.ensures.gives in
    let kind = lost.kind in
    record {
      size = tt;
      here = λ some. absurd (omega (arith, some, ap length c.requires));
      gives = λ live. inr (refl, omega (arith, empty), lost);
      waits = inl (refl, refl);
      line = c.in-Err.ensures.line;
      ended = λ ended. (refl, inr (rw kind refl, rw kind at lost));
      failed = λ fault failed. (refl, inr (rw kind refl, rw kind at lost));
    }
