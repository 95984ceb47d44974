use Rattle.std.proofs.Common.{◌≡◌, ◌-◌, arith, length-take}
use Rattle.link_wire.proofs.Gettings.{exiting, is_live, skip_none, skip_more, skip_exit}
use Rattle.link_wire.proofs.list.skip.Goals as goal

pub loop-left-init : goal.loop-left-init
loop-left-init g c =
    let none : c.args.count - c.from-left.result ≡ 0 = omega arith in
    record { within = omega arith; passed = λ live. rw none (skip_none live) }

pub returns-in_err-bytes : goal.returns-in_err-bytes
returns-in_err-bytes g c = λ live.
    let passed = c.loop-left.invariant.passed live in
    exiting _ c.from_residual.ensures.1 (skip_exit _ _ _ (omega (arith, length-take c.min-size.result c.loop-left.piece)) passed (c.in_err-bytes.ensures (is_live passed)))

pub loop-left-preserved : goal.loop-left-preserved
loop-left-preserved g c = record {
  within = omega arith;
  passed = λ live.
      let passed = c.loop-left.invariant.passed live in
      skip_more _ _ _ (omega (arith, length-take c.min-size.result c.loop-left.piece)) passed (c.in_ok-bytes.ensures (is_live passed));
}
