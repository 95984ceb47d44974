use Rattle.std.proofs.{Common.{◌≤◌, ◌/◌, ◌%◌, ◌^◌, ◌*◌, sym, ap, arith}, Math.Nat.div-eq_of_lt}
use Rattle.std.proofs.{Math.Pow.pow_mono, lemmas.Nat.and_mask}
use Rattle.link_cbor.proofs.check.register.byte_of.Goals as goal

pub returns-then-position-lt-REGISTER_BYTES : goal.returns-then-position-lt-REGISTER_BYTES
returns-then-position-lt-REGISTER_BYTES c = and_mask (c.args.register / 2 ^ (8 * c.args.position)) 8

pub returns-else-position-lt-REGISTER_BYTES : goal.returns-else-position-lt-REGISTER_BYTES
returns-else-position-lt-REGISTER_BYTES c =
    let bits : 32 ≤ 8 * c.args.position = omega arith in
    let high : 2 ^ 32 ≤ 2 ^ (8 * c.args.position) = pow_mono bits in
    ap (λ part. part % 256) (sym (div-eq_of_lt {n = c.args.register} {m = 2 ^ (8 * c.args.position)}
    (omega arith)))
