use Rattle.std.proofs.{Common.{◌≡◌, length, arith, ap}, lemmas.List.take_at}
use Rattle.std.specs.List.{refill}
use Rattle.link_wire.proofs.Gettings.{exit, leaving, after, pure, is_live}
use Rattle.link_wire.specs.Message.{node_bytes_at}
use Rattle.link_wire.proofs.head.node_bytes.Goals as goal

pub returns-in_err-bytes : goal.returns-in_err-bytes
unfolding node_bytes_at
returns-in_err-bytes g c = λ live.
    let all : length c.bytes.new.field ≡ c.args.length = omega (arith, c.from.ensures, c.truncate.ensures.len, ap length c.as_mut_slice.ensures.value) in
    let met = rw all at (c.in_err-bytes.ensures live) in
    leaving _ _ c.from_residual.ensures.1 (exit _ met)

pub returns : goal.returns
unfolding node_bytes_at
returns g c = λ live.
    let all : length c.bytes.new.field ≡ c.args.length = omega (arith, c.from.ensures, c.truncate.ensures.len, ap length c.as_mut_slice.ensures.value) in
    let read = rw all at (c.in_ok-bytes.ensures live) in
    let kept : refill (length c.truncate.new.self.items) c.truncate.new.self.items c.bytes.new.field ≡ c.bytes.new.field = take_at c.bytes.new.field _ _ (omega (arith, c.from.ensures, c.truncate.ensures.len, ap length c.as_mut_slice.ensures.value)) in
    rw kept (after _ read (pure (is_live read)))
