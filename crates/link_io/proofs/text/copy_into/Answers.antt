use Rattle.std.proofs.{Common.{◌+◌, length, ap, arith}, lemmas.Slice.drop-put_mid}
use Rattle.link_io.proofs.text.copy_into.Goals as goal

pub returns-clause-rest : goal.returns-clause-rest
returns-clause-rest c =
    drop-put_mid c.args.at _ c.args.page.now c.copy_from_slice.new.self (c.args.at + length c.args.bytes.now) (omega arith) (omega arith) (omega (arith, ap length c.copy_from_slice.ensures.after))
