use Rattle.std.proofs.lemmas.Result.{IfErr-weaker}
use Rattle.std.proofs.lemmas.List.{take_rest}
use Rattle.link_io.proofs.Writes.{WrittenPrefix-after}
use Rattle.link_io.proofs.writing.write_whole.Goals as goal

-- the first write took a prefix, and a later write failed
pub returns-in-Ok-2-clause-err : goal.returns-in-Ok-2-clause-err
returns-in-Ok-2-clause-err g c =
    IfErr-weaker c.write_rest.result _ _ (λ fault. WrittenPrefix-after g.W.OutDevice.state _ _ _ c.args.bytes.now c.in-Ok.n fault c.in-Ok.ensures.bound
    (record { written = c.in-Ok.ensures.bytes; device = c.in-Ok.ensures.failed }))
    (rw (take_rest c.args.bytes.now c.in-Ok.n) at c.write_rest.ensures.err)
