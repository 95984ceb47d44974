use Rattle.std.proofs.{Common.{◌<◌, ◌∷◌, [], refl, arith}, lemmas.List.Elements.{All-nil, All-cons}}
use Rattle.link_cbor.proofs.Pushes.{pushed_more}
use Rattle.link_cbor.proofs.check.Check.push.Goals as goal

pub returns : goal.returns
returns c kind before pushed =
    pushed_more kind c.args.self.now _ before (c.args.byte ∷ []) pushed
    (All-cons (λ byte. byte < 256) c.args.byte [] (omega arith) (All-nil (λ byte. byte < 256)))
    refl (c.register_after-self.ensures c.args.self.now.kind c.tables.ensures)
